use Rattle.pgm_codec.proofs.PlainLoop.{line_put}
use Rattle.pgm_codec.proofs.plain_writing.put_line.Goals as goal

pub returns : goal.returns
returns c =
    line_put c.args.samples.now c.split_at.result.0.now c.split_at.result.1.now c.args.out.now.items
    c.put_sample.new.out.items c.put_behind.new.out.items c.push.new.self.items c.requires
    c.split_at.ensures.front c.split_at.ensures.back c.in_ok-put_sample.ensures c.in_ok-put_behind.ensures
    c.in_ok-push.ensures.items
