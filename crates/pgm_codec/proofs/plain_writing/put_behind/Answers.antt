use Rattle.pgm_codec.proofs.PlainLoop.{behind_more}
use Rattle.pgm_codec.proofs.plain_writing.put_behind.Goals as goal

pub loop-i-preserved : goal.loop-i-preserved
loop-i-preserved c =
    behind_more c.loop-i.i c.args.out.now.items c.loop-i.out.items c.push.new.self.items c.put_sample.new.out.items
    c.args.samples.now c.loop-i-test.true c.loop-i.invariant c.in_ok-push.ensures.items c.in_ok-put_sample.ensures
