use Rattle.std.proofs.Common.{arith}
use Rattle.pgm_codec.proofs.SampleDigits.{sample_put}
use Rattle.pgm_codec.proofs.plain_writing.put_sample.Goals as goal

pub returns : goal.returns
returns c =
    sample_put c.args.sample c.args.out.now.items c.put_last_digit.new.out.items c.put_last_digit-2.new.out.items
    c.put_last_digit-3.new.out.items c.put_last_digit-4.new.out.items c.push.new.self.items
    (omega (arith, c.ranges.sample.fits))
    c.in_ok-put_last_digit.ensures c.in_ok-put_last_digit-2.ensures c.in_ok-put_last_digit-3.ensures
    c.in_ok-put_last_digit-4.ensures c.in_ok-push.ensures.items
