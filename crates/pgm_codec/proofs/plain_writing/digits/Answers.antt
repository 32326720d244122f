use Rattle.std.proofs.Common.{arith}
use Rattle.pgm_codec.proofs.SampleDigits.{digit_count}
use Rattle.pgm_codec.proofs.plain_writing.digits.Goals as goal

pub returns : goal.returns
returns c =
    digit_count c.args.sample c.from-4.result c.from.result c.from-2.result c.from-3.result
    (omega (arith, c.ranges.sample.fits))
    c.from-4.ensures c.from.ensures c.from-2.ensures c.from-3.ensures
