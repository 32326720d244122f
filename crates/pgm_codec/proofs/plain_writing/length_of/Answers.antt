use Rattle.std.proofs.Common.{◌+◌, slice_index, decimal, length, arith}
use Rattle.std.proofs.lemmas.List.Sums.{sum_by_more}
use Rattle.pgm_codec.proofs.SampleDigits.{five_at_most}
use Rattle.pgm_codec.proofs.plain_writing.length_of.Goals as goal

pub overflow_add-length : goal.overflow_add-length
overflow_add-length c =
    let few = five_at_most (slice_index c.args.samples.now c.loop-i.i) c.digits.result
    (omega (arith, c.type_inv.samples c.loop-i.i)) c.digits.ensures in
    omega (arith, few)

pub overflow_add-length-in-loop-i : goal.overflow_add-length-in-loop-i
overflow_add-length-in-loop-i c =
    let few = five_at_most (slice_index c.args.samples.now c.loop-i.i) c.digits.result
    (omega (arith, c.type_inv.samples c.loop-i.i)) c.digits.ensures in
    omega (arith, few, c.loop-i.invariant.few, c.loop-i-test.true, c.requires)

pub loop-i-preserved : goal.loop-i-preserved
loop-i-preserved c =
    let samples = c.args.samples.now in
    let few = five_at_most (slice_index samples c.loop-i.i) c.digits.result
    (omega (arith, c.type_inv.samples c.loop-i.i)) c.digits.ensures in
    let more = sum_by_more (λ s. length (decimal s) + 1) samples c.loop-i.i 0 c.loop-i-test.true in
    record {
      sum = omega (arith, more, c.loop-i.invariant.sum, c.digits.ensures);
      few = omega (arith, few, c.loop-i.invariant.few);
    }
