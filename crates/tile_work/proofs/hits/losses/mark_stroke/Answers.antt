-- What the tactics leave open of `mark_stroke`.
use Rattle.std.proofs.Common.{◌≡◌, ◌<◌, length, arith}
use Rattle.stroke_core.specs.Spans.{spans_of}
use Rattle.tile_work.proofs.HittingSpans.{next_span, all_spans}
use Rattle.tile_work.proofs.hits.losses.mark_stroke.Goals as goal

pub loop-i-preserved : goal.loop-i-preserved
loop-i-preserved c =
    let seed = c.args.stroke.now in
    let within : c.loop-i.i < length (spans_of seed) = omega (arith, c.loop-i-test.true, c.span_count-i-end.ensures) in
    next_span c.args.tiling.now seed c.loop-i.i within c.span.ensures.value c.loop-i.invariant c.mark_span.ensures

pub returns : goal.returns
returns c =
    let seed = c.args.stroke.now in
    let all : c.loop-i.i ≡ length (spans_of seed) =
    omega (arith, c.loop-i-test.false, c.loop-i.auto.i-end, c.span_count-i-end.ensures) in
    all_spans c.args.tiling.now seed c.loop-i.i all c.spans_cover.ensures c.loop-i.invariant
