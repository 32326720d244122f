use Rattle.std.proofs.Common.{◌<◌, ◌≤◌, ap, ◌∙◌, arith, ◌&&◌}
use Rattle.stroke_core.specs.{declared.span.Span.Span, Spans.spans_of}
use Rattle.marker_tiles.specs.Painting.{in_window}
use Rattle.marker_tiles.proofs.Painted.{painted_also, painted_nothing, painted_alike}
use Rattle.marker_tiles.proofs.Spans.{span_between, one_span_more, spans_above, spans_below}
use Rattle.marker_tiles.proofs.paint.paint.Goals as goal

pub loop-i-init : goal.loop-i-init
loop-i-init c =
    painted_nothing c.requires.size (λ p _. spans_above c.args.window (spans_of c.args.stroke.now)
    c.first_span_from-from.result p c.first_span_from-from.ensures.point.0)

pub paint_span-requires-clause-row : goal.paint_span-requires-clause-row
paint_span-requires-clause-row c =
    let from = c.first_span_from-from in
    let end = c.first_span_from-end in (
      span_between (λ (s : Span). c.args.window.top ≤ s.y) (spans_of c.args.stroke.now) from.result _ c.loop-i.i
          c.span.result from.ensures.point.1 c.span.ensures.value (omega arith) (omega arith),
      span_between (λ (s : Span). s.y < c.args.window.bottom) (spans_of c.args.stroke.now) 0 end.result c.loop-i.i
          c.span.result end.ensures.point.0 c.span.ensures.value (omega arith) (omega arith),
    )

pub loop-i-preserved : goal.loop-i-preserved
loop-i-preserved c =
    painted_also c.loop-i.invariant c.paint_span.ensures (λ p _. one_span_more c.args.window
    (spans_of c.args.stroke.now) c.loop-i.i c.span.result p c.span.ensures.value)

pub returns : goal.returns
returns c =
    let window = c.args.window in
    painted_alike c.loop-i.invariant
    (λ p _.
    ap (λ b. in_window window p && b) (c.spans_cover.ensures c.args.stroke.now p)
    ∙ spans_below window (spans_of c.args.stroke.now) c.loop-i.i p
    (λ k d low high. c.first_span_from-end.ensures.point.1 k d (omega arith) high))
