-- What the tactics leave open of `raise_stroke`.
use Rattle.std.proofs.Common.{◌≡◌, ◌<◌, length, take, refl, sym, ap, ◌∙◌, arith}
use Rattle.std.proofs.Math.Seq.{take-length}
use Rattle.stroke_core.specs.Spans.{spans_of}
use Rattle.tile_work.proofs.RenewingBounds.{none_rises, rises_also}
use Rattle.tile_work.proofs.RenewingRises.{still_on, raised_also, raised_nothing, raised_alike}
use Rattle.tile_work.proofs.RenewingStrokes.{some_has, one_span_more}
use Rattle.tile_work.proofs.renewing.raise.raise_stroke.Goals as goal

pub loop-i-init : goal.loop-i-init
loop-i-init c = (raised_nothing c.requires.at_hand.size.filled (λ p _. refl), none_rises)

pub raise_clipped-requires-clause-bounds : goal.raise_clipped-requires-clause-bounds
raise_clipped-requires-clause-bounds c = c.loop-i.invariant.1.widened.count ∙ c.requires.bounds

pub loop-i-preserved : goal.loop-i-preserved
loop-i-preserved c =
    let spans = spans_of c.args.stroke.now in
    let within : c.loop-i.i < length spans = omega (arith, c.loop-i-test.true, c.span_count-i-end.ensures) in (
      raised_also (still_on c.requires.at_hand.marker_is c.requires.at_hand.size) c.loop-i.invariant.0
          c.raise_clipped.ensures.raised
          (λ p _. one_span_more spans c.loop-i.i c.span.result p within c.span.ensures.value),
      rises_also c.loop-i.invariant.1 c.raise_clipped.ensures.bounds,
    )

pub returns-clause-raised : goal.returns-clause-raised
returns-clause-raised c =
    let spans = spans_of c.args.stroke.now in
    let all : c.loop-i.i ≡ length spans =
    omega (arith, c.loop-i-test.false, c.span_count-i-end.ensures, c.loop-i.auto.i-end) in
    raised_alike c.loop-i.invariant.0
    (λ p _. c.spans_cover.ensures c.args.stroke.now p
    ∙ ap (λ l. some_has l p) (sym (ap (λ n. take n spans) all ∙ take-length spans)))
