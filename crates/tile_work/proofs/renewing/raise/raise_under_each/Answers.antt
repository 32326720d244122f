-- What the tactics leave open of `raise_under_each`.
use Rattle.std.proofs.Common.{◌≡◌, ◌<◌, length, take, refl, sym, ap, ◌∙◌, arith}
use Rattle.std.proofs.Math.Seq.{take-length}
use Rattle.marker_tiles.specs.UnderTags.{some_covers}
use Rattle.marker_tiles.proofs.Raising.{nothing_there}
use Rattle.tile_work.proofs.RenewingBounds.{none_rises, rises_also}
use Rattle.tile_work.proofs.RenewingSpans.{made_alike}
use Rattle.tile_work.proofs.RenewingRises.{raised_also, raised_nothing, raised_alike}
use Rattle.tile_work.proofs.RenewingStrokes.{tag_with_stroke, tag_without_stroke, raised_under}
use Rattle.tile_work.proofs.renewing.raise.raise_under_each.Goals.{in-Some, in_default}
use Rattle.tile_work.proofs.renewing.raise.raise_under_each.Goals as goal

pub loop-tag-init : goal.loop-tag-init
loop-tag-init c = (raised_nothing c.width.ensures.sized.filled (λ p _. refl), none_rises)

pub raise_stroke-requires-clause-bounds : goal.raise_stroke-requires-clause-bounds
raise_stroke-requires-clause-bounds c = c.loop-tag.invariant.1.widened.count ∙ c.requires.bounds

pub loop-tag-preserved : goal.loop-tag-preserved
loop-tag-preserved c =
    let state = c.args.state.now in
    let tags = c.args.tags.now in
    let i = c.loop-tag.tag-index in
    let tag = c.tag-item.result in
    let within : i < length tags = omega (arith, c.loop-tag-test.true) in
    elim c.match-stroke.branch [
      | in-Some w ↦
          rw (w.image-is, w.work-is, w.bounds-is) (
            raised_also c.requires.parts.image_is c.loop-tag.invariant.0 w.raise_stroke.ensures.raised
                (λ p _. tag_with_stroke state tags i tag w.in-Some.stroke.now p within c.tag-item.is
                (sym w.in-Some.ensures)),
            rises_also c.loop-tag.invariant.1 w.raise_stroke.ensures.bounds,
          )
      | in_default w ↦
          rw (w.image-is, w.work-is, w.bounds-is) (
            raised_alike c.loop-tag.invariant.0
                (λ p _. tag_without_stroke state tags i tag p within c.tag-item.is
                (sym c.stroke.ensures ∙ nothing_there c.stroke.result w.in_default.not-Some)),
            c.loop-tag.invariant.1,
          )
    ]

pub returns-clause-raised : goal.returns-clause-raised
returns-clause-raised c =
    let tags = c.args.tags.now in
    let all : c.loop-tag.tag-index ≡ length tags =
    omega (arith, c.loop-tag-test.false, c.loop-tag.auto.tag-index-end) in
    record {
      size = c.loop-tag.invariant.0.values.size;
      count = c.loop-tag.invariant.0.work.count;
      values =
          raised_under c.args.state.now tags c.args.marker.now c.args.image.now c.loop-tag.image
          (made_alike c.loop-tag.invariant.0.values
          (λ p _. ap (λ l. some_covers c.args.state.now l p) (sym (ap (λ n. take n tags) all ∙ take-length tags))));
      dirty = c.loop-tag.invariant.0.work.each;
    }
