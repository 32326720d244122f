use Rattle.std.proofs.Common.{◌<◌, length, arith, inl, inr}
use Rattle.marker_tiles.specs.UnderTags.{covers_if}
use Rattle.marker_tiles.proofs.Enclosing.{any_of_more}
use Rattle.std.specs.FinMap as map
use Rattle.marker_tiles.proofs.strokes.window_round_all.Goals as goal

pub loop-tag-preserved : goal.loop-tag-preserved
loop-tag-preserved c p has =
    let state = c.args.state.now in
    let tags = c.args.tags.now in
    let i = c.loop-tag.tag-index in
    let within : i < length tags = omega (arith, c.loop-tag-test.true) in
    elim (any_of_more (λ t. covers_if (map.get state.strokes t) p) tags i c.tag-item.result within c.tag-item.is has) [
      | inl earlier ↦ c.joined-window.ensures.first p (c.loop-tag.invariant p earlier)
      | inr here ↦ c.joined-window.ensures.second p (c.window_round.ensures p here)
    ]
