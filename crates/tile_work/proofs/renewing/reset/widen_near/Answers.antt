-- What the tactics leave open of `widen_near`.
use Rattle.std.proofs.Common.{◌∙◌, ◌<◌, ap, arith, length}
use Rattle.grid_core.specs.Bounds.{bounds_of, intersection}
use Rattle.tile_work.proofs.RenewingBounds.{one_more_near, listed_or_last}
use Rattle.std.proofs.lemmas.Grind.{common_steps}
use Rattle.tile_work.proofs.renewing.reset.widen_near.Goals as goal

pub loop-tile-preserved : goal.loop-tile-preserved
loop-tile-preserved c =
    let tiles = c.args.tiles.now in
    let i = c.loop-tile.tile-index in
    let within : i < length tiles = omega (arith, c.loop-tile-test.true) in
    one_more_near c.loop-tile.invariant
    (omega (arith, c.requires.tiles i within, c.requires.count, c.loop-tile.invariant.widened.count))
    (c.intersection.ensures ∙ ap (λ b. intersection b c.args.near) (c.of.ensures ∙ ap bounds_of c.rect.ensures.value))
    c.widen.ensures (λ t listed. listed_or_last tiles i t within listed)

pub returns : goal.returns
returns c = grind (arith, common_steps)
