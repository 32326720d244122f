-- What the tactics leave open of `write_raised`.
use Rattle.std.proofs.Common.{◌<◌, subst}
use Rattle.tiled_image.specs.RaisedTiles.{shown_of}
use Rattle.tiled_image.proofs.FoldedTiles.{all_folded, none_before, one_more_folded}
use Rattle.tiled_image.proofs.LaidRims.{laid_in}
use Rattle.tiled_image.proofs.folding.write_raised.Goals as goal

pub loop-tile-init : goal.loop-tile-init
loop-tile-init c = none_before c.args.raised.now c.requires.shown

pub write_whole-requires-clause-count : goal.write_whole-requires-clause-count
write_whole-requires-clause-count c = c.loop-tile.invariant.rims_are.count

pub write_whole-requires-clause-tile : goal.write_whole-requires-clause-tile
write_whole-requires-clause-tile c =
    subst (λ n. c.in-Some.tile < n) c.requires.count c.in-Some.ensures.has.0

pub write_whole-requires-clause-width : goal.write_whole-requires-clause-width
write_whole-requires-clause-width c = c.loop-tile.invariant.below_of_tiling.width

pub write_whole-requires-clause-height : goal.write_whole-requires-clause-height
write_whole-requires-clause-height c = c.loop-tile.invariant.below_of_tiling.height

pub loop-tile-preserved : goal.loop-tile-preserved
loop-tile-preserved c =
    let l = c.loop-tile in
    one_more_folded c.args.raised.now l.next l.invariant c.in-Some.tile c.in-Some.ensures c.write_whole.new.image
    (c.write_whole.ensures.copied (shown_of c.args.tiling.now c.args.image.now c.args.rims.now)
    (laid_in l.invariant c.in-Some.tile))

pub returns : goal.returns
returns c = all_folded c.args.raised.now c.loop-tile.next c.loop-tile.invariant c.in_default.ensures
