-- What the tactics leave open of `copy_tiles`.
use Rattle.std.proofs.Common.{◌<◌, subst}
use Rattle.tiled_image.proofs.UpdatedCopies.{all_copied, none_copied_yet, one_more_copied}
use Rattle.tiled_image.proofs.updating.copy_tiles.Goals as goal

pub loop-tile-init : goal.loop-tile-init
loop-tile-init c = none_copied_yet c.args.tiles.now c.requires.copy

pub copy_tile-requires-clause-tile : goal.copy_tile-requires-clause-tile
copy_tile-requires-clause-tile c = subst (λ n. c.in-Some.tile < n) c.requires.tiles c.in-Some.ensures.has.0

pub copy_tile-requires-clause-copy : goal.copy_tile-requires-clause-copy
copy_tile-requires-clause-copy c = c.loop-tile.invariant.of_tiling

pub loop-tile-preserved : goal.loop-tile-preserved
loop-tile-preserved c =
    one_more_copied c.args.tiles.now c.loop-tile.next c.loop-tile.invariant c.in-Some.tile c.in-Some.ensures
    c.copy_tile.new.copy c.copy_tile.ensures

pub returns : goal.returns
returns c =
    all_copied c.args.tiles.now c.loop-tile.next c.loop-tile.invariant c.in_default.ensures c.requires.kept.of_tiling
