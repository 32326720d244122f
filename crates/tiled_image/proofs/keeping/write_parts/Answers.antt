-- What the tactics leave open of `write_parts`.
use Rattle.std.proofs.Common.{◌<◌, subst}
use Rattle.tiled_image.proofs.KeptImages.{is_kept}
use Rattle.tiled_image.proofs.WrittenTiles.{all_written, none_written, one_more_written}
use Rattle.tiled_image.proofs.keeping.write_parts.Goals as goal

pub loop-tile-init : goal.loop-tile-init
loop-tile-init c = none_written c.requires

pub write_tile-requires-clause-kept : goal.write_tile-requires-clause-kept
write_tile-requires-clause-kept c = is_kept c.loop-tile.invariant.kept

pub write_tile-requires-clause-tile : goal.write_tile-requires-clause-tile
write_tile-requires-clause-tile c =
    subst (λ n. c.in-Some.tile < n) c.loop-tile.invariant.kept.count c.in-Some.ensures.has.0

pub loop-tile-preserved : goal.loop-tile-preserved
loop-tile-preserved c =
    one_more_written c.loop-tile.invariant c.in-Some.tile c.in-Some.ensures c.write_tile.new.rows c.write_tile.ensures

pub returns : goal.returns
returns c = all_written c.loop-tile.invariant c.in_default.ensures
