-- What the tactics leave open of `write_newer`.
use Rattle.std.proofs.Common.{Bool, List, length, subst}
use Rattle.tile_work.specs.TileSet.{Has}
use Rattle.tile_work.proofs.TileSets.{replicate_has_none}
use Rattle.tiled_image.proofs.WrittenTiles.{none_newer}
use Rattle.tiled_image.proofs.keeping.write_newer.Goals as goal

pub returns-clause-kept : goal.returns-clause-kept
returns-clause-kept c =
    none_newer c.requires c.write_parts.new.rows c.clear.new.self c.write_parts.ensures c.clear.ensures

pub returns-clause-none : goal.returns-clause-none
returns-clause-none c = λ t has.
    replicate_has_none (length c.args.newer.now) t (subst (λ (bits : List Bool). Has bits t) c.clear.ensures has)
