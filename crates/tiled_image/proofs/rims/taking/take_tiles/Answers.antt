-- What the tactics leave open of `take_tiles`.
use Rattle.std.proofs.Common.{subst}
use Rattle.tile_work.specs.TileSet.{Has}
use Rattle.tiled_image.specs.OwnRims.{ArePartTaken}
use Rattle.tiled_image.proofs.OwnRims.{all_rims_taken}
use Rattle.tiled_image.proofs.rims.taking.take_tiles.Goals as goal

pub returns : goal.returns
returns g c =
    let a = c.args in
    all_rims_taken (Has a.tiles.now) a.tiling.now a.image.now a.values.now c.take_part.new.values
    c.count-count.ensures.tiled
    (subst (λ n. ArePartTaken (Has a.tiles.now) a.tiling.now a.image.now 0 n a.values.now c.take_part.new.values)
    c.count-count.ensures.value c.take_part.ensures)
