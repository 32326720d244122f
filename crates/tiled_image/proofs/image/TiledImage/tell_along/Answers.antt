-- What the tactics leave open of `tell_along`.
use Rattle.grid_core.specs.Raster.{value_at}
use Rattle.tiled_image.specs.RaisedTiles.{whole_of}
use Rattle.tiled_image.proofs.Beyond.{rims_seen}
use Rattle.tiled_image.proofs.image.TiledImage.tell_along.Goals as goal

pub returns-clause-ok : goal.returns-clause-ok
returns-clause-ok c mask value image limits_are has raised same =
    let i = c.self.inside in
    let a = c.args in
    let now = a.self.now in
    let tiling_is = c.tiling-tiling.ensures.value in
    let whole = whole_of i.tiling i.rows i.parts i.newer i.rims in
    let rims_are = rims_seen now i.tiling whole i.rims c.self.view_is c.self.invariant.shown.rims_are in
    let sides =
    (rw tiling_is at (c.sides_at-sides.ensures.values now.image mask value image)) rims_are limits_are has raised same
    in
    (rw tiling_is at (c.receive_along.ensures.ok image (value_at mask))) sides
