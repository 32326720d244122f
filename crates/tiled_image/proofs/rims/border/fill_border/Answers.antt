-- What the tactics leave open of `fill_border`.
use Rattle.tiled_image.proofs.Sides.{border_shown}
use Rattle.tiled_image.proofs.rims.border.fill_border.Goals as goal

pub returns : goal.returns
returns c value has =
    let a = c.args in
    border_shown a.tiling.now a.tile c.side.ensures.tiled c.requires.tile value a.cells.now c.fill_side.new.cells
    c.fill_side-2.new.cells c.fill_side-3.new.cells c.fill_side-4.new.cells (c.fill_side.ensures value has)
    (c.fill_side-2.ensures value has) (c.fill_side-3.ensures value has) (c.fill_side-4.ensures value has)
