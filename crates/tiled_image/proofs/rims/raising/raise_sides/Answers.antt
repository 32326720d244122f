-- What the tactics leave open of `raise_sides`.
use Rattle.tiled_image.proofs.RaisedRims.{four_raised}
use Rattle.tiled_image.proofs.rims.raising.raise_sides.Goals as goal

pub returns : goal.returns
returns c image value is_rim has =
    let a = c.args in
    four_raised a.tiling.now c.side.ensures.tiled a.tile c.requires.tile image value a.rim.now has a.values.now is_rim
    c.raise_side.new.values c.raise_side-2.new.values c.raise_side-3.new.values c.raise_side-4.new.values
    c.raise_side.ensures c.raise_side-2.ensures c.raise_side-3.ensures c.raise_side-4.ensures
