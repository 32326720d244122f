-- What the tactics leave open of `take_sides`.
use Rattle.std.specs.Prelude.{⊤}
use Rattle.tiled_image.proofs.TileRims.{four_changed}
use Rattle.tiled_image.proofs.rims.take_sides.Goals as goal

pub returns : goal.returns
returns c value has =
    let a = c.args in
    four_changed a.tiling.now c.side.ensures.tiled a.tile c.requires.tile (λ _. ⊤) value a.values.now
    c.take_side.new.values c.take_side-2.new.values c.take_side-3.new.values c.take_side-4.new.values
    (c.take_side.ensures value has) (c.take_side-2.ensures value has) (c.take_side-3.ensures value has)
    (c.take_side-4.ensures value has)
