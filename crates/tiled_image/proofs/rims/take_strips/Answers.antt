-- What the tactics leave open of `take_strips`.
use Rattle.std.specs.Prelude.{⊤}
use Rattle.tiled_image.specs.Shown.{value_in}
use Rattle.tiled_image.proofs.TileRims.{four_changed}
use Rattle.tiled_image.proofs.rims.take_strips.Goals as goal

pub returns : goal.returns
returns c =
    let a = c.args in
    four_changed a.tiling.now c.side.ensures.tiled a.tile c.requires.tile (λ _. ⊤) (value_in a.shown a.source.now)
    a.values.now c.take_strip.new.values c.take_strip-2.new.values c.take_strip-3.new.values c.take_strip-4.new.values
    c.take_strip.ensures c.take_strip-2.ensures c.take_strip-3.ensures c.take_strip-4.ensures
