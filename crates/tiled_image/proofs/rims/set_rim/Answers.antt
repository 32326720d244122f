-- What the tactics leave open of `set_rim`.
use Rattle.std.proofs.Common.{◌≡◌}
use Rattle.tiled_image.proofs.TileRims.{four_changed}
use Rattle.tiled_image.proofs.rims.set_rim.Goals as goal

pub returns : goal.returns
returns c =
    let a = c.args in
    four_changed a.tiling.now c.side.ensures.tiled a.tile c.requires.tile (λ q. q ≡ a.p) (λ _. a.value) a.values.now
    c.set_in_strip.new.values c.set_in_strip-2.new.values c.set_in_strip-3.new.values c.set_in_strip-4.new.values
    c.set_in_strip.ensures c.set_in_strip-2.ensures c.set_in_strip-3.ensures c.set_in_strip-4.ensures
