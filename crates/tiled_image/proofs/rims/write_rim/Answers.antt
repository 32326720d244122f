-- What the tactics leave open of `write_rim`.
use Rattle.tiled_image.proofs.WrittenRims.{four_written}
use Rattle.tiled_image.proofs.rims.write_rim.Goals as goal

pub returns-clause-written : goal.returns-clause-written
returns-clause-written c whole are =
    let a = c.args in
    four_written a.tiling.now a.tile c.side.ensures.tiled c.requires.tile whole a.shown c.requires.lies a.image.now
    c.write_strip.new.image c.write_strip-2.new.image c.write_strip-3.new.image c.write_strip-4.new.image
    (c.write_strip.ensures.written whole are) (c.write_strip-2.ensures.written whole are)
    (c.write_strip-3.ensures.written whole are) (c.write_strip-4.ensures.written whole are)
