-- What the tactics leave open of `is_part`.
use Rattle.grid_core.specs.Tiles.{rect_of}
use Rattle.tiled_image.proofs.{ByPixels.part_by_pixels, ShownParts.part_in_source, ShownParts.part_in_whole}
use Rattle.tiled_image.proofs.image.TiledImage.is_part.Goals as goal

pub is_part-requires : goal.is_part-requires
is_part-requires c = c.in-Some.ensures.fits

pub returns-in-Some : goal.returns-in-Some
returns-in-Some c =
    let has = c.in-Some.ensures in
    let piece = c.args.piece.now in (
      λ yes. part_in_whole has piece (c.is_part.ensures.0 yes),
      λ is. c.is_part.ensures.1 (part_in_source has piece is),
    )

pub returns-in-None : goal.returns-in-None
returns-in-None c =
    let now = c.args.self.now in
    let by = part_by_pixels (rect_of now.tiling c.args.tile) now.image c.args.piece.now in (
      λ yes. by.0 (c.is_within_tile.ensures.0 yes),
      λ is. c.is_within_tile.ensures.1 (by.1 is),
    )
