-- What the tactics leave open of `is_at_most_part`.
use Rattle.grid_core.specs.Tiles.{rect_of}
use Rattle.tiled_image.proofs.{ByPixels.at_most_by_pixels, ShownParts.at_most_in_source, ShownParts.at_most_in_whole}
use Rattle.tiled_image.proofs.image.TiledImage.is_at_most_part.Goals as goal

pub is_at_most_part-requires : goal.is_at_most_part-requires
is_at_most_part-requires c = c.in-Some.ensures.fits

pub returns-in-Some : goal.returns-in-Some
returns-in-Some c =
    let has = c.in-Some.ensures in
    let piece = c.args.piece.now in (
      λ yes. at_most_in_whole has piece (c.is_at_most_part.ensures.0 yes),
      λ is. c.is_at_most_part.ensures.1 (at_most_in_source has piece is),
    )

pub returns-else-has_below : goal.returns-else-has_below
returns-else-has_below c =
    let now = c.args.self.now in
    let by = at_most_by_pixels (rect_of now.tiling c.args.tile) now.image c.args.piece.now in (
      λ yes. by.0 (c.is_within_tile.ensures.0 yes),
      λ is. c.is_within_tile.ensures.1 (by.1 is),
    )
