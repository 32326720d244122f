-- Pixels of an image counted from the corner of a rectangle, and the tiles that they lie in.
use Rattle.std.proofs.Common.{◌≡◌, ℕ, ◌<◌, ap, ◌∙◌, refl, arith}
use Rattle.grid_core.specs.{declared.pixel.Pixel.Pixel, declared.rect.Rect.Rect, Bounds.LieIn, Bounds.bounds_of}
use Rattle.grid_core.specs.Raster.{Raster, IsInside, value_at}
use Rattle.grid_core.specs.Rects.{IsInRect, IsPart, RectFits, in_image}
use Rattle.grid_core.specs.Tiles.{Tiles, IsTiled, count_of, rect_of, tile_of}
use Rattle.grid_core.proofs.{Pixels.same_pixel, Rectangles.in_rect_inside, Tilings.each_pixel_in_one_tile}
use Rattle.grid_core.proofs.{Tilings.tile_pixels, Tilings.tiles_lie_inside}
use Rattle.tile_generations.specs.Jobs.{all_of}
use Rattle.tiled_image.specs.Shown.{place_in, value_in}

-- ---- a rectangle

pub image_of_place : (rect : Rect) (p : Pixel) → IsInRect rect p → in_image rect (place_in rect p) ≡ p
image_of_place rect p inside =
    same_pixel (in_image rect (place_in rect p)) p (omega (arith, inside.0)) (omega (arith, inside.2))

pub place_of_image : (rect : Rect) (p : Pixel) → place_in rect (in_image rect p) ≡ p
place_of_image rect p = same_pixel (place_in rect (in_image rect p)) p (omega arith) (omega arith)

pub place_inside : (rect : Rect) (p : Pixel) → IsInRect rect p → IsInside rect.w rect.h (place_in rect p)
place_inside rect p inside = (omega (arith, inside.0, inside.1), omega (arith, inside.2, inside.3))

pub image_in_rect : (rect : Rect) (p : Pixel) → IsInside rect.w rect.h p → IsInRect rect (in_image rect p)
image_in_rect rect p inside = (omega arith, omega (arith, inside.0), omega arith, omega (arith, inside.1))

-- a pixel of a rectangle is one of each rectangle in which that lies
pub in_wider : (rect wider : Rect) (p : Pixel) → LieIn (bounds_of rect) wider → IsInRect rect p → IsInRect wider p
in_wider rect wider p lies inside = (
  omega (arith, inside.0, lies.0),
  omega (arith, inside.1, lies.1),
  omega (arith, inside.2, lies.2),
  omega (arith, inside.3, lies.3),
)

-- the value of a part is the whole image's
pub value_in_part : (rect : Rect) (whole piece : Raster) → IsPart rect whole piece → (p : Pixel) → IsInRect rect p
    → value_in rect piece p ≡ value_at whole p
value_in_part rect whole piece is_part p inside =
    is_part.values (place_in rect p) (place_inside rect p inside)
    ∙ ap (λ (q : Pixel). value_at whole q) (image_of_place rect p inside)

pub lies_in_itself : (rect : Rect) → LieIn (bounds_of rect) rect
lies_in_itself rect = (omega arith, omega arith, omega arith, omega arith)

-- ---- all of an image

pub place_in_all : (image : Raster) (p : Pixel) → place_in (all_of image) p ≡ p
place_in_all image p = same_pixel (place_in (all_of image) p) p (omega arith) (omega arith)

pub value_in_all : (image : Raster) (p : Pixel) → value_in (all_of image) image p ≡ value_at image p
value_in_all image p = ap (λ (q : Pixel). value_at image q) (place_in_all image p)

pub lies_in_all : (image : Raster) (rect : Rect) → RectFits image.width image.height rect
    → LieIn (bounds_of rect) (all_of image)
lies_in_all image rect fits = (omega arith, omega (arith, fits.columns), omega arith, omega (arith, fits.rows))

pub in_all : (image : Raster) (p : Pixel) → IsInside image.width image.height p → IsInRect (all_of image) p
in_all image p inside = (omega arith, omega (arith, inside.0), omega arith, omega (arith, inside.1))

-- ---- a tile

module _ (tiling : Tiles) (tile : ℕ) (tiled : IsTiled tiling) (within : tile < count_of tiling) where
  -- the pixels of a tile's rectangle are the tile's
  pub in_tile : (p : Pixel) → IsInside (rect_of tiling tile).w (rect_of tiling tile).h p
      → IsInside tiling.width tiling.height (in_image (rect_of tiling tile) p)
      × (tile_of tiling (in_image (rect_of tiling tile) p) ≡ tile)
  in_tile p inside = (tile_pixels tiling tile (in_image (rect_of tiling tile) p) tiled within).1 (p, inside, refl)

  pub tile_from_rect : (p : Pixel) → IsInside tiling.width tiling.height p → IsInRect (rect_of tiling tile) p
      → tile_of tiling p ≡ tile
  tile_from_rect p inside there = ((each_pixel_in_one_tile tiling p tiled inside).1 tile within).0 there

  -- a pixel that stands in the rectangle is one of the image, and of the tile
  pub pixel_in_tile : (p : Pixel) → IsInRect (rect_of tiling tile) p
      → IsInside tiling.width tiling.height p × (tile_of tiling p ≡ tile)
  pixel_in_tile p there =
      let inside = in_rect_inside tiling.width tiling.height (rect_of tiling tile) p
      (tiles_lie_inside tiling tile tiled within) there in
      (inside, tile_from_rect p inside there)

  pub rect_from_tile : (p : Pixel) → IsInside tiling.width tiling.height p → tile_of tiling p ≡ tile
      → IsInRect (rect_of tiling tile) p
  rect_from_tile p inside same = ((each_pixel_in_one_tile tiling p tiled inside).1 tile within).1 same

-- a pixel's tile is one of the tiles
pub tile_within : (tiling : Tiles) (p : Pixel) → IsTiled tiling → IsInside tiling.width tiling.height p
    → tile_of tiling p < count_of tiling
tile_within tiling p tiled inside = (each_pixel_in_one_tile tiling p tiled inside).0
