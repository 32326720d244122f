-- Images that are made from their values.
use Rattle.std.proofs.Common.{◌≡◌, ℕ, ◌*◌, ◌<◌, ap, sym, ◌∙◌, zero-add}
use Rattle.std.proofs.lemmas.List.FromFn.{length-map-range_with_len, get_or-map-range_with_len}
use Rattle.std.proofs.lemmas.Nat.{mul-add-lt, div-mul-add, mod-mul-add}
use Rattle.grid_core.specs.declared.pixel.Pixel.{Pixel}
use Rattle.grid_core.specs.Raster.{Raster, IsFilled, IsInside, index_of, value_at}
use Rattle.grid_core.proofs.{Cells.equal_images, Pixels.same_pixel}
use Rattle.tiled_image.specs.TiledImage.{pixel_of, raster_of}

-- the pixel of a pixel's place is that pixel
pixel_of-index_of : (width : ℕ) (p : Pixel) → p.x < width → pixel_of width (index_of width p) ≡ p
pixel_of-index_of width p column =
    same_pixel (pixel_of width (index_of width p)) p (mod-mul-add p.y width p.x column)
    (div-mul-add p.y width p.x column)

module _ (width height : ℕ) (value : Pixel → ℕ) where
  pub raster_of-filled : IsFilled (raster_of width height value)
  raster_of-filled = length-map-range_with_len (λ place. value (pixel_of width place)) 0 (width * height)

  pub value_at-raster_of : (p : Pixel) → IsInside width height p → value_at (raster_of width height value) p ≡ value p
  value_at-raster_of p inside =
      let place = index_of width p in
      let within : place < width * height = mul-add-lt p.y width p.x height inside.1 inside.0 in
      get_or-map-range_with_len (λ k. value (pixel_of width k)) 0 (width * height) place place 0 within (zero-add place)
      ∙ ap value (pixel_of-index_of width p inside.0)

  -- an image of this size that has these values is the one that is made from them
  pub is_raster_of : (r : Raster) → IsFilled r → r.width ≡ width → r.height ≡ height
      → ((p : Pixel) → IsInside width height p → value p ≡ value_at r p) → raster_of width height value ≡ r
  is_raster_of r filled same_width same_height same =
      equal_images (raster_of width height value) r raster_of-filled filled (sym same_width) (sym same_height)
      (λ p inside. value_at-raster_of p inside ∙ same p inside)
