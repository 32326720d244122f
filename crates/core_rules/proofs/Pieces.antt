-- Pieces of images: each rectangle of an image is an image by itself.
use Rattle.std.proofs.Common.{◌≡◌, ℕ, ◌+◌, ◌*◌, ◌<◌, length, get_or, map, refl, sym, ◌∙◌, ap, subst, arith}
use Rattle.std.proofs.lemmas.Nat.{div-mul-add, mod-mul-add, mul-add-lt}
use Rattle.std.proofs.lemmas.List.{get_or-map, length-map}
use Rattle.std.proofs.lemmas.List.FromFn.{length-range_with_len, get_or-range_with_len}
use Rattle.std.specs.List.{range_with_len}
use Rattle.grid_core.specs.{declared.pixel.Pixel.Pixel, declared.rect.Rect.Rect, Raster.Raster, Raster.index_of}
use Rattle.grid_core.specs.{Raster.value_at, Path.Domain, Path.Inside, Path.Reaches, Reconstruction.IsReconstruction}
use Rattle.grid_core.specs.Rects.{in_image}
use Rattle.grid_core.proofs.{Cells.pixel_of, Pixels.same_pixel, Reach.reaches_rises}
use Rattle.core_rules.specs.Image.{IsPart}
use Rattle.core_rules.proofs.Supporting.{reaches_above}

-- the part of the image in the rectangle
abbrev pub piece : Rect → Raster → Raster
piece rect whole = record {
  width = rect.w;
  height = rect.h;
  cells = map (λ i. value_at whole (in_image rect (pixel_of rect.w i))) (range_with_len 0 (rect.w * rect.h));
}

pixel_of-index_of : (w : ℕ) (p : Pixel) → p.x < w → pixel_of w (index_of w p) ≡ p
pixel_of-index_of w p inside =
    same_pixel (pixel_of w (index_of w p)) p (mod-mul-add p.y w p.x inside) (div-mul-add p.y w p.x inside)

pub piece_is_part : (rect : Rect) (whole : Raster) → IsPart rect whole (piece rect whole)
piece_is_part rect whole =
    let value : ℕ → ℕ = λ i. value_at whole (in_image rect (pixel_of rect.w i)) in
    let places = range_with_len 0 (rect.w * rect.h) in
    record {
      width = refl;
      height = refl;
      filled = length-map places value ∙ length-range_with_len 0 (rect.w * rect.h);
      values = λ p inside.
          let i = index_of rect.w p in
          let below : i < rect.w * rect.h = omega (arith, mul-add-lt p.y rect.w p.x rect.h inside.1 inside.0) in
          let within : i < length places = rw (length-range_with_len 0 (rect.w * rect.h)) below in
          let place : get_or places i 0 ≡ i =
          get_or-range_with_len 0 (rect.w * rect.h) i 0 below ∙ (let e : 0 + i ≡ i = omega arith in e) in
          get_or-map value places i 0 0 within ∙ ap value place
          ∙ ap (λ (q : Pixel). value_at whole (in_image rect q)) (pixel_of-index_of rect.w p inside.0);
    }

-- ---- images that are equal inside

-- what holds of an image holds of one with the same values
pub reaches_same : (d : Domain) (mask other marker other_marker : Pixel → ℕ)
    → ((p : Pixel) → Inside d p → mask p ≡ other p) → ((p : Pixel) → Inside d p → marker p ≡ other_marker p)
    → (p : Pixel) (k : ℕ) → Reaches d mask marker p k → Reaches d other other_marker p k
reaches_same d mask other marker other_marker same_mask same_marker p k reach =
    reaches_rises d other marker other_marker (λ q h. omega (arith, same_marker q h)) p k
    (reaches_above d mask other marker (λ q h. omega (arith, same_mask q h)) p k reach)

pub reconstruction_same : (d : Domain) (mask other marker other_marker r s : Pixel → ℕ)
    → ((p : Pixel) → Inside d p → mask p ≡ other p) → ((p : Pixel) → Inside d p → marker p ≡ other_marker p)
    → ((p : Pixel) → Inside d p → r p ≡ s p) → IsReconstruction d mask marker r
    → IsReconstruction d other other_marker s
reconstruction_same d mask other marker other_marker r s same_mask same_marker same recon p inside = (
  subst (Reaches d other other_marker p) (same p inside)
      (reaches_same d mask other marker other_marker same_mask same_marker p (r p) (recon p inside).0),
  λ k above reach. (recon p inside).1 k (omega (arith, same p inside, above))
      (reaches_same d other mask other_marker marker (λ q h. sym (same_mask q h)) (λ q h. sym (same_marker q h)) p k
      reach),
)
