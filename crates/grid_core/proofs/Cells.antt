-- Each place among the cells of an image is the place of one pixel.
use Rattle.std.proofs.Common.{◌≡◌, ℕ, zero, suc, ◌+◌, ◌*◌, ◌/◌, ◌%◌, ◌<◌, ◌≤◌, length, sym, ◌∙◌, ap, subst, zero-mul}
use Rattle.std.proofs.Common.{arith, ◌≢◌, slice_index}
use Rattle.std.proofs.Math.Nat.{mod-lt, mod-add-div'}
use Rattle.std.proofs.lemmas.Nat.{mul-add-lt, same_from_place, div_below}
use Rattle.std.proofs.lemmas.List.{get_or-set_same, get_or-set_other, ext_get_or}
use Rattle.grid_core.specs.declared.pixel.Pixel.{Pixel}
use Rattle.grid_core.specs.Raster.{Raster, IsInside, IsFilled, IsBelow, index_of, value_at, with_value}
use Rattle.grid_core.proofs.Pixels.{same_pixel}

-- the place of a pixel is one of the cells
pub index_of-within : (r : Raster) (p : Pixel) → IsFilled r → IsInside r.width r.height p
    → index_of r.width p < length r.cells
index_of-within r p filled inside = omega (arith, mul-add-lt p.y r.width p.x r.height inside.1 inside.0, filled)

-- pixels of one place are one pixel
pub same_place : (width height : ℕ) (p q : Pixel) → IsInside width height p → IsInside width height q
    → index_of width p ≡ index_of width q → p ≡ q
same_place width height p q inside_p inside_q e =
    let same = same_from_place p.y p.x q.y q.x width inside_p.0 inside_q.0 e in
    same_pixel p q same.1 same.0

-- the pixel of a place
abbrev pub pixel_of : ℕ → ℕ → Pixel
pixel_of width i = record { x = i % width; y = i / width }

pub index_of-pixel_of : (width i : ℕ) → index_of width (pixel_of width i) ≡ i
index_of-pixel_of width i = omega (arith, mod-add-div' i width)

-- a product with numbers below it is of a factor above 0
some_factor : (i width height : ℕ) → i < width * height → 0 < width
some_factor i zero height below = absurd (omega (arith, below, zero-mul height))
some_factor i (suc width) height below = omega arith

pub pixel_of-inside : (r : Raster) (i : ℕ) → IsFilled r → i < length r.cells
    → IsInside r.width r.height (pixel_of r.width i)
pixel_of-inside r i filled within =
    let below : i < r.width * r.height = omega (arith, within, filled) in
    let some : 0 < r.width = some_factor i r.width r.height below in
    (mod-lt i some, div_below i r.width r.height some (omega (arith, below)))

pub set_is_read : (r : Raster) (p : Pixel) (v : ℕ) → IsFilled r → IsInside r.width r.height p
    → value_at (with_value r p v) p ≡ v
set_is_read r p v filled inside = get_or-set_same r.cells (index_of r.width p) v 0 (index_of-within r p filled inside)

pub set_keeps_others : (r : Raster) (p q : Pixel) (v : ℕ) → IsInside r.width r.height p → IsInside r.width r.height q
    → q ≢ p → value_at (with_value r p v) q ≡ value_at r q
set_keeps_others r p q v inside_p inside_q other =
    get_or-set_other r.cells (index_of r.width p) (index_of r.width q) v 0
    (λ e. other (same_place r.width r.height q p inside_q inside_p e))

-- the place of a pixel in an image of the same width
place_in_same : (r s : Raster) (i : ℕ) → r.width ≡ s.width → index_of s.width (pixel_of r.width i) ≡ i
place_in_same r s i same = ap (λ w. i / r.width * w + i % r.width) (sym same) ∙ index_of-pixel_of r.width i

pub equal_images : (r s : Raster) → IsFilled r → IsFilled s → r.width ≡ s.width → r.height ≡ s.height
    → ((p : Pixel) → IsInside r.width r.height p → value_at r p ≡ value_at s p) → r ≡ s
equal_images r s filled_r filled_s same_width same_height equal =
    let long : length r.cells ≡ length s.cells =
    filled_r ∙ ap (λ w. w * r.height) same_width ∙ ap (λ h. s.width * h) same_height ∙ sym filled_s
    in
    let cells : r.cells ≡ s.cells = ext_get_or 0 r.cells s.cells long (λ i within.
    sym (ap (λ k. slice_index r.cells k) (index_of-pixel_of r.width i))
    ∙ equal (pixel_of r.width i) (pixel_of-inside r i filled_r within)
    ∙ ap (λ k. slice_index s.cells k) (place_in_same r s i same_width))
    in
    λ i. record { width = same_width i; height = same_height i; cells = cells i }

pub below_at_each_pixel : (r s : Raster) → IsFilled r → IsBelow r s → (p : Pixel) → IsInside r.width r.height p
    → value_at r p ≤ value_at s p
below_at_each_pixel r s filled below p inside =
    subst (λ w. value_at r p ≤ slice_index s.cells (index_of w p)) below.width
    (below.values (index_of r.width p) (index_of-within r p filled inside))

pub each_pixel_below : (r s : Raster) → IsFilled r → r.width ≡ s.width → r.height ≡ s.height
    → ((p : Pixel) → IsInside r.width r.height p → value_at r p ≤ value_at s p) → IsBelow r s
each_pixel_below r s filled same_width same_height below = record {
  width = same_width;
  height = same_height;
  values = λ k within.
      let at_r : value_at r (pixel_of r.width k) ≡ slice_index r.cells k =
      ap (λ i. slice_index r.cells i) (index_of-pixel_of r.width k) in
      let at_s : value_at s (pixel_of r.width k) ≡ slice_index s.cells k =
      ap (λ i. slice_index s.cells i) (place_in_same r s k same_width) in
      omega (arith, at_r, at_s, below (pixel_of r.width k) (pixel_of-inside r k filled within));
}
