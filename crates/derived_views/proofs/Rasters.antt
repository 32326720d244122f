-- Images with a function of each value.
use Rattle.std.proofs.Common.{◌≡◌, ◌∙◌, ℕ, ◌≤◌, ◌-◌, ◌*◌, ap, arith, length, map, sym, slice_index, EachIndex}
use Rattle.std.proofs.lemmas.List.{ext_get_or, get_or-map, length-map}
use Rattle.grid_core.specs.declared.pixel.Pixel.{Pixel}
use Rattle.grid_core.specs.Raster.{Raster, IsInside, IsFilled, index_of, value_at}
use Rattle.grid_core.proofs.Cells.{index_of-within}
use Rattle.derived_views.specs.Rasters.{IsDifference, complement_of, mapped}

-- the value at a pixel is the function of what it was
pub mapped_value : (f : ℕ → ℕ) (r : Raster) (p : Pixel) → IsFilled r → IsInside r.width r.height p
    → value_at (mapped f r) p ≡ f (value_at r p)
mapped_value f r p filled inside =
    get_or-map f r.cells (index_of r.width p) 0 0 (index_of-within r p filled inside)

-- a bound of all values holds at each pixel
pub value_within : (r : Raster) (top : ℕ) → EachIndex r.cells (λ k. slice_index r.cells k ≤ top) → IsFilled r
    → (p : Pixel) → IsInside r.width r.height p → value_at r p ≤ top
value_within r top bound filled p inside = bound (index_of r.width p) (index_of-within r p filled inside)

-- what is left of one value after each of an image is the image's complement
pub complement_is : (top : ℕ) (old new : Raster) → IsFilled old → IsDifference (λ _. top) old new
    → new ≡ complement_of top old
complement_is top old new filled turned =
    let long : length new.cells ≡ length old.cells =
    turned.filled ∙ (ap (λ w. w * new.height) turned.width ∙ (ap (λ h. old.width * h) turned.height ∙ sym filled)) in
    let each : new.cells ≡ map (λ v. top - v) old.cells =
    ext_get_or 0 new.cells (map (λ v. top - v) old.cells) (long ∙ sym (length-map old.cells (λ v. top - v)))
    (λ k within. turned.values k within
    ∙ sym (get_or-map (λ v. top - v) old.cells k 0 0 (omega (arith, within, long)))) in
    ap (λ w. record { width = w; height = new.height; cells = new.cells }) turned.width
    ∙ (ap (λ h. record { width = old.width; height = h; cells = new.cells }) turned.height
    ∙ ap (λ cells. record { width = old.width; height = old.height; cells = cells }) each)
