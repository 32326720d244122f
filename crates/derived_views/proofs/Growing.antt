-- The views of images of values, by growing.
use Rattle.std.proofs.Common.{◌≡◌, ℕ, ◌+◌, ◌-◌, ◌*◌, ◌<◌, ◌≤◌, Bool, true, false, List, get_or, length, map, sym, ap}
use Rattle.std.proofs.Common.{subst, ◌∙◌, arith, inl, inr, slice_index, EachIndex}
use Rattle.std.proofs.Math.Nat.{zero-sub}
use Rattle.grid_core.specs.{declared.conn.Conn.Conn, declared.pixel.Pixel.Pixel, Path.domain_of}
use Rattle.grid_core.specs.Reconstruction.{IsReconstruction}
use Rattle.grid_core.specs.Raster.{Raster, IsInside, IsFilled, IsImageSize, IsOnBorder, index_of, max_level, value_at}
use Rattle.grid_core.proofs.Cells.{index_of-within, pixel_of, index_of-pixel_of, pixel_of-inside}
use Rattle.pgm_codec.specs.Graymap.{Graymap, IsGraymap}
use Rattle.derived_views.specs.{HMaxima.IsHMaxima, HMaxima.less, Holes.IsFill, Plateaus.IsRegionalMaxima}
use Rattle.derived_views.specs.Rasters.{mapped, complement_of, AgreeAt, IsPartOfBorder, MarksLower, IsWhereLower}
use Rattle.derived_views.proofs.{Filling.fill_by_growing, Climbing.maxima_by_growing}
use Rattle.derived_views.proofs.Rasters.{mapped_value, value_within}
use Rattle.std.proofs.Math.ListN as lists

-- the same cells at an equal width
at_width : (cells : List ℕ) (v w : ℕ) (p : Pixel) → v ≡ w
    → get_or cells (index_of v p) 0 ≡ get_or cells (index_of w p) 0
at_width cells v w p same = ap (λ n. get_or cells (p.y * n + p.x) 0) same

-- the image less h, as a function from pixels
less_value : (h : ℕ) (r : Raster) (p : Pixel) → value_at (mapped (λ v. v - h) r) p ≡ less h (value_at r) p
less_value h r p =
    subst (λ z. get_or (map (λ v. v - h) r.cells) (index_of r.width p) z ≡ get_or r.cells (index_of r.width p) 0 - h)
    (zero-sub h) (lists.get_or-map (λ v. v - h) r.cells (index_of r.width p) 0)

-- what grows in an image from the image less h, where the image is read again for each step
pub h_maxima_from : (conn : Conn) (h : ℕ) (image from mask lowered grown : Raster) → from ≡ image → mask ≡ image
    → lowered ≡ mapped (λ v. v - h) from
    → IsReconstruction (domain_of mask conn) (value_at mask) (value_at lowered) (value_at grown)
    → IsHMaxima (domain_of image conn) h (value_at image) (value_at grown)
h_maxima_from conn h image from mask lowered grown is_from is_mask low recon =
    let same : (p : Pixel) → value_at lowered p ≡ less h (value_at image) p =
    λ p. ap (λ (r : Raster). value_at r p) (low ∙ ap (λ (r : Raster). mapped (λ v. v - h) r) is_from)
    ∙ less_value h image p in
    subst (λ (marker : Pixel → ℕ). IsReconstruction (domain_of image conn) (value_at image) marker (value_at grown))
    (λ i p. same p i)
    (subst (λ (m : Raster). IsReconstruction (domain_of m conn) (value_at m) (value_at lowered) (value_at grown))
    is_mask recon)

-- the regional maxima of an image, by what grows in it from the image less 1
pub maxima_of : (conn : Conn) (all : Bool) (image grown maxima : Raster) → IsFilled image
    → (all ≡ true → EachIndex image.cells (λ k. slice_index image.cells k ≡ 0))
    → (all ≡ false → (k : ℕ) × (k < length image.cells) × (0 < slice_index image.cells k))
    → grown.width ≡ image.width → grown.height ≡ image.height → IsWhereLower all image grown maxima
    → IsHMaxima (domain_of image conn) 1 (value_at image) (value_at grown)
    → IsRegionalMaxima (domain_of image conn) (value_at image) (value_at maxima)
maxima_of conn all image grown maxima filled black some grown_width grown_height lower recon =
    maxima_by_growing (domain_of image conn) (value_at image) all
    (λ whole q inside. black whole (index_of image.width q) (index_of-within image q filled inside))
    (λ other.
    let its = some other in
    let place : value_at image (pixel_of image.width its.0) ≡ slice_index image.cells its.0 =
    ap (λ i. slice_index image.cells i) (index_of-pixel_of image.width its.0)
    in
    (pixel_of image.width its.0, pixel_of-inside image its.0 filled its.1, omega (arith, place, its.2)))
    (value_at grown) (value_at maxima) recon
    (λ q inside.
    let width = lower.width ∙ grown_width in
    let inside_maxima : IsInside maxima.width maxima.height q =
    (omega (arith, inside.0, width), omega (arith, inside.1, lower.height, grown_height))
    in
    let within : index_of maxima.width q < length maxima.cells = index_of-within maxima q lower.filled inside_maxima in
    let its = at_width image.cells maxima.width image.width q width in
    let grew = at_width grown.cells maxima.width grown.width q lower.width in
    subst (λ v. MarksLower all v (value_at grown q) (value_at maxima q)) its
    (subst (λ v. MarksLower all (slice_index image.cells (index_of maxima.width q)) v (value_at maxima q)) grew
    (lower.values (index_of maxima.width q) within)))

-- regional maxima are nowhere above 1
pub maxima_within : (conn : Conn) (image maxima : Raster) → IsFilled maxima → maxima.width ≡ image.width
    → maxima.height ≡ image.height
    → IsRegionalMaxima (domain_of image conn) (value_at image) (value_at maxima)
    → EachIndex maxima.cells (λ k. slice_index maxima.cells k ≤ 1)
maxima_within conn image maxima filled width height are k within =
    let p : Pixel = pixel_of maxima.width k in
    let inside = pixel_of-inside maxima k filled within in
    let inside_image : IsInside image.width image.height p =
    (omega (arith, inside.0, width), omega (arith, inside.1, height))
    in
    let place : value_at maxima p ≡ slice_index maxima.cells k =
    ap (λ i. slice_index maxima.cells i) (index_of-pixel_of maxima.width k)
    in
    elim (are p inside_image) [
      | inl one ↦ omega (arith, one.1, place)
      | inr none ↦ omega (arith, none.1, place)
    ]

-- the fill of an image, by its complement, the border of that, what grows from it, and the complement of this
pub fill_from : (conn : Conn) (top : ℕ) (image mask border grown turned : Raster) → mask ≡ complement_of top image
    → IsFilled image → IsFilled turned
    → EachIndex image.cells (λ k. slice_index image.cells k ≤ top)
    → IsPartOfBorder mask border
    → ((p : Pixel) → IsInside mask.width mask.height p → IsOnBorder mask.width mask.height p → AgreeAt mask border p)
    → grown.width ≡ border.width → turned.width ≡ grown.width → grown.height ≡ border.height
    → turned.height ≡ grown.height
    → EachIndex turned.cells (λ k. slice_index turned.cells k ≡ top - slice_index grown.cells k)
    → IsReconstruction (domain_of mask conn) (value_at mask) (value_at border) (value_at grown)
    → IsFill (domain_of image conn) (value_at image) (value_at turned)
fill_from conn top image mask border grown turned is_mask filled turned_filled bound part whole wide width high height
    back recon =
    let its_width : mask.width ≡ image.width = ap (λ (m : Raster). m.width) is_mask in
    let its_height : mask.height ≡ image.height = ap (λ (m : Raster). m.height) is_mask in
    subst (λ d. IsFill d (value_at image) (value_at turned)) (ap (λ (m : Raster). domain_of m conn) is_mask)
    (fill_by_growing (domain_of mask conn) (value_at image) (value_at mask) (value_at border) top
    (λ q inside. value_within image top bound filled q (rw (← its_width, ← its_height) inside))
    (λ q inside. ap (λ (m : Raster). value_at m q) is_mask
    ∙ mapped_value (λ v. top - v) image q filled (rw (← its_width, ← its_height) inside))
    part.values whole (value_at grown) (value_at turned) recon
    (λ q inside.
    let inside_turned : IsInside turned.width turned.height q =
    (omega (arith, inside.0, wide, width, part.width), omega (arith, inside.1, high, height, part.height)) in
    let within : index_of turned.width q < length turned.cells = index_of-within turned q turned_filled inside_turned in
    let here = back (index_of turned.width q) within in
    let lower = at_width grown.cells turned.width grown.width q width in
    omega (arith, here, lower)))

-- an image of the size of another, with values up to a maxval
pub graymap_from : (image : Graymap) (made : Raster) (maxval : ℕ) → IsGraymap image → 0 < maxval → maxval ≤ max_level
    → made.width ≡ image.raster.width → made.height ≡ image.raster.height → IsFilled made
    → EachIndex made.cells (λ k. slice_index made.cells k ≤ maxval)
    → IsGraymap (record { raster = made; maxval = maxval })
graymap_from image made maxval is some within width height filled bound = record {
  sized = record {
    size =
        subst (λ w. IsImageSize w made.height) (sym width)
        (subst (λ h. IsImageSize image.raster.width h) (sym height) is.sized.size);
    filled = filled;
  };
  some_maxval = some;
  maxval_within = within;
  samples_within = bound;
}

-- the same for the regional maxima
pub maxima_from : (conn : Conn) (all : Bool) (image from mask other : Raster) (values : List ℕ)
    (lowered grown maxima : Raster) → from ≡ image → mask ≡ image → other ≡ image → values ≡ image.cells
    → lowered ≡ mapped (λ v. v - 1) from → IsFilled image
    → (all ≡ true → EachIndex values (λ k. slice_index values k ≡ 0))
    → (all ≡ false → (k : ℕ) × (k < length values) × (0 < slice_index values k))
    → grown.width ≡ image.width → grown.height ≡ image.height → IsWhereLower all other grown maxima
    → IsReconstruction (domain_of mask conn) (value_at mask) (value_at lowered) (value_at grown)
    → IsRegionalMaxima (domain_of image conn) (value_at image) (value_at maxima)
maxima_from conn all image from mask other values lowered grown maxima is_from is_mask is_other is_values low filled
    black some width height lower recon =
    maxima_of conn all image grown maxima filled
    (subst (λ (cells : List ℕ). all ≡ true → EachIndex cells (λ k. slice_index cells k ≡ 0)) is_values black)
    (subst (λ (cells : List ℕ). all ≡ false → (k : ℕ) × (k < length cells) × (0 < slice_index cells k)) is_values some)
    width height (subst (λ (r : Raster). IsWhereLower all r grown maxima) is_other lower)
    (h_maxima_from conn 1 image from mask lowered grown is_from is_mask low recon)
