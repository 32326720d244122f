-- Values of an image at its pixels, and one written.
use Rattle.std.proofs.Common.{◌≡◌, ℕ, ◌-◌, ◌*◌, ◌<◌, ◌⊎◌, length, arith, inl, inr, sym, ◌∙◌, ap}
use Rattle.std.proofs.{lemmas.Bool.cases_eq, lemmas.List.Sums.sum_by-set, lemmas.Nat.mul-add-lt}
use Rattle.std.proofs.lemmas.List.{length-set, get_or-set_same, get_or-set_other}
use Rattle.grid_core.specs.{declared.pixel.Pixel.Pixel, Path.Domain, Path.Inside}
use Rattle.grid_core.specs.Raster.{Raster, IsFilled, index_of, value_at, with_value}
use Rattle.grid_core.proofs.Cells.{same_place}
use Rattle.raster_sweeps.specs.Flood.{IsImageOn, missing}

-- the place of a pixel is among the cells
pub index_inside : (d : Domain) (p : Pixel) → Inside d p → index_of d.width p < d.width * d.height
index_inside d p inside = mul-add-lt p.y d.width p.x d.height inside.1 inside.0

-- the place of a pixel in an image is among its cells
pub index_in_image : (d : Domain) (image : Raster) (p : Pixel) → IsImageOn d image → Inside d p
    → index_of image.width p < length image.cells
index_in_image d image p sized inside = rw sized.width (omega (arith, index_inside d p inside, sized.filled))

pub written_here : (d : Domain) (image : Raster) (p : Pixel) (v : ℕ) → IsImageOn d image → Inside d p
    → value_at (with_value image p v) p ≡ v
written_here d image p v sized inside =
    get_or-set_same image.cells (index_of image.width p) v 0 (index_in_image d image p sized inside)

pub written_else : (d : Domain) (image : Raster) (p q : Pixel) (v : ℕ) → IsImageOn d image → Inside d p → Inside d q
    → (q ≡ p) ⊎ (value_at (with_value image p v) q ≡ value_at image q)
written_else d image p q v sized inside_p inside_q =
    elim (cases_eq (index_of d.width q) (index_of d.width p)) [
      | inl same ↦ inl (same_place d.width d.height q p inside_q inside_p same)
      | inr other ↦
          inr (get_or-set_other image.cells (index_of image.width p) (index_of image.width q) v 0
          (rw sized.width other))
    ]

-- a write keeps the size
pub written_sized : {d : Domain} {image : Raster} (p : Pixel) (v : ℕ) → IsImageOn d image
    → IsImageOn d (with_value image p v)
written_sized {image} p v sized = record {
  width = sized.width;
  height = sized.height;
  filled = length-set image.cells (index_of image.width p) v ∙ sized.filled;
}

-- to raise a value to the level takes from what is missing
pub missing_less : (d : Domain) (image : Raster) (p : Pixel) (level : ℕ) → IsImageOn d image → Inside d p
    → value_at image p < level
    → missing level (with_value image p level).cells < missing level image.cells
missing_less d image p level sized inside below =
    omega (
      arith,
      below,
      sum_by-set (λ v. level - v) image.cells (index_of image.width p) level 0
          (index_in_image d image p sized inside),
    )

-- an image on a domain has a value for each pixel
pub filled_on : (d : Domain) (image : Raster) → IsImageOn d image → IsFilled image
filled_on d image on = on.filled ∙ ap (λ w. w * d.height) (sym on.width) ∙ ap (λ h. image.width * h) (sym on.height)
