-- A piece is compared with a part of an image pixel by pixel.
use Rattle.std.proofs.Common.{◌+◌, ◌<◌, ◌↔◌, ℕ, Bool, true, false, inl, inr, arith, subst, sym}
use Rattle.std.proofs.lemmas.Bool.{cases_eq}
use Rattle.grid_core.specs.{declared.rect.Rect.Rect, Raster.Raster, Rects.IsAtMostPart, Rects.IsPart}
use Rattle.tiled_image.specs.Shown.{IsRowWithin, IsWithinPart}

-- a row more
pub one_more_row : (is_equal : Bool) (rect : Rect) (whole piece : Raster) (rows : ℕ)
    → ((y : ℕ) → y < rows → IsRowWithin is_equal rect whole piece y rect.w)
    → IsRowWithin is_equal rect whole piece rows rect.w
    → (y : ℕ) → y < rows + 1 → IsRowWithin is_equal rect whole piece y rect.w
one_more_row is_equal rect whole piece rows so_far now y below = elim (cases_eq y rows) [
  | inl same ↦ subst (λ n. IsRowWithin is_equal rect whole piece n rect.w) (sym same) now
  | inr other ↦ so_far y (omega (arith, below, other))
]

-- ---- the part

module _ (rect : Rect) (whole piece : Raster) where
  pub part_by_pixels : IsWithinPart true rect whole piece ↔ IsPart rect whole piece
  part_by_pixels = (
    λ within. record {
      width = within.width;
      height = within.height;
      filled = within.filled;
      values = λ p inside. within.rows p.y inside.1 p.x inside.0;
    },
    λ is. record {
      width = is.width;
      height = is.height;
      filled = is.filled;
      rows = λ y row x column. is.values (record { x = x; y = y }) (column, row);
    },
  )

  pub at_most_by_pixels : IsWithinPart false rect whole piece ↔ IsAtMostPart rect whole piece
  at_most_by_pixels = (
    λ within. record {
      width = within.width;
      height = within.height;
      filled = within.filled;
      values = λ p inside. within.rows p.y inside.1 p.x inside.0;
    },
    λ is. record {
      width = is.width;
      height = is.height;
      filled = is.filled;
      rows = λ y row x column. is.values (record { x = x; y = y }) (column, row);
    },
  )
