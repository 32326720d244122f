-- Bounds of the pixels of a rectangle where an image is above a piece, found row by row.
use Rattle.std.proofs.Common.{◌≡◌, ℕ, ◌+◌, ◌<◌, ◌≤◌, List, get_or, refl, subst, sym, arith, inl, inr}
use Rattle.std.proofs.lemmas.Bool.{cases_eq}
use Rattle.grid_core.specs.{declared.bounds.Bounds.Bounds, declared.pixel.Pixel.Pixel, declared.rect.Rect.Rect}
use Rattle.grid_core.specs.{Bounds.IsInBounds, Bounds.bounds_at, Bounds.joined, Bounds.no_bounds}
use Rattle.grid_core.specs.Raster.{Raster, IsInside, IsSized, value_at}
use Rattle.grid_core.specs.Rects.{IsRowOf, RectFits, in_image, part}
use Rattle.grid_core.proofs.Pixels.{same_pixel}
use Rattle.reset_core.specs.Parts.{AreBoundsAbove, AreWidenedAbove, AreWidenedByRow}

-- the bounds with one pixel more
pub pixel_more : (bounds : Bounds) (p : Pixel) (value limit : ℕ)
    → AreWidenedAbove bounds p value limit (joined bounds (bounds_at p))
pixel_more bounds p value limit = record {
  kept = λ q there. (
    omega (arith, there.0),
    omega (arith, there.1),
    omega (arith, there.2),
    omega (arith, there.3),
  );
  lie = λ rect lies inside. (
    omega (arith, lies.0, inside.0),
    omega (arith, lies.1, inside.1),
    omega (arith, lies.2, inside.2),
    omega (arith, lies.3, inside.3),
  );
  above = λ high. (omega arith, omega arith, omega arith, omega arith);
}

-- ---- a row

pub none_of_row : (rect : Rect) (y : ℕ) (values limits : List ℕ) (columns : ℕ) (bounds : Bounds)
    → ((x : ℕ) → x < columns → get_or values x 0 ≤ get_or limits x 0)
    → AreWidenedByRow rect y values limits columns bounds bounds
none_of_row rect y values limits columns bounds low = record {
  kept = λ q there. there;
  lie = λ lies. lies;
  above = λ x within high. absurd (omega (arith, low x within, high));
}

module _ (rect : Rect) (y : ℕ) (values limits : List ℕ) (x : ℕ) (old middle new : Bounds) (column : x < rect.w)
    (row : y < rect.h) where
  -- one column more
  pub column_more : AreWidenedByRow rect y values limits x old middle
      → AreWidenedAbove middle (in_image rect (record { x = x; y = y })) (get_or values x 0) (get_or limits x 0) new
      → AreWidenedByRow rect y values limits (x + 1) old new
  column_more so_far step = record {
    kept = λ q there. step.kept q (so_far.kept q there);
    lie = λ lies.
        step.lie rect (so_far.lie lies)
        (omega arith, omega (arith, column), omega arith, omega (arith, row));
    above = λ k within high. elim (cases_eq k x) [
      | inl here ↦
          let there = step.above (subst (λ n. get_or limits n 0 < get_or values n 0) here high) in
          subst (λ n. IsInBounds new (in_image rect (record { x = n; y = y }))) (sym here) there
      | inr other ↦
          step.kept (in_image rect (record { x = k; y = y })) (so_far.above k (omega (arith, within, other)) high)
    ];
  }

-- ---- row after row

pub none_above : (rect : Rect) (rows : ℕ) (whole piece : Raster) → IsSized whole
    → RectFits whole.width whole.height rect
    → ((p : Pixel) → IsInside rect.w rows p → value_at whole (in_image rect p) ≤ value_at piece p)
    → AreBoundsAbove rect rows whole piece no_bounds
none_above rect rows whole piece sized fits low = record {
  lie = (
    omega (arith, fits.columns, sized.size.width_within),
    omega arith,
    omega (arith, fits.rows, sized.size.height_within),
    omega arith,
  );
  above = λ p inside high. absurd (omega (arith, low p inside, high));
}

module _ (rect : Rect) (y : ℕ) (whole piece : Raster) (values limits : List ℕ) (old new : Bounds)
    (of_whole : IsRowOf rect.w (part rect (value_at whole)) y values)
    (of_piece : IsRowOf rect.w (value_at piece) y limits) where
  -- one row more
  pub row_more : AreBoundsAbove rect y whole piece old → AreWidenedByRow rect y values limits rect.w old new
      → AreBoundsAbove rect (y + 1) whole piece new
  row_more so_far step = record {
    lie = step.lie so_far.lie;
    above = λ p inside high. elim (cases_eq p.y y) [
      | inl here ↦
          let there : Pixel = record { x = p.x; y = y } in
          let same : p ≡ there = same_pixel p there refl here in
          let higher : value_at piece there < value_at whole (in_image rect there) =
          subst (λ (q : Pixel). value_at piece q < value_at whole (in_image rect q)) same high in
          subst (λ (q : Pixel). IsInBounds new (in_image rect q)) (sym same)
          (step.above p.x inside.0
          (omega (arith, of_whole.values p.x inside.0, of_piece.values p.x inside.0, higher)))
      | inr other ↦
          step.kept (in_image rect p) (so_far.above p (inside.0, omega (arith, inside.1, other)) high)
    ];
  }
