-- How paintings with one brush add up.
use Rattle.std.proofs.Common.{◌≡◌, ℕ, ◌+◌, ◌*◌, ◌≤◌, Bool, true, false, List, sym, ap, ◌∙◌, refl, arith, ◌||◌, ◌&&◌}
use Rattle.std.proofs.Common.{slice_index, ◌<◌, length, get_or, take}
use Rattle.std.proofs.lemmas.List.Folds.{list_any_more}
use Rattle.std.proofs.Math.Seq.{take-length}
use Rattle.grid_core.specs.{declared.pixel.Pixel.Pixel, Rects.AreCellsChanged}
use Rattle.grid_core.specs.Raster.{Raster, IsInside, index_of, value_at, IsOfSize}
use Rattle.stroke_core.specs.Seed.{Seed, covers}
use Rattle.marker_tiles.specs.{declared.brush.Brush.Brush, declared.window.Window.Window}
use Rattle.marker_tiles.specs.declared.brush.Brush.TheVariants.{Raise, Clear}
use Rattle.marker_tiles.specs.Painting.{IsPaintedBy, brushed_cells, brushed, brushed_if, in_some, in_window, is_between}
use Rattle.marker_tiles.proofs.CellSpans.{cell_of_span}

-- a brush led twice leaves what it left at first
brushed_again : (brush : Brush) (limit old : ℕ)
    → brushed brush limit (brushed brush limit old) ≡ brushed brush limit old
brushed_again (Raise level) limit old = omega arith
brushed_again Clear limit old = refl

-- to lead it where one test holds and then where another does is to lead it where either does
brushed_twice : (a b : Bool) (brush : Brush) (limit old : ℕ)
    → brushed_if b brush limit (brushed_if a brush limit old) ≡ brushed_if (a || b) brush limit old
brushed_twice true true brush limit old = brushed_again brush limit old
brushed_twice true false brush limit old = refl
brushed_twice false b brush limit old = refl

-- two paintings are one of the pixels that either test has
pub painted_also : {a b both : Pixel → Bool} {brush : Brush} {mask old middle new : Raster}
    → IsPaintedBy a brush mask old middle → IsPaintedBy b brush mask middle new
    → ((p : Pixel) → IsInside mask.width mask.height p → both p ≡ (a p || b p)) → IsPaintedBy both brush mask old new
painted_also {a} {b} {both} {brush} {mask} {old} first second same = record {
  size = second.size;
  values = λ p inside.
      let limit = value_at mask p in
      second.values p inside
      ∙ ap (λ v. brushed_if (b p) brush limit v) (first.values p inside)
      ∙ brushed_twice (a p) (b p) brush limit (value_at old p)
      ∙ ap (λ t. brushed_if t brush limit (value_at old p)) (sym (same p inside));
}

-- an image is painted by a test that no pixel passes
pub painted_nothing : {test : Pixel → Bool} {brush : Brush} {mask old : Raster} → IsOfSize mask old
    → ((p : Pixel) → IsInside mask.width mask.height p → test p ≡ false) → IsPaintedBy test brush mask old old
painted_nothing {test} {brush} {mask} {old} size none = record {
  size = size;
  values = λ p inside. ap (λ t. brushed_if t brush (value_at mask p) (value_at old p)) (sym (none p inside));
}

-- tests that agree on the pixels of the image paint alike
pub painted_alike : {a b : Pixel → Bool} {brush : Brush} {mask old new : Raster} → IsPaintedBy a brush mask old new
    → ((p : Pixel) → IsInside mask.width mask.height p → b p ≡ a p) → IsPaintedBy b brush mask old new
painted_alike {a} {b} {brush} {mask} {old} painted same = record {
  size = painted.size;
  values = λ p inside.
      painted.values p inside
      ∙ ap (λ t. brushed_if t brush (value_at mask p) (value_at old p)) (sym (same p inside));
}

-- ---- window by window

-- one of the windows has the pixel, and the seed covers it
abbrev pub covered_in : List Window → Seed → Pixel → Bool
covered_in ws seed p = in_some ws p && covers seed p

either_and : (a b c : Bool) → ((a || b) && c) ≡ ((a && c) || (b && c))
either_and true b true = refl
either_and true true false = refl
either_and true false false = refl
either_and false b c = refl

-- a window more
pub one_window_more : (ws : List Window) (seed : Seed) (i : ℕ) (none : Window) (p : Pixel) → i < length ws
    → covered_in (take (i + 1) ws) seed p
    ≡ (covered_in (take i ws) seed p || (in_window (get_or ws i none) p && covers seed p))
one_window_more ws seed i none p within =
    ap (λ t. t && covers seed p) (list_any_more (λ w. in_window w p) ws i none within)
    ∙ either_and (in_some (take i ws) p) (in_window (get_or ws i none) p) (covers seed p)

-- all of them
pub all_windows : (ws : List Window) (seed : Seed) (i : ℕ) (p : Pixel) → i ≡ length ws
    → (in_some ws p && covers seed p) ≡ covered_in (take i ws) seed p
all_windows ws seed i p all = ap (λ vs. covered_in vs seed p) (sym (ap (λ n. take n ws) all ∙ take-length ws))

-- ---- a span as cells

-- cells led over between two places of one row are a painted span
pub cells_are_span : (y first end from to : ℕ) {brush : Brush} {mask old new : Raster} → IsOfSize mask old
    → end ≤ mask.width → from ≡ y * mask.width + first → to ≡ y * mask.width + end
    → AreCellsChanged from to (brushed_cells brush mask old) old new
    → IsPaintedBy (is_between y first end) brush mask old new
cells_are_span y first end from to {brush} {mask} {old} {new} size columns from_is to_is cells = record {
  size = record {
    width = cells.width ∙ size.width;
    height = cells.height ∙ size.height;
    filled = rw (cells.width, cells.height) (cells.count ∙ size.filled);
  };
  values = λ p inside.
      cell_of_span y first end from to (brushed_cells brush mask old) old new size.filled (rw size.width columns)
      (rw size.width from_is) (rw size.width to_is) cells p (rw (size.width, size.height) inside)
      ∙ ap (λ w. brushed_if (is_between y first end p) brush (slice_index mask.cells (index_of w p)) (value_at old p))
      size.width;
}
