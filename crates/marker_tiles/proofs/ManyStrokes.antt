-- An image raised by many strokes, block by block.
use Rattle.std.proofs.Common.{◌≡◌, ℕ, ◌+◌, ◌/◌, ◌<◌, ◌≤◌, inl, inr, false, min, max, List, length, get_or, take, arith}
use Rattle.std.proofs.Common.{Some, None, ◌||◌, true}
use Rattle.std.proofs.{lemmas.Bool.cases_lt, lemmas.Bool.Decides.nat_tests, lemmas.Nat.le-div, Math.Nat.div-mul-le_self}
use Rattle.std.specs.Int.{div_ceil}
use Rattle.grid_core.specs.{declared.pixel.Pixel.Pixel, Raster.Raster, Raster.IsInside, Raster.value_at}
use Rattle.grid_core.proofs.Spans.{span_of-within}
use Rattle.stroke_core.specs.Seed.{Seed, covers}
use Rattle.stroke_lattice.specs.State.{State}
use Rattle.marker_tiles.specs.{declared.blocks.Blocks.Blocks, declared.window.Window.Window}
use Rattle.marker_tiles.specs.Blocks.{AreNoted, AreBlocksOf, IsRaisedWithin, HasLevelWhere, HasLevel, IsInRow, level_in}
use Rattle.marker_tiles.specs.Painting.{IncludesOn, in_window, is_between}
use Rattle.marker_tiles.specs.UnderTags.{IsRaisedBy, level_at, level_of_some}
use Rattle.marker_tiles.proofs.{BlockLevels.within_also, BlockLevels.few_across, BlockLevels.level_of_first}
use Rattle.marker_tiles.proofs.{BlockLevels.level_with_stroke, BlockLevels.level_without_stroke, Levels.level_or_none}
use Rattle.std.specs.FinMap as map

-- a row more of a window
pub window_row_more : (w : Window) (y : ℕ) (p : Pixel) → w.top ≤ y
    → in_window (record w { bottom = y + 1 }) p
    ≡ (in_window (record w { bottom = y }) p || is_between y w.left w.right p)
window_row_more w y p from = grind (arith, nat_tests)

-- no row of it
pub window_without_rows : (w : Window) (p : Pixel) → in_window (record w { bottom = w.top }) p ≡ false
window_without_rows w p = grind (arith, nat_tests)

-- all its rows
pub window_rows : (w : Window) (y : ℕ) (p : Pixel) → w.bottom ≤ y → y ≤ max w.top w.bottom
    → in_window w p ≡ in_window (record w { bottom = y }) p
window_rows w y p past at_most = elim (cases_lt w.bottom w.top) [
  | inl none ↦ let low : y ≤ w.top = omega arith in grind (arith, nat_tests)
  | inr some ↦ let same : y ≡ w.bottom = omega arith in grind (arith, nat_tests)
]

-- ---- blocks side by side

quotients_rise : (low x side : ℕ) → 0 < side → low ≤ x → low / side ≤ x / side
quotients_rise low x side some above =
    let whole = div-mul-le_self low side in
    le-div (low / side) x side some (omega (arith, whole, above))

-- ---- round a stroke

module _ (seed : Seed) (around : Window) (mask image : Raster)
    (encloses : IncludesOn mask (covers seed) (in_window around)) (side : ℕ) (some : 0 < side) where
  -- outside the window round the stroke it has no pixel, and so no level
  outside : (p : Pixel) → IsInside mask.width mask.height p → (in_window around p ≡ true → ⊥)
      → min (value_at mask p) (level_at seed p) ≤ value_at image p
  outside p inside out = elim (level_or_none (covers seed p) seed.level) [
    | inr none ↦ omega (arith, none)
    | inl covered ↦ absurd (out (encloses p inside covered.0))
  ]

  -- so it has none before the first column of blocks that the window meets
  pub columns_before : (row : ℕ)
      → HasLevelWhere (λ p. (p.y / side ≡ row) × (p.x / side < around.left / side)) (level_at seed) mask image
  columns_before row p inside is = outside p inside (λ has.
      let left : around.left ≤ p.x = grind (arith, nat_tests) in
      omega (arith, quotients_rise around.left p.x side some left, is.1))

  pub rows_before : HasLevelWhere (λ p. p.y / side < around.top / side) (level_at seed) mask image
  rows_before p inside is = outside p inside (λ has.
      let top : around.top ≤ p.y = grind (arith, nat_tests) in
      omega (arith, quotients_rise around.top p.y side some top, is))

  -- nor behind the last
  pub columns_end : (row column : ℕ) → div_ceil around.right side ≤ column
      → HasLevelWhere (λ p. (p.y / side ≡ row) × (p.x / side < column)) (level_at seed) mask image
      → HasLevelWhere (IsInRow side row) (level_at seed) mask image
  columns_end row column past before p inside is = elim (cases_lt (p.x / side) column) [
    | inl earlier ↦ before p inside (is, earlier)
    | inr later ↦ outside p inside (λ has.
        let right : p.x < around.right = grind (arith, nat_tests) in
        omega (arith, span_of-within p.x around.right side some right, later, past))
  ]

  pub rows_end : (row : ℕ) → div_ceil around.bottom side ≤ row
      → HasLevelWhere (λ p. p.y / side < row) (level_at seed) mask image → HasLevel (level_at seed) mask image
  rows_end row past before p inside = elim (cases_lt (p.y / side) row) [
    | inl earlier ↦ before p inside earlier
    | inr later ↦ outside p inside (λ has.
        let bottom : p.y < around.bottom = grind (arith, nat_tests) in
        omega (arith, span_of-within p.y around.bottom side some bottom, later, past))
  ]

-- the rows of blocks before one, and that one
pub rows_more : (level : Pixel → ℕ) (side row : ℕ) {within : Pixel → ℕ} {mask middle new : Raster}
    → HasLevelWhere (λ p. p.y / side < row) level mask middle → IsRaisedWithin within mask middle new
    → HasLevelWhere (IsInRow side row) level mask new → HasLevelWhere (λ p. p.y / side < row + 1) level mask new
rows_more level side row before raised here p inside is = elim (cases_lt (p.y / side) row) [
  | inl earlier ↦ omega (arith, before p inside earlier, raised.rises p inside)
  | inr not_earlier ↦ here p inside (omega (arith, is, not_earlier))
]

-- ---- tag by tag

-- the levels of the blocks are at most those of the strokes that were noted
pub blocks_below : (s : State) (tags : List ℕ) (none noted : Blocks) (mask : Raster)
    → AreBlocksOf mask.width mask.height none.side → ((p : Pixel) → level_in none p ≡ 0)
    → AreNoted (level_of_some s tags) none noted → (p : Pixel) → IsInside mask.width mask.height p
    → level_in noted p ≤ level_of_some s tags p
blocks_below s tags none noted mask blocks nothing are p inside =
    let across = few_across mask.width none.side p.x blocks.is_side.some blocks.columns inside.0 in
    omega (arith, are.levels p across, nothing p)

-- at first there is no tag, and so no level
pub has_none : (s : State) (tags : List ℕ) (mask image : Raster) → HasLevel (level_of_some s (take 0 tags)) mask image
has_none s tags mask image p inside = omega arith

-- an image that has risen at most to one level has risen at most to a greater one
pub raised_to_most : {level most : Pixel → ℕ} {mask old new : Raster} → IsRaisedWithin level mask old new
    → ((p : Pixel) → IsInside mask.width mask.height p → level p ≤ most p) → IsRaisedWithin most mask old new
raised_to_most raised at_most = record {
  size = raised.size;
  rises = raised.rises;
  within = λ p inside. omega (arith, raised.within p inside, at_most p inside);
}

module _ (s : State) (tags : List ℕ) {i tag : ℕ} {mask old middle : Raster} (within : i < length tags)
    (read : tag ≡ get_or tags i tag) (so_far : IsRaisedWithin (level_of_some s tags) mask old middle)
    (has : HasLevel (level_of_some s (take i tags)) mask middle) where
  -- one stroke more
  pub stroke_within : {seed : Seed} {new : Raster} → map.get s.strokes tag ≡ Some seed
      → IsRaisedWithin (level_at seed) mask middle new → IsRaisedWithin (level_of_some s tags) mask old new
  stroke_within there raised =
      within_also so_far raised
      (λ p inside.
      let more = level_with_stroke s tags p within read there in
      let first = level_of_first s tags (i + 1) p in
      omega (arith, more, first))

  pub stroke_has : {seed : Seed} {new : Raster} → map.get s.strokes tag ≡ Some seed
      → IsRaisedWithin (level_at seed) mask middle new → HasLevel (level_at seed) mask new
      → HasLevel (level_of_some s (take (i + 1) tags)) mask new
  stroke_has there raised reached p inside =
      let more = level_with_stroke s tags p within read there in
      omega (arith, more, has p inside, raised.rises p inside, reached p inside)

  -- no stroke stands under the tag
  pub no_stroke_has : map.get s.strokes tag ≡ None → HasLevel (level_of_some s (take (i + 1) tags)) mask middle
  no_stroke_has none p inside =
      let same = level_without_stroke s tags p within read none in
      omega (arith, same, has p inside)

-- an image that has the levels of the strokes, and has risen to no more, is raised by them
pub raised_by : {s : State} {tags : List ℕ} {mask old new : Raster}
    → IsRaisedWithin (level_of_some s tags) mask old new → HasLevel (level_of_some s tags) mask new
    → IsRaisedBy s tags mask old new
raised_by raised has = record {
  size = raised.size;
  values = λ p inside. omega (arith, raised.rises p inside, raised.within p inside, has p inside);
}
