-- Tables of bounds that are widened, one tile after the other.
use Rattle.std.proofs.Common.{◌≡◌, ℕ, ◌<◌, List, length, refl, sym, ap, subst, ◌∙◌, arith, inl, inr, slice_set}
use Rattle.std.proofs.{Math.ListN.length-set, lemmas.Bool.cases_eq, lemmas.Bool.cases_lt}
use Rattle.std.proofs.lemmas.List.{get_or-set_same, get_or-set_other, get_or_past}
use Rattle.grid_core.specs.{declared.bounds.Bounds.Bounds, declared.pixel.Pixel.Pixel, declared.rect.Rect.Rect}
use Rattle.grid_core.specs.Bounds.{IsInBounds, LieIn, joined, no_bounds}
use Rattle.grid_core.specs.Tiles.{Tiles, rect_of}
use Rattle.tile_work.specs.OpenBounds.{AreWidened, bounds_for}

-- ---- bounds that are joined

in_first : (a b : Bounds) (p : Pixel) → IsInBounds a p → IsInBounds (joined a b) p
in_first a b p (left, right, top, bottom) = (omega arith, omega arith, omega arith, omega arith)

in_second : (a b : Bounds) (p : Pixel) → IsInBounds b p → IsInBounds (joined a b) p
in_second a b p (left, right, top, bottom) = (omega arith, omega arith, omega arith, omega arith)

joined_lie : (a b : Bounds) (rect : Rect) → LieIn a rect → LieIn b rect → LieIn (joined a b) rect
joined_lie a b rect (left, right, top, bottom) (left_b, right_b, top_b, bottom_b) =
    (omega arith, omega arith, omega arith, omega arith)

-- ---- tables

-- a table as it was
pub widened_by_none : (tiles : Tiles) (table : List Bounds) → AreWidened tiles table table
widened_by_none tiles table = record { count = refl; kept = λ t p _ inside. inside; lie = λ t _ lies. lies }

pub widened_twice : (tiles : Tiles) (old middle new : List Bounds) → AreWidened tiles old middle
    → AreWidened tiles middle new → AreWidened tiles old new
widened_twice tiles old middle new first second = record {
  count = second.count ∙ first.count;
  kept = λ t p there inside. second.kept t p (omega (arith, there, first.count)) (first.kept t p there inside);
  lie = λ t there lies. second.lie t (omega (arith, there, first.count)) (first.lie t there lies);
}

-- what was within the bounds of a number, be it a tile or none, is still within them
pub still_within : (tiles : Tiles) (old new : List Bounds) (t : ℕ) (p : Pixel) → AreWidened tiles old new
    → IsInBounds (bounds_for old t) p → IsInBounds (bounds_for new t) p
still_within tiles old new t p widened inside = elim (cases_lt t (length old)) [
  | inl there ↦ widened.kept t p there inside
  | inr past ↦
      let nowhere : IsInBounds no_bounds p =
      subst (λ (b : Bounds). IsInBounds b p) (get_or_past old t no_bounds past) inside in
      absurd (omega (arith, nowhere.1))
]

-- ---- one tile

-- one tile is widened by some bounds
module _ (tiles : Tiles) (old new : List Bounds) (tile : ℕ) (more : Bounds) (there : tile < length old)
    (is : new ≡ slice_set old tile (joined (bounds_for old tile) more)) where
  own_bounds : bounds_for new tile ≡ joined (bounds_for old tile) more
  own_bounds =
      ap (λ table. bounds_for table tile) is
      ∙ get_or-set_same old tile (joined (bounds_for old tile) more) no_bounds there

  other_bounds : (t : ℕ) → (t ≡ tile → ⊥) → bounds_for new t ≡ bounds_for old t
  other_bounds t other =
      ap (λ table. bounds_for table t) is
      ∙ get_or-set_other old tile t (joined (bounds_for old tile) more) no_bounds other

  pub within_added : (p : Pixel) → IsInBounds more p → IsInBounds (bounds_for new tile) p
  within_added p inside =
      subst (λ (b : Bounds). IsInBounds b p) (sym own_bounds) (in_second (bounds_for old tile) more p inside)

  still_in_own : (p : Pixel) → IsInBounds (bounds_for old tile) p → IsInBounds (bounds_for new tile) p
  still_in_own p inside =
      subst (λ (b : Bounds). IsInBounds b p) (sym own_bounds) (in_first (bounds_for old tile) more p inside)

  own_lie : LieIn more (rect_of tiles tile) → LieIn (bounds_for old tile) (rect_of tiles tile)
      → LieIn (bounds_for new tile) (rect_of tiles tile)
  own_lie added lies =
      subst (λ (b : Bounds). LieIn b (rect_of tiles tile)) (sym own_bounds)
      (joined_lie (bounds_for old tile) more (rect_of tiles tile) lies added)

  pub one_widened : LieIn more (rect_of tiles tile) → AreWidened tiles old new
  one_widened added = record {
    count = ap length is ∙ length-set old tile (joined (bounds_for old tile) more);
    kept = λ t p _ inside. elim (cases_eq t tile) [
      | inl same ↦
          subst (λ u. IsInBounds (bounds_for new u) p) (sym same)
          (still_in_own p (subst (λ u. IsInBounds (bounds_for old u) p) same inside))
      | inr other ↦ subst (λ (b : Bounds). IsInBounds b p) (sym (other_bounds t other)) inside
    ];
    lie = λ t _ lies. elim (cases_eq t tile) [
      | inl same ↦
          subst (λ u. LieIn (bounds_for new u) (rect_of tiles u)) (sym same)
          (own_lie added (subst (λ u. LieIn (bounds_for old u) (rect_of tiles u)) same lies))
      | inr other ↦ subst (λ (b : Bounds). LieIn b (rect_of tiles t)) (sym (other_bounds t other)) lies
    ];
  }
