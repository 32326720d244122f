-- Tiles of a set that are given a step, one after another.
use Rattle.std.proofs.Common.{◌≡◌, ℕ, suc, ◌+◌, ◌<◌, ◌⊎◌, inl, inr, refl, sym, ◌∙◌, List, Bool, true, length, set}
use Rattle.std.proofs.Common.{arith, ◌≢◌, slice_index, slice_index_or, false, replicate}
use Rattle.std.proofs.{lemmas.Bool.cases_eq, lemmas.Bool.Decides.leb_tells, Math.ListN.length-set}
use Rattle.std.proofs.lemmas.List.{get_or-set_same, get_or-set_other, length-replicate, get_or-replicate}
use Rattle.tile_work.specs.TileSet.{Has, HasNoneFrom, IsFirstFrom}
use Rattle.page_board.specs.Marking.{AreMarkedWhere, AreMarked}
use Rattle.page_board.proofs.Decisions.{flag_decides}

-- the tile is in the set, and before this one
abbrev pub IsBefore : List Bool → ℕ → ℕ → Type 0
IsBefore tiles from t = Has tiles t × (t < from)

pub none_marked : (tiles : List Bool) (step : ℕ) (shown : List ℕ) → AreMarkedWhere (IsBefore tiles 0) step shown shown
none_marked tiles step shown = record {
  count = refl;
  marked = λ t before. absurd (omega (arith, before.1));
  others = λ t not_before. refl;
}

module _ (tiles : List Bool) (from tile step : ℕ) (old shown : List ℕ) (first : IsFirstFrom tiles from tile)
    (within : tile < length shown) (so_far : AreMarkedWhere (IsBefore tiles from) step old shown) where
  -- a tile of the set up to the one at hand is that one, or was before it
  before_if_other : (t : ℕ) → IsBefore tiles (tile + 1) t → t ≢ tile → IsBefore tiles from t
  before_if_other t before other = elim (leb_tells from t) [
    | inl from_on ↦ absurd (omega (arith, first.first t from_on.1 before.0, before.1, other))
    | inr below ↦ (before.0, below.1)
  ]

  marked_now : (t : ℕ) → IsBefore tiles (tile + 1) t → slice_index (set shown tile step) t ≡ step
  marked_now t before = elim (cases_eq t tile) [
    | inl same ↦ rw same (get_or-set_same shown tile step 0 within)
    | inr other ↦ get_or-set_other shown tile t step 0 other ∙ so_far.marked t (before_if_other t before other)
  ]

  others_still : (t : ℕ) → (IsBefore tiles (tile + 1) t → ⊥) → slice_index (set shown tile step) t ≡ slice_index old t
  others_still t not_before = elim (cases_eq t tile) [
    | inl same ↦ absurd (not_before (rw same (first.has, omega arith)))
    | inr other ↦ get_or-set_other shown tile t step 0 other
        ∙ so_far.others t (λ before. not_before (before.0, omega (arith, before.1, first.from)))
  ]

  pub marked_more : AreMarkedWhere (IsBefore tiles (tile + 1)) step old (set shown tile step)
  marked_more = record {
    count = length-set shown tile step ∙ so_far.count;
    marked = marked_now;
    others = others_still;
  }

-- where no tile is left, all are marked
below_end : (tiles : List Bool) (from t : ℕ) → HasNoneFrom tiles from → Has tiles t → t < from
below_end tiles from t none has = elim (leb_tells from t) [
  | inl from_on ↦ absurd (none t from_on.1 has)
  | inr below ↦ below.1
]

pub all_marked : (tiles : List Bool) (from step : ℕ) (old shown : List ℕ) → HasNoneFrom tiles from
    → AreMarkedWhere (IsBefore tiles from) step old shown → AreMarked tiles step old shown
all_marked tiles from step old shown none so_far = record {
  count = so_far.count;
  marked = λ t has. so_far.marked t (has, below_end tiles from t none has);
  others = λ t not_in. so_far.others t (λ before. not_in before.0);
}

-- an empty set has no tile
pub none_in : (count t : ℕ) → Has (replicate count false) t → ⊥
none_in count t has =
    let within : t < count = omega (arith, has.0, length-replicate {A = Bool} count false) in
    let off : slice_index_or (replicate count false) t false ≡ false =
    get_or-replicate {A = Bool} count t false false within in
    let no : true ≡ false = sym has.1 ∙ off in
    cc

-- a tile is in the set or not
pub set_decides : (tiles : List Bool) (t : ℕ) → Has tiles t ⊎ (Has tiles t → ⊥)
set_decides tiles t = elim (leb_tells (suc t) (length tiles)) [
  | inl within ↦ elim (flag_decides (slice_index_or tiles t false)) [
    | inl is_set ↦ inl (omega (arith, within.1), is_set)
    | inr unset ↦ inr (λ has. unset has.1)
  ]
  | inr beyond ↦ inr (λ has. omega (arith, beyond.1, has.0))
]
