-- Tiles that are made dirty.
use Rattle.std.proofs.Common.{◌≡◌, ℕ, ◌<◌, true, List, length, refl, sym, ap, subst, ◌∙◌, arith, inl, inr, ◌⊎◌, ◌↔◌}
use Rattle.std.proofs.Common.{slice_set}
use Rattle.std.proofs.{Math.ListN.length-set, lemmas.Bool.cases_eq}
use Rattle.std.proofs.lemmas.List.{get_or-set_same, get_or-set_other}
use Rattle.border_queues.specs.TileWork.{TileWork, idle, work_of}
use Rattle.tile_work.specs.Renewing.{IsDirtyIf, AreDirtyWhere}

-- what is dirty from the start or by one hit stays so by the next, and is dirty by nothing else
pub dirty_joins : {p q r : Type 0} {before middle after : TileWork} → IsDirtyIf p before middle
    → IsDirtyIf q middle after → r ↔ (p ⊎ q) → IsDirtyIf r before after
dirty_joins {after = after} first second both = record {
  rest = second.rest ∙ ap (λ (w : TileWork). record w { dirty = after.dirty }) first.rest;
  dirty = (
    λ yes. elim (second.dirty.0 yes) [
      | inl earlier ↦ elim (first.dirty.0 earlier) [ inl was ↦ inl was | inr hit ↦ inr (both.1 (inl hit)) ]
      | inr hit ↦ inr (both.1 (inr hit))
    ],
    λ some. elim some [
      | inl was ↦ second.dirty.1 (inl (first.dirty.1 (inl was)))
      | inr hit ↦ elim (both.0 hit) [
        | inl one ↦ second.dirty.1 (inl (first.dirty.1 (inr one)))
        | inr other ↦ second.dirty.1 (inr other)
      ]
    ],
  );
}

-- work that stays is that of a tile that is not hit
pub dirty_stays : {p : Type 0} {work : TileWork} → (p → ⊥) → IsDirtyIf p work work
dirty_stays never = record {
  rest = refl;
  dirty = (λ yes. inl yes, λ some. elim some [ inl was ↦ was | inr hit ↦ absurd (never hit) ]);
}

-- work that becomes dirty is that of a tile that is hit
pub dirty_now : {p : Type 0} {before after : TileWork} → p → after ≡ record before { dirty = true }
    → IsDirtyIf p before after
dirty_now {before = before} {after = after} hit is =
    let yes : after.dirty ≡ true = ap (λ (w : TileWork). w.dirty) is in
    record {
      rest = is ∙ ap (λ d. record before { dirty = d }) (sym yes);
      dirty = (λ _. inr hit, λ _. yes);
    }

-- hits that are the same
pub dirty_alike : {p q : Type 0} {before after : TileWork} → p ↔ q → IsDirtyIf p before after
    → IsDirtyIf q before after
dirty_alike same is = record {
  rest = is.rest;
  dirty = (
    λ yes. elim (is.dirty.0 yes) [ inl was ↦ inl was | inr hit ↦ inr (same.0 hit) ],
    λ some. elim some [ inl was ↦ is.dirty.1 (inl was) | inr hit ↦ is.dirty.1 (inr (same.1 hit)) ],
  );
}

-- ---- all tiles

pub all_dirty_join : {p q r : ℕ → Type 0} {before middle after : List TileWork} → AreDirtyWhere p before middle
    → AreDirtyWhere q middle after → ((t : ℕ) → t < length before → r t ↔ (p t ⊎ q t)) → AreDirtyWhere r before after
all_dirty_join first second both = record {
  count = second.count ∙ first.count;
  each = λ t within.
      dirty_joins (first.each t within) (second.each t (omega (arith, within, first.count))) (both t within);
}

pub all_dirty_stay : {p : ℕ → Type 0} {work : List TileWork} → ((t : ℕ) → p t → ⊥) → AreDirtyWhere p work work
all_dirty_stay never = record { count = refl; each = λ t within. dirty_stays (never t) }

pub all_dirty_alike : {p q : ℕ → Type 0} {before after : List TileWork}
    → ((t : ℕ) → t < length before → p t ↔ q t) → AreDirtyWhere p before after → AreDirtyWhere q before after
all_dirty_alike same is = record { count = is.count; each = λ t within. dirty_alike (same t within) (is.each t within) }

-- one tile is made dirty
pub one_made_dirty : (work : List TileWork) (tile : ℕ) → tile < length work
    → AreDirtyWhere (λ t. t ≡ tile) work (slice_set work tile (record (work_of work tile) { dirty = true }))
one_made_dirty work tile there = record {
  count = length-set work tile (record (work_of work tile) { dirty = true });
  each = λ t within.
      let after = slice_set work tile (record (work_of work tile) { dirty = true }) in
      elim (cases_eq t tile) [
        | inl same ↦
            dirty_now same
            (subst (λ u. work_of after u ≡ record (work_of work u) { dirty = true }) (sym same)
            (get_or-set_same work tile (record (work_of work tile) { dirty = true }) idle there))
        | inr other ↦
            subst (λ (w : TileWork). IsDirtyIf (t ≡ tile) (work_of work t) w)
            (sym (get_or-set_other work tile t (record (work_of work tile) { dirty = true }) idle other))
            (dirty_stays other)
      ];
}
