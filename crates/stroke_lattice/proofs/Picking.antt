-- A rising list of the tags of which something holds, picked from a longer list that rises.
use Rattle.std.proofs.Common.{◌≡◌, ℕ, List, [], ◌∷◌, ◌++◌, sym, subst, ◌⊎◌, inl, inr, append_assoc, Contains}
use Rattle.std.proofs.lemmas.List.Elements.{Contains-append_left, Contains-push, Contains-push_cases}
use Rattle.std.proofs.lemmas.List.{append-nil}
use Rattle.std.specs.Map.{keys_of}
use Rattle.stroke_core.specs.Seed.{Seed}
use Rattle.grid_core.proofs.Common.{first_or_later, later, first, not_in_empty, in_map, map_has}
use Rattle.stroke_lattice.specs.{Change.AreRising, Walks.AreStrokes, Walks.AreTombstones, Growth.AreTags}
use Rattle.stroke_lattice.specs.State.{State, HasStroke, HasSomeStroke, HasTombstone}
use Rattle.stroke_lattice.proofs.Lists.{rise_without}

-- the tags of the strokes of a state
pub stroke_tags : (s : State) (es : List (ℕ × Seed)) → AreStrokes s es → AreTags (HasSomeStroke s) (keys_of es)
stroke_tags s es walk = record {
  each = λ tag. (
    λ has.
        let member = in_map (λ e. e.0) es tag has in
        let entry = member.0 in
        (entry.1, subst (λ t. HasStroke s t entry.1) member.2 ((walk.each entry.0 entry.1).0 member.1)),
    λ some. map_has (λ e. e.0) es (tag, some.0) ((walk.each tag some.0).1 some.1),
  );
  rise = walk.rise;
}

-- those of its tombstones
pub tombstone_tags : (s : State) (tags : List ℕ) → AreTombstones s tags → AreTags (HasTombstone s) tags
tombstone_tags s tags walk = record { each = walk.each; rise = walk.rise }

-- of the tags that Has holds of those are picked of which P holds, but for those that are left
pub record Picked (P Has : ℕ → Type 0) (picked left : List ℕ) : Type 0 where
  pub rise : AreRising (picked ++ left)
  pub sound : (tag : ℕ) → Contains picked tag → P tag
  pub whole : (tag : ℕ) → P tag → Contains picked tag ⊎ Contains left tag
  pub kept : (tag : ℕ) → Contains left tag → Has tag

module _ (P Has : ℕ → Type 0) where
  -- none is picked yet
  pub picks_begin : (picked tags left : List ℕ) → picked ≡ [] → left ≡ tags → AreTags Has tags
      → ((tag : ℕ) → P tag → Has tag) → Picked P Has picked left
  picks_begin picked tags left none is all within =
      subst (Picked P Has picked) (sym is) (subst (λ (l : List ℕ). Picked P Has l tags) (sym none) (record {
        rise = all.rise;
        sound = λ tag has. absurd (not_in_empty tag has);
        whole = λ tag p. inr ((all.each tag).1 (within tag p));
        kept = λ tag. (all.each tag).0;
      }))

  -- the next one is picked
  pub picks : (picked more : List ℕ) (k : ℕ) (before left : List ℕ) → before ≡ k ∷ left → more ≡ picked ++ k ∷ []
      → Picked P Has picked before → (Has k → P k) → Picked P Has more left
  picks picked more k before left is pushed so_far holds =
      let at : Picked P Has picked (k ∷ left) = subst (Picked P Has picked) is so_far in
      let p : P k = holds (at.kept k (first k left)) in
      subst (λ (l : List ℕ). Picked P Has l left) (sym pushed) (record {
        rise = subst AreRising (sym (append_assoc picked (k ∷ []) left)) at.rise;
        sound = λ tag has. elim (Contains-push_cases picked k tag has)
            [ inl before ↦ at.sound tag before | inr this ↦ subst P this p ];
        whole = λ tag q. elim (at.whole tag q) [
          | inl before ↦ inl (Contains-append_left picked (k ∷ []) tag before)
          | inr there ↦ elim (first_or_later k left tag there) [
            | inl this ↦ inl (subst (Contains (picked ++ k ∷ [])) this (Contains-push picked k))
            | inr later ↦ inr later
          ]
        ];
        kept = λ tag has. at.kept tag (later k left tag has);
      })

  -- the next one is left out
  pub leaves : (picked : List ℕ) (k : ℕ) (before left : List ℕ) → before ≡ k ∷ left → Picked P Has picked before
      → (P k → ⊥) → Picked P Has picked left
  leaves picked k before left is so_far fails =
      let at : Picked P Has picked (k ∷ left) = subst (Picked P Has picked) is so_far in
      record {
        rise = rise_without picked left k at.rise;
        sound = at.sound;
        whole = λ tag q. elim (at.whole tag q) [
          | inl before ↦ inl before
          | inr there ↦ elim (first_or_later k left tag there)
              [ inl this ↦ absurd (fails (subst P (sym this) q)) | inr later ↦ inr later ]
        ];
        kept = λ tag has. at.kept tag (later k left tag has);
      }

  -- none is left
  pub all_picked : (picked left : List ℕ) → left ≡ [] → Picked P Has picked left → AreTags P picked
  all_picked picked left none so_far =
      let at : Picked P Has picked [] = subst (Picked P Has picked) none so_far in
      record {
        each = λ tag. (
          at.sound tag,
          λ q. elim (at.whole tag q) [ inl before ↦ before | inr there ↦ absurd (not_in_empty tag there) ],
        );
        rise = subst AreRising (append-nil picked) at.rise;
      }
