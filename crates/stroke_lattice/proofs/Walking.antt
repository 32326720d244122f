-- Walks over the strokes and over the tombstones of a state, as they are kept and as they go on.
use Rattle.std.proofs.Common.{◌≡◌, ℕ, ◌<◌, ◌≤◌, Bool, true, false, not, cond, List, [], ◌∷◌, Option, Some, refl, sym}
use Rattle.std.proofs.Common.{ap, subst, ◌∙◌, ◌⊎◌, inl, inr, arith, Contains, filter, nat_cmp}
use Rattle.std.proofs.lemmas.Bool.{Decides.nat_tests, cond-true, cond-false}
use Rattle.std.specs.{Map.keys_of, BTreeMap.is_at, List.AllByRecursion, List.Sorted.IsStrictlySortedBy}
use Rattle.stroke_core.specs.Seed.{Seed}
use Rattle.stroke_lattice.specs.{State.State, State.HasStroke, State.HasTombstone, Change.AreRising, Walks.AreStrokes}
use Rattle.stroke_lattice.specs.{Walks.AreTombstones, Walks.AreLive}
use Rattle.stroke_lattice.proofs.Joins.{one_seed, no_seed}
use Rattle.grid_core.proofs.Common.{either, first_or_later, later, first, here, not_in_empty, in_map, map_has}
use Rattle.grid_core.proofs.Common.{in_filter, filter_has}
use Rattle.stroke_lattice.proofs.Lists.{all_from_members, rising_from_sorted, below_later}
use Rattle.stroke_lattice.proofs.Views.{kept, entry_at, key_at, get_kept, contains_kept}

-- ---- what the entries and the keys of a state are

at_from_same : (a b : ℕ) → a ≡ b → is_at (nat_cmp a) b ≡ true
at_from_same a b e = grind (arith, nat_tests)

same_from_at : (a b : ℕ) → is_at (nat_cmp a) b ≡ true → a ≡ b
same_from_at a b e = grind (arith, nat_tests)

not_at_below : (a b : ℕ) → b < a → is_at (nat_cmp a) b ≡ false
not_at_below a b e = grind (arith, nat_tests)

chosen : (b : Bool) (x : Seed) (o : Option Seed) (seed : Seed) → cond b (Some x) o ≡ Some seed
    → ((b ≡ true) × (x ≡ seed)) ⊎ (o ≡ Some seed)
chosen true x o seed e = inl (refl, one_seed x seed e)
chosen false x o seed e = inr e

pub member_from_entry : (es : List (ℕ × Seed)) (tag : ℕ) (seed : Seed) → entry_at es tag ≡ Some seed
    → Contains es (tag, seed)
member_from_entry [] tag seed e = absurd (no_seed seed e)
member_from_entry (x ∷ es) tag seed e = elim (chosen (is_at (nat_cmp tag) x.0) x.1 (entry_at es tag) seed e) [
  | inl this ↦ let tags : x.0 ≡ tag = sym (same_from_at tag x.0 this.0) in let seeds : x.1 ≡ seed = this.1 in here x
      es (tag, seed) (λ i. (tags i, seeds i))
  | inr there ↦ later x es (tag, seed) (member_from_entry es tag seed there)
]

pub entry_from_member : (es : List (ℕ × Seed)) (tag : ℕ) (seed : Seed) → AreRising (keys_of es)
    → Contains es (tag, seed) → entry_at es tag ≡ Some seed
entry_from_member [] tag seed rise has = absurd (not_in_empty (tag, seed) has)
entry_from_member (x ∷ es) tag seed rise has = elim (first_or_later x es (tag, seed) has) [
  | inl e ↦
      let tags : tag ≡ x.0 = sym (ap (λ (p : ℕ × Seed). p.0) e) in
      cond-true (is_at (nat_cmp tag) x.0) (Some x.1) (entry_at es tag) (at_from_same tag x.0 tags)
      ∙ ap (λ (p : ℕ × Seed). Some p.1) e
  | inr there ↦
      let below : x.0 < tag = below_later x.0 (keys_of es) tag rise (map_has (λ e. e.0) es (tag, seed) there) in
      cond-false (is_at (nat_cmp tag) x.0) (Some x.1) (entry_at es tag) (not_at_below tag x.0 below)
      ∙ entry_from_member es tag seed rise.1 there
]

pub are_strokes : (es : List (ℕ × Seed)) (ks : List ℕ) (s : State) → kept es ks ≡ s
    → IsStrictlySortedBy nat_cmp (keys_of es) → AreStrokes s es
are_strokes es ks s is sorted =
    let rise : AreRising (keys_of es) = rising_from_sorted (keys_of es) sorted in
    subst (λ (t : State). AreStrokes t es) is (record {
      each = λ tag seed. (
        λ has. get_kept es tag ∙ entry_from_member es tag seed rise has,
        λ has. member_from_entry es tag seed (sym (get_kept es tag) ∙ has),
      );
      rise = rise;
    })

key_from_member : (ks : List ℕ) (tag : ℕ) → Contains ks tag → key_at ks tag ≡ true
key_from_member [] tag has = absurd (not_in_empty tag has)
key_from_member (k ∷ ks) tag has = elim (first_or_later k ks tag has) [
  | inl e ↦ grind (arith, nat_tests, at_from_same tag k (sym e))
  | inr there ↦ grind (arith, nat_tests, key_from_member ks tag there)
]

member_from_key : (ks : List ℕ) (tag : ℕ) → key_at ks tag ≡ true → Contains ks tag
member_from_key [] tag e = absurd cc
member_from_key (k ∷ ks) tag e = elim (either (is_at (nat_cmp tag) k) (key_at ks tag) e) [
  | inl this ↦ here k ks tag (sym (same_from_at tag k this))
  | inr there ↦ later k ks tag (member_from_key ks tag there)
]

pub are_tombstones : (es : List (ℕ × Seed)) (ks : List ℕ) (s : State) → kept es ks ≡ s
    → IsStrictlySortedBy nat_cmp ks → AreTombstones s ks
are_tombstones es ks s is sorted = subst (λ (t : State). AreTombstones t ks) is (record {
  each = λ tag. (
    λ has. contains_kept ks tag
        ∙ key_from_member ks tag has,
    λ has. member_from_key ks tag (sym (contains_kept ks tag) ∙ has),
  );
  rise = rising_from_sorted ks sorted;
})

-- whether the stroke is live where the tombstones are these
abbrev pub lives : List ℕ → ℕ × Seed → Bool
lives ks e = not (key_at ks e.0)

rise_choice : (b : Bool) (x : ℕ × Seed) (fs : List (ℕ × Seed)) → AllByRecursion (λ y. x.0 < y) (keys_of fs)
    → AreRising (keys_of fs) → AreRising (keys_of (cond b (x ∷ fs) fs))
rise_choice true x fs below rise = (below, rise)
rise_choice false x fs below rise = rise

rise_filter : (p : ℕ × Seed → Bool) (es : List (ℕ × Seed)) → AreRising (keys_of es)
    → AreRising (keys_of (filter p es))
rise_filter p [] rise = tt
rise_filter p (x ∷ es) rise =
    let below : AllByRecursion (λ y. x.0 < y) (keys_of (filter p es)) = all_from_members (λ y. x.0 < y)
    (keys_of (filter p es)) (λ tag has.
    let member = in_map (λ e. e.0) (filter p es) tag has in
    subst (λ t. x.0 < t) member.2 (below_later x.0 (keys_of es) member.0.0 rise
    (map_has (λ e. e.0) es member.0 (in_filter p es member.0 member.1).0))) in
    rise_choice (p x) x (filter p es) below (rise_filter p es rise.1)

fails : (b : Bool) → not b ≡ true → b ≡ true → ⊥
fails true n e = cc
fails false n e = cc

passes : (b : Bool) → (b ≡ true → ⊥) → not b ≡ true
passes true n = absurd (n refl)
passes false n = refl

pub are_live : (es : List (ℕ × Seed)) (ks : List ℕ) (s : State) → kept es ks ≡ s
    → IsStrictlySortedBy nat_cmp (keys_of es) → AreLive s (filter (lives ks) es)
are_live es ks s is sorted =
    let rise : AreRising (keys_of es) = rising_from_sorted (keys_of es) sorted in
    subst (λ (t : State). AreLive t (filter (lives ks) es)) is (record {
      each = λ tag seed. (
        λ has.
            let member = in_filter (lives ks) es (tag, seed) has in (
              get_kept es tag ∙ entry_from_member es tag seed rise member.0,
              λ dead. fails (key_at ks tag) member.1 (sym (contains_kept ks tag) ∙ dead),
            ),
        λ live. filter_has (lives ks) es (tag, seed)
            (member_from_entry es tag seed (sym (get_kept es tag) ∙ live.0))
            (passes (key_at ks tag) (λ dead. live.1 (contains_kept ks tag ∙ dead))),
      );
      rise = rise_filter (lives ks) es rise;
    })

-- ---- a walk that goes on: those before have P

-- a walk over the strokes of s has come to the entries that are left
pub record StrokesLeft (P : ℕ → Seed → Type 0) (s : State) (left : List (ℕ × Seed)) : Type 0 where
  pub rise : AreRising (keys_of left)
  pub kept : (tag : ℕ) (seed : Seed) → Contains left (tag, seed) → HasStroke s tag seed
  pub passed : (tag : ℕ) (seed : Seed) → HasStroke s tag seed → P tag seed ⊎ Contains left (tag, seed)

pub strokes_start : (P : ℕ → Seed → Type 0) (s : State) (es : List (ℕ × Seed)) → AreStrokes s es → StrokesLeft P s es
strokes_start P s es walk = record {
  rise = walk.rise;
  kept = λ tag seed. (walk.each tag seed).0;
  passed = λ tag seed has. inr ((walk.each tag seed).1 has);
}

pub stroke_next : (P Q : ℕ → Seed → Type 0) (s : State) (e : ℕ × Seed) (left : List (ℕ × Seed))
    → StrokesLeft P s (e ∷ left) → ((tag : ℕ) (seed : Seed) → P tag seed → Q tag seed) → Q e.0 e.1
    → StrokesLeft Q s left
stroke_next P Q s e left walk more has = record {
  rise = walk.rise.1;
  kept = λ tag seed member. walk.kept tag seed (later e left (tag, seed) member);
  passed = λ tag seed member. elim (walk.passed tag seed member) [
    | inl p ↦ inl (more tag seed p)
    | inr there ↦ elim (first_or_later e left (tag, seed) there) [
      | inl is ↦ inl (subst (λ (x : ℕ × Seed). Q x.0 x.1) is has)
      | inr later ↦ inr later
    ]
  ];
}

pub stroke_here : (P : ℕ → Seed → Type 0) (s : State) (e : ℕ × Seed) (left : List (ℕ × Seed))
    → StrokesLeft P s (e ∷ left) → HasStroke s e.0 e.1
stroke_here P s e left walk = walk.kept e.0 e.1 (first e left)

-- each stroke without P has the tag of the next entry, or a greater one
pub stroke_least : (P : ℕ → Seed → Type 0) (s : State) (e : ℕ × Seed) (left : List (ℕ × Seed))
    → StrokesLeft P s (e ∷ left) → (tag : ℕ) (seed : Seed) → HasStroke s tag seed → (P tag seed → ⊥) → e.0 ≤ tag
stroke_least P s e left walk tag seed has not_p = elim (walk.passed tag seed has) [
  | inl p ↦ absurd (not_p p)
  | inr there ↦ elim (first_or_later e left (tag, seed) there) [
    | inl is ↦ let tags : e.0 ≡ tag = ap (λ (x : ℕ × Seed). x.0) is in omega arith
    | inr later ↦ let below : e.0 < tag = below_later e.0 (keys_of left) tag walk.rise
        (map_has (λ e. e.0) left (tag, seed) later) in omega arith
  ]
]

-- a walk over the tombstones of s has come to the tags that are left
pub record TombstonesLeft (P : ℕ → Type 0) (s : State) (left : List ℕ) : Type 0 where
  pub rise : AreRising left
  pub kept : (tag : ℕ) → Contains left tag → HasTombstone s tag
  pub passed : (tag : ℕ) → HasTombstone s tag → P tag ⊎ Contains left tag

pub tombstones_start : (P : ℕ → Type 0) (s : State) (ks : List ℕ) → AreTombstones s ks → TombstonesLeft P s ks
tombstones_start P s ks walk = record {
  rise = walk.rise;
  kept = λ tag. (walk.each tag).0;
  passed = λ tag has. inr ((walk.each tag).1 has);
}

pub tombstone_next : (P Q : ℕ → Type 0) (s : State) (k : ℕ) (left : List ℕ) → TombstonesLeft P s (k ∷ left)
    → ((tag : ℕ) → P tag → Q tag) → Q k → TombstonesLeft Q s left
tombstone_next P Q s k left walk more has = record {
  rise = walk.rise.1;
  kept = λ tag member. walk.kept tag (later k left tag member);
  passed = λ tag member. elim (walk.passed tag member) [
    | inl p ↦ inl (more tag p)
    | inr there ↦ elim (first_or_later k left tag there) [ inl is ↦ inl (subst Q is has) | inr later ↦ inr later ]
  ];
}

pub tombstone_here : (P : ℕ → Type 0) (s : State) (k : ℕ) (left : List ℕ) → TombstonesLeft P s (k ∷ left)
    → HasTombstone s k
tombstone_here P s k left walk = walk.kept k (first k left)

-- the same steps, from the list before to the list that is left
pub stroke_step : (P Q : ℕ → Seed → Type 0) (s : State) (tag : ℕ) (seed : Seed) (before left : List (ℕ × Seed))
    → before ≡ (tag, seed) ∷ left → StrokesLeft P s before
    → ((t : ℕ) (x : Seed) → P t x → Q t x) → Q tag seed → StrokesLeft Q s left
stroke_step P Q s tag seed before left is walk more has = stroke_next P Q s (tag, seed) left
    (subst (StrokesLeft P s) is walk) more has

pub tombstone_step : (P Q : ℕ → Type 0) (s : State) (tag : ℕ) (before left : List ℕ) → before ≡ tag ∷ left
    → TombstonesLeft P s before → ((t : ℕ) → P t → Q t) → Q tag → TombstonesLeft Q s left
tombstone_step P Q s tag before left is walk more has = tombstone_next P Q s tag left
    (subst (TombstonesLeft P s) is walk) more has

pub strokes_begin : (P : ℕ → Seed → Type 0) (s : State) (es before : List (ℕ × Seed)) → before ≡ es
    → AreStrokes s es → StrokesLeft P s before
strokes_begin P s es before is walk = subst (StrokesLeft P s) (sym is) (strokes_start P s es walk)

pub tombstones_begin : (P : ℕ → Type 0) (s : State) (ks before : List ℕ) → before ≡ ks → AreTombstones s ks
    → TombstonesLeft P s before
tombstones_begin P s ks before is walk = subst (TombstonesLeft P s) (sym is) (tombstones_start P s ks walk)

pub tombstones_end : (P : ℕ → Type 0) (s : State) → TombstonesLeft P s [] → (tag : ℕ) → HasTombstone s tag → P tag
tombstones_end P s walk tag has = elim (walk.passed tag has) [ inl p ↦ p | inr there ↦ absurd (not_in_empty tag there) ]
