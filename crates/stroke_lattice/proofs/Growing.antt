-- A state takes in another, entry by entry, and may take it all out again.
use Rattle.std.proofs.Common.{◌≡◌, ℕ, ◌+◌, ◌<◌, Bool, true, false, not, ◌&&◌, cond, List, [], ◌∷◌, ◌++◌, length, take}
use Rattle.std.proofs.Common.{get_or, Option, Some, None, refl, sym, ap, subst, ◌∙◌, ◌⊎◌, inl, inr, arith, Contains}
use Rattle.std.proofs.Common.{IsTrue, ◌↔◌, Result, Ok, Err, OnOk, nat_cmp}
use Rattle.std.proofs.{lemmas.Bool.Decides.nat_tests, lemmas.Bool.cases_eq, lemmas.List.take_more}
use Rattle.std.proofs.lemmas.List.Elements.{Contains-push, Contains-push_cases, Contains-append_left}
use Rattle.std.specs.{Ordering.eq_by_cmp, Cmp.nat_cmp_total}
use Rattle.stroke_core.specs.Seed.{Seed}
use Rattle.stroke_lattice.specs.{State.State, State.HasStroke, State.HasSomeStroke, State.HasTombstone, State.IsBelow}
use Rattle.stroke_lattice.specs.{State.IsJoin, State.AreCompatible, State.nothing, Change.IsChange}
use Rattle.stroke_lattice.specs.Growth.{IsBetween, HasTagsOf, HasTombstonesOf, IsWithoutStrokes, IsWithoutTombstones}
use Rattle.stroke_lattice.specs.Growth.{IsNewStroke, IsNewTombstone, IsBirth, IsDeath, AreTags}
use Rattle.grid_core.proofs.Common.{either, or_left, or_right}
use Rattle.stroke_lattice.proofs.Joins.{one_seed, no_seed, agree, same_state, below_itself, below_through, one_join}
use Rattle.stroke_lattice.proofs.Joins.{compatible_below, union_is_join, join_is_union, nothing_has_no_stroke}
use Rattle.stroke_lattice.proofs.Joins.{nothing_has_no_tombstone}
use Rattle.std.specs.FinMap as map
use Rattle.std.specs.FinSet as set

-- ---- one entry more

tie : (a : ℕ) → eq_by_cmp nat_cmp a a ≡ true
tie a = grind (arith, nat_tests)

apart : (a b : ℕ) → (a ≡ b → ⊥) → eq_by_cmp nat_cmp a b ≡ false
apart a b ne = grind (arith, nat_tests)

-- the state with one stroke more
abbrev pub with_stroke : State → ℕ → Seed → State
with_stroke s tag seed = record s { strokes = map.insert s.strokes tag seed }

-- the state with one tombstone more
abbrev pub with_tombstone : State → ℕ → State
with_tombstone s tag = record s { tombstones = set.insert s.tombstones tag }

pub stroke_of_new : (s : State) (tag : ℕ) (seed : Seed) → HasStroke (with_stroke s tag seed) tag seed
stroke_of_new s tag seed = map.get-insert nat_cmp_total s.strokes tag seed tag
    ∙ ap (λ (b : Bool). cond b (Some seed) (map.get s.strokes tag)) (tie tag)

other_stroke : (s : State) (tag : ℕ) (seed : Seed) (t : ℕ) → (t ≡ tag → ⊥)
    → map.get (with_stroke s tag seed).strokes t ≡ map.get s.strokes t
other_stroke s tag seed t ne = map.get-insert nat_cmp_total s.strokes tag seed t
    ∙ ap (λ (b : Bool). cond b (Some seed) (map.get s.strokes t)) (apart t tag ne)

-- a stroke of the state with one stroke more is that one or one of before
pub only_one_stroke_more : (s : State) (tag : ℕ) (seed : Seed) (t : ℕ) → HasSomeStroke (with_stroke s tag seed) t
    → (t ≡ tag) ⊎ HasSomeStroke s t
only_one_stroke_more s tag seed t some = elim
    (cases_eq t tag) [ inl e ↦ inl e | inr ne ↦ inr (some.0, sym (other_stroke s tag seed t ne) ∙ some.1) ]

pub above_without : (s : State) (tag : ℕ) (seed : Seed) → (HasSomeStroke s tag → ⊥)
    → IsBelow s (with_stroke s tag seed)
above_without s tag seed new = record {
  strokes = λ t x has. elim (cases_eq t tag) [
    | inl e ↦ absurd (new (x, subst (λ (q : ℕ). HasStroke s q x) e has))
    | inr ne ↦ other_stroke s tag seed t ne ∙ has
  ];
  tombstones = λ t has. has;
}

pub grows_by_stroke : (old delta s : State) (tag : ℕ) (seed : Seed) → IsBetween old delta s
    → HasStroke delta tag seed → (HasSomeStroke s tag → ⊥) → IsBetween old delta (with_stroke s tag seed)
grows_by_stroke old delta s tag seed between given new =
    let more = above_without s tag seed new in
    record {
      above = below_through old s (with_stroke s tag seed) between.above more;
      strokes = λ t x has. elim (cases_eq t tag) [
        | inl e ↦
            let at : HasStroke (with_stroke s tag seed) tag x = subst
            (λ (q : ℕ). HasStroke (with_stroke s tag seed) q x) e has in
            let same : seed ≡ x = one_seed seed x (sym (stroke_of_new s tag seed) ∙ at) in
            inr (subst (λ (q : ℕ). HasStroke delta q x) (sym e) (subst (HasStroke delta tag) same given))
        | inr ne ↦ between.strokes t x (sym (other_stroke s tag seed t ne) ∙ has)
      ];
      tombstones = between.tombstones;
    }

same_tag : (a b : ℕ) → eq_by_cmp nat_cmp a b ≡ true → a ≡ b
same_tag a b e = grind (arith, nat_tests)

pub tombstone_of_new : (s : State) (tag : ℕ) → HasTombstone (with_tombstone s tag) tag
tombstone_of_new s tag = set.contains-insert nat_cmp_total s.tombstones tag tag
    ∙ or_left (eq_by_cmp nat_cmp tag tag) (set.contains s.tombstones tag) (tie tag)

pub more_tombstones : (s : State) (tag t : ℕ) → HasTombstone s t → HasTombstone (with_tombstone s tag) t
more_tombstones s tag t has = set.contains-insert nat_cmp_total s.tombstones tag t
    ∙ or_right (eq_by_cmp nat_cmp t tag) (set.contains s.tombstones t) has

pub only_one_more : (s : State) (tag t : ℕ) → HasTombstone (with_tombstone s tag) t → (t ≡ tag) ⊎ HasTombstone s t
only_one_more s tag t has = elim
    (either (eq_by_cmp nat_cmp t tag) (set.contains s.tombstones t)
    (sym (set.contains-insert nat_cmp_total s.tombstones tag t) ∙ has)) [
      | inl e ↦ inl (same_tag t tag e)
      | inr h ↦ inr h
    ]

pub grows_by_tombstone : (old delta s : State) (tag : ℕ) → IsBetween old delta s → HasTombstone delta tag
    → IsBetween old delta (with_tombstone s tag)
grows_by_tombstone old delta s tag between given = record {
  above = below_through old s (with_tombstone s tag) between.above
      (record { strokes = λ t x has. has; tombstones = more_tombstones s tag });
  strokes = between.strokes;
  tombstones = λ t has. elim
      (only_one_more s tag t has)
      [ inl e ↦ inr (subst (HasTombstone delta) (sym e) given) | inr before ↦ between.tombstones t before ];
}

pub between_at_first : (s delta : State) → IsBetween s delta s
between_at_first s delta = record {
  above = below_itself s;
  strokes = λ t x has. inl has;
  tombstones = λ t has. inl has;
}

-- what holds anyhow holds where the call returned
pub on_ok : {A E : Type 0} (r : Result A E) (P : Type 0) → P → OnOk r P
on_ok (Ok x) P p = p
on_ok (Err e) P p = tt

-- ---- all of it

-- what has grown to the end is the join
pub grown_is_join : (old delta new : State) → AreCompatible old delta → IsBetween old delta new
    → HasTagsOf new delta → HasTombstonesOf new delta → IsJoin old delta new
grown_is_join old delta new compatible between tags tombstones = union_is_join old delta new (record {
  above_first = between.above;
  above_second = record {
    strokes = λ t x has.
        let some = tags t (x, has) in
        let same : some.0 ≡ x = elim (between.strokes t some.0 some.1) [
          | inl before ↦ agree old delta compatible t some.0 x before has
          | inr given ↦ one_seed some.0 x (sym given ∙ has)
        ] in
        subst (HasStroke new t) same some.1;
    tombstones = tombstones;
  };
  strokes = between.strokes;
  tombstones = between.tombstones;
})

-- what has grown from nothing is what was taken in
pub grown_from_nothing : (s copy : State) → IsBetween nothing s copy → HasTagsOf copy s → HasTombstonesOf copy s
    → copy ≡ s
grown_from_nothing s copy between tags tombstones =
    let above : IsBelow nothing s = record {
      strokes = λ t x has. absurd (nothing_has_no_stroke t x has);
      tombstones = λ t has. absurd (nothing_has_no_tombstone t has);
    } in
    one_join nothing s copy s (grown_is_join nothing s copy (compatible_below nothing s s above (below_itself s))
    between
    tags tombstones) (record { first = above; second = below_itself s; least = λ other f g. g })

-- ---- out again

-- the state without the stroke of a tag
abbrev pub without_stroke : State → ℕ → State
without_stroke s tag = record s { strokes = map.remove s.strokes tag }

-- the state without a tombstone
abbrev pub without_tombstone : State → ℕ → State
without_tombstone s tag = record s { tombstones = set.remove s.tombstones tag }

one_more : (tags : List ℕ) (i tag : ℕ) → i < length tags → tag ≡ get_or tags i tag
    → take (i + 1) tags ≡ take i tags ++ tag ∷ []
one_more tags i tag within read = take_more tags i tag within ∙ ap (λ (t : ℕ). take i tags ++ t ∷ []) (sym read)

get_without : (s : State) (tag t : ℕ) → (t ≡ tag → ⊥) → map.get (without_stroke s tag).strokes t ≡ map.get s.strokes t
get_without s tag t ne = map.get-remove nat_cmp_total s.strokes tag t
    ∙ ap (λ (b : Bool). cond b None (map.get s.strokes t)) (apart t tag ne)

gone : (s : State) (tag : ℕ) (seed : Seed) → HasStroke (without_stroke s tag) tag seed → ⊥
gone s tag seed has =
    no_seed seed (sym (map.get-remove nat_cmp_total s.strokes tag tag
    ∙ ap (λ (b : Bool). cond b None (map.get s.strokes tag)) (tie tag)) ∙ has)

-- where one more is taken away, what is left has lost that one too
lost_one_more : (front : List ℕ) (tag : ℕ) (Had Has After : ℕ → Type 0)
    → ((t : ℕ) → Has t ↔ (Had t × (Contains front t → ⊥))) → ((t : ℕ) → After t ↔ (Has t × (t ≡ tag → ⊥)))
    → (t : ℕ) → After t ↔ (Had t × (Contains (front ++ tag ∷ []) t → ⊥))
lost_one_more front tag Had Has After before one t = (
  λ after.
      let there = (one t).0 after in
      let had = (before t).0 there.0 in (
        had.0,
        λ member. elim (Contains-push_cases front tag t member)
            [ inl earlier ↦ had.1 earlier | inr this ↦ there.1 (sym this) ],
      ),
  λ had. (one t).1 (
    (before t).1 (had.0, λ member. had.1 (Contains-append_left front (tag ∷ []) t member)),
    λ e. had.1 (subst (Contains (front ++ tag ∷ [])) (sym e) (Contains-push front tag)),
  ),
)

stroke_left : (s : State) (tag t : ℕ) (x : Seed)
    → HasStroke (without_stroke s tag) t x ↔ (HasStroke s t x × (t ≡ tag → ⊥))
stroke_left s tag t x = (
  λ has.
      let ne : t ≡ tag → ⊥ = λ e. gone s tag x (subst (λ (q : ℕ). HasStroke (without_stroke s tag) q x) e has) in
      (sym (get_without s tag t ne) ∙ has, ne),
  λ left. get_without s tag t left.1 ∙ left.0,
)

pub without_next_stroke : (old s : State) (tags : List ℕ) (i tag : ℕ) → i < length tags → tag ≡ get_or tags i tag
    → IsWithoutStrokes (take i tags) old s → IsWithoutStrokes (take (i + 1) tags) old (without_stroke s tag)
without_next_stroke old s tags i tag within read without =
    subst (λ (l : List ℕ). IsWithoutStrokes l old (without_stroke s tag)) (sym (one_more tags i tag within read))
    (record {
      strokes = λ t x. lost_one_more (take i tags) tag (λ q. HasStroke old q x) (λ q. HasStroke s q x)
          (λ q. HasStroke (without_stroke s tag) q x) (λ q. without.strokes q x) (λ q. stroke_left s tag q x) t;
      tombstones = without.tombstones;
    })

both_bits : (a b : Bool) → IsTrue (not a && b) ↔ (IsTrue b × (a ≡ true → ⊥))
both_bits true b = (λ h. absurd cc, λ h. absurd (h.1 refl))
both_bits false b = (λ h. (h, λ e. cc), λ h. h.0)

tombstone_left : (s : State) (tag t : ℕ)
    → HasTombstone (without_tombstone s tag) t ↔ (HasTombstone s t × (t ≡ tag → ⊥))
tombstone_left s tag t =
    let both = both_bits (eq_by_cmp nat_cmp t tag) (set.contains s.tombstones t) in
    let is = set.contains-remove nat_cmp_total s.tombstones tag t in (
      λ has.
          let left = both.0 (sym is ∙ has) in
          (left.0, λ e. left.1 (ap (λ (q : ℕ). eq_by_cmp nat_cmp q tag) e ∙ tie tag)),
      λ left. is ∙ both.1 (left.0, λ e. left.1 (same_tag t tag e)),
    )

pub without_next_tombstone : (old s : State) (tags : List ℕ) (i tag : ℕ) → i < length tags → tag ≡ get_or tags i tag
    → IsWithoutTombstones (take i tags) old s
    → IsWithoutTombstones (take (i + 1) tags) old (without_tombstone s tag)
without_next_tombstone old s tags i tag within read without =
    subst (λ (l : List ℕ). IsWithoutTombstones l old (without_tombstone s tag))
    (sym (one_more tags i tag within read)) (record {
      strokes = without.strokes;
      tombstones = lost_one_more (take i tags) tag (HasTombstone old) (HasTombstone s)
          (HasTombstone (without_tombstone s tag)) without.tombstones (tombstone_left s tag);
    })

answer_if_some : (o : Option Seed) (x : Seed) → (((y : Seed) × (o ≡ Some y) → ⊥) → ⊥)
    → ((y : Seed) → o ≡ Some y → y ≡ x) → o ≡ Some x
answer_if_some None x some same = absurd (some (λ s. no_seed s.0 s.1))
answer_if_some (Some y) x some same = ap (λ (s : Seed). Some s) (same y refl)

true_if_not_not : (b : Bool) → ((IsTrue b → ⊥) → ⊥) → IsTrue b
true_if_not_not true h = refl
true_if_not_not false h = absurd (h (λ e. let no : false ≡ true = e in cc))

-- what was taken in and taken out again is as before
pub as_before : (old delta grown less back : State) (strokes tombstones : List ℕ)
    → AreTags (IsNewStroke old delta) strokes → AreTags (IsNewTombstone old delta) tombstones
    → IsBetween old delta grown → IsWithoutStrokes strokes grown less → IsWithoutTombstones tombstones less back
    → back ≡ old
as_before old delta grown less back strokes tombstones new_strokes new_tombstones between out_strokes out_tombstones =
    let stroke_in_less : (t : ℕ) (x : Seed) → HasStroke back t x
    → HasStroke less t x = λ t x has. ap (λ (m : map.FinMap nat_cmp Seed). map.get m t)
    (sym out_tombstones.strokes) ∙ has in
    let tombstone_in_grown : (t : ℕ) → HasTombstone less t
    → HasTombstone grown t = λ t has. ap (λ (m : set.FinSet nat_cmp). set.contains m t)
    (sym out_strokes.tombstones) ∙ has in
    same_state back old
    (record {
      strokes = λ t x has.
          let there = (out_strokes.strokes t x).0 (stroke_in_less t x has) in
          elim (between.strokes t x there.0) [
            | inl before ↦ before
            | inr given ↦ answer_if_some (map.get old.strokes t) x
                (λ none. there.1 ((new_strokes.each t).1 ((x, given), none)))
                (λ y had. one_seed y x (sym (between.above.strokes t y had) ∙ there.0))
          ];
      tombstones = λ t has.
          let there = (out_tombstones.tombstones t).0 has in
          elim (between.tombstones t (tombstone_in_grown t there.0)) [
            | inl before ↦ before
            | inr given ↦ true_if_not_not (set.contains old.tombstones t)
                (λ none. there.1 ((new_tombstones.each t).1 (given, none)))
          ];
    })
    (record {
      strokes = λ t x had. ap (λ (m : map.FinMap nat_cmp Seed). map.get m t) out_tombstones.strokes
          ∙ (out_strokes.strokes t x).1
          (between.above.strokes t x had, λ member. ((new_strokes.each t).0 member).1 (x, had));
      tombstones = λ t had. (out_tombstones.tombstones t).1 (
        ap (λ (m : set.FinSet nat_cmp). set.contains m t) out_strokes.tombstones
            ∙ between.above.tombstones t had,
        λ member. ((new_tombstones.each t).0 member).1 had,
      );
    })

-- ---- births and deaths

pub change_of_join : (old delta new : State) (born dead : List ℕ) → IsJoin old delta new
    → AreTags (IsBirth old delta) born → AreTags (IsDeath old delta) dead
    → IsChange old new (record { born = born; dead = dead })
change_of_join old delta new born dead join births deaths =
    let union = join_is_union old delta new join in
    record {
      born = λ t. (
        λ member.
            let birth = (births.each t).0 member in
            let x = birth.0 in
            let vacant : HasTombstone new t → ⊥ = λ buried. elim
            (union.tombstones t buried) [ inl before ↦ birth.1.1 before | inr given ↦ birth.1.2 given ] in
            ((x.0, (union.above_second.strokes t x.0 x.1, vacant)), λ live. birth.1.0 (live.0, live.1.0)),
        λ after.
            let live = after.0 in
            let vacant : HasTombstone old t → ⊥ = λ buried. live.1.1 (union.above_first.tombstones t buried) in
            let none : (y : Seed) → HasStroke old t y → ⊥ = λ y had. after.1 (y, (had, vacant)) in
            let given : HasSomeStroke delta t = elim (union.strokes t live.0 live.1.0)
            [ inl before ↦ absurd (none live.0 before) | inr given ↦ (live.0, given) ] in
            (births.each t).1 (
              given,
              (
                λ some. none some.0 some.1,
                vacant,
                λ buried. live.1.1 (union.above_second.tombstones t buried),
              ),
            ),
      );
      dead = λ t. (
        λ member. let death = (deaths.each t).0 member in
            (death.1, λ live. live.1.1 (union.above_second.tombstones t death.0)),
        λ before.
            let live = before.0 in
            let buried : HasTombstone delta t = true_if_not_not (set.contains delta.tombstones t) (λ none.
            before.1 (
              live.0,
              (
                union.above_first.strokes t live.0 live.1.0,
                λ buried. elim
                    (union.tombstones t buried) [ inl had ↦ live.1.1 had | inr given ↦ none given ],
              ),
            )) in
            (deaths.each t).1 (buried, live),
      );
      born_rise = births.rise;
      dead_rise = deaths.rise;
    }

-- ---- states of one entry

pub placed_has : (tag t : ℕ) (seed x : Seed) → HasStroke (with_stroke nothing tag seed) t x ↔ ((t ≡ tag) × (x ≡ seed))
placed_has tag t seed x = (
  λ has. elim (cases_eq t tag) [
    | inl e ↦ (
      e,
      one_seed x seed (sym (subst (λ (q : ℕ). HasStroke (with_stroke nothing tag seed) q x) e has)
          ∙ stroke_of_new nothing tag seed),
    )
    | inr ne ↦ absurd (nothing_has_no_stroke t x (sym (other_stroke nothing tag seed t ne) ∙ has))
  ],
  λ same. subst (λ (q : ℕ). HasStroke (with_stroke nothing tag seed) q x) (sym same.0)
      (subst (HasStroke (with_stroke nothing tag seed) tag) (sym same.1) (stroke_of_new nothing tag seed)),
)

pub withdrawn_has : (tag t : ℕ) → HasTombstone (with_tombstone nothing tag) t ↔ (t ≡ tag)
withdrawn_has tag t = (
  λ has. elim (only_one_more nothing tag t has) [ inl e ↦ e | inr none ↦ absurd (nothing_has_no_tombstone t none) ],
  λ e. subst (HasTombstone (with_tombstone nothing tag)) (sym e) (tombstone_of_new nothing tag),
)
