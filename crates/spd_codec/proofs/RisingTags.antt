-- Strokes and tombstones that rise by tag are those of the state that they make, in its order.
use Rattle.std.proofs.Common.{◌≡◌, ℕ, ◌<◌, Bool, true, false, cond, ◌||◌, T, List, [], ◌∷◌, ◌++◌, map, Option, Some}
use Rattle.std.proofs.Common.{None, refl, sym, ap, subst, ◌∙◌, append_assoc, arith, is_some, length, nat_cmp, is_lt}
use Rattle.std.proofs.{lemmas.Bool.ltb-true, lemmas.Bool.lt-ltb, lemmas.Bool.Decides.nat_tests, lemmas.List.append-nil}
use Rattle.std.specs.{List.AllByRecursion, List.list_any, Ordering.eq_by_cmp, Cmp.nat_cmp_total, FinMap.FinMap}
use Rattle.std.specs.{FinMap.is_sorted, FinMap.Entries.below_all}
use Rattle.stroke_core.specs.Seed.{Seed}
use Rattle.stroke_lattice.specs.{State.State, State.nothing, Pieces.strokes_of, Pieces.tombstones_of}
use Rattle.grid_core.proofs.Common.{no_length, or_false}
use Rattle.spd_codec.proofs.Sequences.{Follow}
use Rattle.stroke_lattice.proofs.Items.{front, back, put_last, marked, keys_of_marked, as_map, test_of_tags}
use Rattle.spd_codec.specs.{Faults.is_above, Reading.gathered, Reading.with_stroke, Reading.with_tombstone}
use Rattle.std.specs.FinMap as fin
use Rattle.std.specs.FinSet as set

-- each tag is above the one before it
abbrev pub Rise : {X : Type 0} → (X → ℕ) → Option ℕ → List X → Type 0
Rise tag_of = Follow tag_of (λ before x. is_above before (tag_of x) ≡ true)

-- the tag of an entry
abbrev pub key : {X : Type 0} → ℕ × X → ℕ
key e = e.0

-- the keys of entries
abbrev pub keys_of : {X : Type 0} → List (ℕ × X) → List ℕ
keys_of es = map (λ e. e.0) es

-- the state of strokes and tombstones
abbrev pub state_of : List (ℕ × Seed) → List ℕ → State
state_of es tags = gathered with_tombstone (gathered with_stroke nothing es) tags

-- the order of numbers, from its name
less_from : (x y : ℕ) → is_lt (nat_cmp x y) ≡ true → x < y
less_from x y e = grind (arith, nat_tests)

-- a test that holds is true
holds : (b : Bool) → T b → b ≡ true
holds true h = refl
holds false h = absurd h

-- the order of tests does not matter
swapped : (a b c : Bool) → (a || (b || c)) ≡ ((b || a) || c)
swapped true true c = refl
swapped true false c = refl
swapped false true c = refl
swapped false false c = refl

module _ {X : Type 0} where
  -- each key is below the number
  abbrev AreBelow : ℕ → List (ℕ × X) → Type 0
  AreBelow n es = AllByRecursion (λ other. other < n) (keys_of es)

  -- a key above all others, and one more
  below_push : (n k : ℕ) (v : X) (es : List (ℕ × X)) → AreBelow k es → k < n → AreBelow n (es ++ (k, v) ∷ [])
  below_push n k v [] below lt = (lt, tt)
  below_push n k v (e ∷ es) below lt = (omega (arith, below.0), below_push n k v es below.1 lt)

  -- the map with one entry more
  abbrev pub with_entry : FinMap nat_cmp X → ℕ × X → FinMap nat_cmp X
  with_entry m e = fin.insert m e.0 e.1

  -- what may come next is above all keys
  abbrev IsUnder : FinMap nat_cmp X → Option ℕ → Type 0
  IsUnder m before = (k : ℕ) → is_above before k ≡ true → AreBelow k (fin.entries m)

  -- entries that rise are put behind those before them
  entries_after : (m : FinMap nat_cmp X) (es : List (ℕ × X)) (before : Option ℕ) → IsUnder m before
      → Rise key before es
      → fin.entries (gathered with_entry m es) ≡ fin.entries m ++ es
  entries_after m [] before under rise = sym (append-nil (fin.entries m))
  entries_after m (e ∷ es) before under rise =
      let below : AreBelow e.0 (fin.entries m) = under e.0 rise.0 in
      let one : fin.entries (fin.insert m e.0 e.1) ≡ fin.entries m ++ e ∷ [] =
      fin.entries-insert nat_cmp_total m e.0 e.1 ∙ put_last e.0 e.1 (fin.entries m) below in
      let next : IsUnder (fin.insert m e.0 e.1) (Some e.0) =
      λ k above. subst (λ (l : List (ℕ × X)). AreBelow k l) (sym one)
      (below_push k e.0 e.1 (fin.entries m) below (ltb-true e.0 k above)) in
      entries_after (fin.insert m e.0 e.1) es (Some e.0) next rise.1
      ∙ ap (λ (l : List (ℕ × X)). l ++ es) one ∙ append_assoc (fin.entries m) (e ∷ []) es

  -- the empty map has none
  no_entries : fin.entries (fin.empty {X = X} {R = nat_cmp}) ≡ []
  no_entries = no_length (fin.entries (fin.empty {X = X} {R = nat_cmp}))
      (sym (fin.len-entries (fin.empty {X = X} {R = nat_cmp})) ∙ fin.len-empty nat_cmp X)

  -- entries that rise are those of the map that they make
  entries_made : (es : List (ℕ × X)) → Rise key None es → fin.entries (gathered with_entry fin.empty es) ≡ es
  entries_made es rise =
      entries_after fin.empty es None (λ k above. subst (λ (l : List (ℕ × X)). AreBelow k l) (sym no_entries) tt) rise
      ∙ ap (λ (l : List (ℕ × X)). l ++ es) no_entries

  -- sorted entries behind a key rise
  rise_behind : (k : ℕ) (es : List (ℕ × X)) → T (below_all nat_cmp k es) → T (is_sorted nat_cmp es)
      → Rise key (Some k) es
  rise_behind k [] below sorted = tt
  rise_behind k (e ∷ es) below sorted = (
    lt-ltb k e.0 (less_from k e.0 (holds _ (front (is_lt (nat_cmp k e.0)) (below_all nat_cmp k es) below))),
    rise_behind e.0 es (front (below_all nat_cmp e.0 es) (is_sorted nat_cmp es) sorted)
        (back (below_all nat_cmp e.0 es) (is_sorted nat_cmp es) sorted),
  )

  -- sorted entries rise
  rise_sorted : (es : List (ℕ × X)) → T (is_sorted nat_cmp es) → Rise key None es
  rise_sorted [] sorted = tt
  rise_sorted (e ∷ es) sorted = (
    refl,
    rise_behind e.0 es (front (below_all nat_cmp e.0 es) (is_sorted nat_cmp es) sorted)
        (back (below_all nat_cmp e.0 es) (is_sorted nat_cmp es) sorted),
  )

  -- and so do their tags
  rise_keys : (before : Option ℕ) (es : List (ℕ × X)) → Rise key before es → Rise (λ tag. tag) before (keys_of es)
  rise_keys before [] rise = tt
  rise_keys before (e ∷ es) rise = (rise.0, rise_keys (Some e.0) es rise.1)

-- ---- tombstones

-- tags that rise do so with nothing under them
rise_marked : (before : Option ℕ) (tags : List ℕ) → Rise (λ tag. tag) before tags → Rise key before (marked tags)
rise_marked before [] rise = tt
rise_marked before (tag ∷ tags) rise = (rise.0, rise_marked (Some tag) tags rise.1)

-- options of nothing are equal where both are there or neither
same_if_some : (a b : Option (Unit {0})) → is_some a ≡ is_some b → a ≡ b
same_if_some None None e = refl
same_if_some None (Some y) e = absurd cc
same_if_some (Some x) None e = absurd cc
same_if_some (Some x) (Some y) e = refl

-- a test, or an option that is there
some_or : (b : Bool) (o : Option (Unit {0})) → (b || is_some o) ≡ is_some (cond b (Some tt) o)
some_or true o = refl
some_or false o = refl

-- to add a tag to the set is to add it to the map
as_map_insert : (s : set.FinSet nat_cmp) (tag : ℕ) → as_map (set.insert s tag) ≡ fin.insert (as_map s) tag tt
as_map_insert s tag = fin.same_map nat_cmp_total fin.nat_cmp-IsAntisymmetric _ _ (λ q. same_if_some _ _
    (test_of_tags (set.insert s tag) q ∙ set.contains-insert nat_cmp_total s tag q
    ∙ ap (λ (b : Bool). eq_by_cmp nat_cmp q tag || b) (sym (test_of_tags s q))
    ∙ some_or (eq_by_cmp nat_cmp q tag) (fin.get (as_map s) q)
    ∙ ap is_some (sym (fin.get-insert nat_cmp_total (as_map s) tag tt q))))

-- the empty set is the empty map
as_map_empty : as_map set.empty ≡ fin.empty
as_map_empty = fin.same_map nat_cmp_total fin.nat_cmp-IsAntisymmetric _ _ (λ q. same_if_some _ _
    (test_of_tags set.empty q ∙ set.contains-empty nat_cmp q ∙ ap is_some (sym (fin.get-empty nat_cmp q))))

-- and so for tags one after the other
as_map_after : (s : set.FinSet nat_cmp) (tags : List ℕ)
    → as_map (gathered set.insert s tags) ≡ gathered with_entry (as_map s) (marked tags)
as_map_after s [] = refl
as_map_after s (tag ∷ tags) = as_map_after (set.insert s tag) tags
    ∙ ap (λ (m : FinMap nat_cmp (Unit {0})). gathered with_entry m (marked tags)) (as_map_insert s tag)

-- ---- states

-- only strokes are added
strokes_alone : (s : State) (es : List (ℕ × Seed))
    → gathered with_stroke s es ≡ record s { strokes = gathered with_entry s.strokes es }
strokes_alone s [] = refl
strokes_alone s (e ∷ es) = strokes_alone (with_stroke s e) es

-- only tombstones are added
tombstones_alone : (s : State) (tags : List ℕ)
    → gathered with_tombstone s tags ≡ record s { tombstones = gathered set.insert s.tombstones tags }
tombstones_alone s [] = refl
tombstones_alone s (tag ∷ tags) = tombstones_alone (with_tombstone s tag) tags

-- the map and the set that they make
abbrev made : List (ℕ × Seed) → List ℕ → State
made es tags = record { strokes = gathered with_entry fin.empty es; tombstones = gathered set.insert set.empty tags }

-- they are the state
state_is : (es : List (ℕ × Seed)) (tags : List ℕ) → state_of es tags ≡ made es tags
state_is es tags =
    ap (λ (s : State). gathered with_tombstone s tags) (strokes_alone nothing es)
    ∙ tombstones_alone (record { strokes = gathered with_entry fin.empty es; tombstones = set.empty }) tags

-- the strokes of the state that they make
pub strokes_made : (es : List (ℕ × Seed)) (tags : List ℕ) → Rise key None es → strokes_of (state_of es tags) ≡ es
strokes_made es tags rise = ap strokes_of (state_is es tags) ∙ entries_made es rise

-- its tombstones
pub tombstones_made : (es : List (ℕ × Seed)) (tags : List ℕ) → Rise (λ tag. tag) None tags → tombstones_of
    (state_of es tags) ≡ tags
tombstones_made es tags rise =
    ap tombstones_of (state_is es tags)
    ∙ ap (λ (m : FinMap nat_cmp (Unit {0})). keys_of (fin.entries m))
    (as_map_after set.empty tags ∙ ap (λ (m : FinMap nat_cmp (Unit {0})). gathered with_entry m (marked tags))
    as_map_empty)
    ∙ ap (λ (l : List (ℕ × Unit {0})). keys_of l)
    (entries_made (marked tags) (rise_marked None tags rise))
    ∙ keys_of_marked tags

-- strokes and tombstones of a state rise
pub strokes_rise : (s : State) → Rise key None (strokes_of s)
strokes_rise s = rise_sorted (strokes_of s) (fin.entries_sorted s.strokes)

-- and so do its tombstones
pub tombstones_rise : (s : State) → Rise (λ tag. tag) None (tombstones_of s)
tombstones_rise s = rise_keys None (fin.entries (as_map s.tombstones))
    (rise_sorted (fin.entries (as_map s.tombstones)) (fin.entries_sorted (as_map s.tombstones)))

-- what the set has after tags were added
contains_after : (s : set.FinSet nat_cmp) (tags : List ℕ) (q : ℕ)
    → set.contains (gathered set.insert s tags) q ≡ (list_any (eq_by_cmp nat_cmp q) tags || set.contains s q)
contains_after s [] q = refl
contains_after s (tag ∷ tags) q =
    contains_after (set.insert s tag) tags q
    ∙ ap (λ (b : Bool). list_any (eq_by_cmp nat_cmp q) tags || b) (set.contains-insert nat_cmp_total s tag q)
    ∙ swapped (list_any (eq_by_cmp nat_cmp q) tags) (eq_by_cmp nat_cmp q tag) (set.contains s q)

-- and they make it
pub state_made : (s : State) → state_of (strokes_of s) (tombstones_of s) ≡ s
state_made s =
    let strokes : gathered with_entry fin.empty (strokes_of s) ≡ s.strokes =
    fin.same_entries_map _ _ (entries_made (strokes_of s) (strokes_rise s)) in
    let tombstones : gathered set.insert set.empty (tombstones_of s) ≡ s.tombstones =
    set.same_set nat_cmp_total fin.nat_cmp-IsAntisymmetric _ _ (λ q.
    contains_after set.empty (tombstones_of s) q
    ∙ ap (λ (b : Bool). list_any (eq_by_cmp nat_cmp q) (tombstones_of s) || b) (set.contains-empty nat_cmp q)
    ∙ or_false (list_any (eq_by_cmp nat_cmp q) (tombstones_of s))
    ∙ sym (fin.contains_key-keys (as_map s.tombstones) q)
    ∙ test_of_tags s.tombstones q) in
    state_is (strokes_of s) (tombstones_of s) ∙ (λ i. record { strokes = strokes i; tombstones = tombstones i })
