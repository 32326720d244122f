-- A state as the entries of a map and the keys of a set.
use Rattle.std.proofs.Common.{◌≡◌, ℕ, Bool, true, false, not, ◌||◌, ◌&&◌, cond, List, [], ◌∷◌, Option, Some, None, refl}
use Rattle.std.proofs.Common.{sym, ap, ◌∙◌, nat_cmp}
use Rattle.std.specs.{FinMap.find, Map.lookup, BTreeMap.is_at, List.list_any, Ordering.eq_by_cmp}
use Rattle.std.specs.Cmp.{nat_cmp_total, eq_by_cmp_equiv}
use Rattle.stroke_core.specs.Seed.{Seed}
use Rattle.stroke_lattice.specs.State.{State}
use Rattle.stroke_lattice.proofs.Joins.{from_parts}
use Rattle.std.specs.FinMap as map
use Rattle.std.specs.FinSet as set

-- the state that is kept in these entries and keys
abbrev pub kept : List (ℕ × Seed) → List ℕ → State
kept es ks = record { strokes = map.from_entries es; tombstones = set.from_list ks }

-- what the entries have at a tag
abbrev pub entry_at : List (ℕ × Seed) → ℕ → Option Seed
entry_at es tag = lookup (is_at (nat_cmp tag)) es

-- whether the keys have a tag
abbrev pub key_at : List ℕ → ℕ → Bool
key_at ks tag = list_any (is_at (nat_cmp tag)) ks

find_entry : (es : List (ℕ × Seed)) (tag : ℕ) → find nat_cmp tag es ≡ entry_at es tag
find_entry [] tag = refl
find_entry (e ∷ es) tag = ap (cond (is_at (nat_cmp tag) e.0) (Some e.1)) (find_entry es tag)

pub get_kept : (es : List (ℕ × Seed)) (tag : ℕ) → map.get (map.from_entries {R = nat_cmp} es) tag ≡ entry_at es tag
get_kept es tag = map.get-from_entries nat_cmp_total es tag ∙ find_entry es tag

pub contains_kept : (ks : List ℕ) (tag : ℕ) → set.contains (set.from_list {R = nat_cmp} ks) tag ≡ key_at ks tag
contains_kept ks tag = set.contains-from_list nat_cmp_total ks tag

turned : (a b : ℕ) → eq_by_cmp nat_cmp a b ≡ eq_by_cmp nat_cmp b a
turned a b = (eq_by_cmp_equiv nat_cmp_total).symm a b

pub inserted : (es fs : List (ℕ × Seed)) (ks : List ℕ) (s : State) (tag : ℕ) (seed : Seed) → kept es ks ≡ s
    → ((q : ℕ) → entry_at fs q ≡ cond (is_at (nat_cmp tag) q) (Some seed) (entry_at es q))
    → kept fs ks ≡ record s { strokes = map.insert s.strokes tag seed }
inserted es fs ks s tag seed is updates =
    let strokes : map.from_entries {R = nat_cmp} fs ≡ map.insert (map.from_entries es) tag seed = map.same_map
    nat_cmp_total map.nat_cmp-IsAntisymmetric _ _ (λ q.
    get_kept fs q ∙ updates q ∙ ap (cond (is_at (nat_cmp tag) q) (Some seed)) (sym (get_kept es q))
    ∙ ap (λ (b : Bool). cond b (Some seed) (map.get (map.from_entries {R = nat_cmp} es) q)) (turned tag q)
    ∙ sym (map.get-insert nat_cmp_total (map.from_entries es) tag seed q)) in
    from_parts _ _ (strokes ∙ ap (λ (t : State). map.insert t.strokes tag seed) is)
    (ap (λ (t : State). t.tombstones) is)

pub removed : (es fs : List (ℕ × Seed)) (ks : List ℕ) (s : State) (tag : ℕ) → kept es ks ≡ s
    → ((q : ℕ) → entry_at fs q ≡ cond (is_at (nat_cmp tag) q) None (entry_at es q))
    → kept fs ks ≡ record s { strokes = map.remove s.strokes tag }
removed es fs ks s tag is updates =
    let strokes : map.from_entries {R = nat_cmp} fs ≡ map.remove (map.from_entries es) tag = map.same_map
    nat_cmp_total map.nat_cmp-IsAntisymmetric _ _ (λ q.
    get_kept fs q ∙ updates q ∙ ap (cond (is_at (nat_cmp tag) q) None) (sym (get_kept es q))
    ∙ ap (λ (b : Bool). cond b None (map.get (map.from_entries {R = nat_cmp} es) q)) (turned tag q)
    ∙ sym (map.get-remove nat_cmp_total (map.from_entries es) tag q)) in
    from_parts _ _ (strokes ∙ ap (λ (t : State). map.remove t.strokes tag) is) (ap (λ (t : State). t.tombstones) is)

cond_true : (b c : Bool) → cond b true c ≡ (b || c)
cond_true true c = refl
cond_true false c = refl

cond_false : (b c : Bool) → cond b false c ≡ (not b && c)
cond_false true c = refl
cond_false false c = refl

pub buried : (es : List (ℕ × Seed)) (ks ls : List ℕ) (s : State) (tag : ℕ) → kept es ks ≡ s
    → ((q : ℕ) → key_at ls q ≡ cond (is_at (nat_cmp tag) q) true (key_at ks q))
    → kept es ls ≡ record s { tombstones = set.insert s.tombstones tag }
buried es ks ls s tag is updates =
    let tombstones : set.from_list {R = nat_cmp} ls ≡ set.insert (set.from_list ks) tag = set.same_set nat_cmp_total
    map.nat_cmp-IsAntisymmetric _ _ (λ q.
    contains_kept ls q ∙ updates q ∙ cond_true (is_at (nat_cmp tag) q) (key_at ks q)
    ∙ ap (λ (b : Bool). b || key_at ks q) (turned tag q)
    ∙ ap (λ (b : Bool). eq_by_cmp nat_cmp q tag || b) (sym (contains_kept ks q))
    ∙ sym (set.contains-insert nat_cmp_total (set.from_list ks) tag q)) in
    from_parts _ _ (ap (λ (t : State). t.strokes) is)
    (tombstones ∙ ap (λ (t : State). set.insert t.tombstones tag) is)

pub dug_up : (es : List (ℕ × Seed)) (ks ls : List ℕ) (s : State) (tag : ℕ) → kept es ks ≡ s
    → ((q : ℕ) → key_at ls q ≡ cond (is_at (nat_cmp tag) q) false (key_at ks q))
    → kept es ls ≡ record s { tombstones = set.remove s.tombstones tag }
dug_up es ks ls s tag is updates =
    let tombstones : set.from_list {R = nat_cmp} ls ≡ set.remove (set.from_list ks) tag = set.same_set nat_cmp_total
    map.nat_cmp-IsAntisymmetric _ _ (λ q.
    contains_kept ls q ∙ updates q ∙ cond_false (is_at (nat_cmp tag) q) (key_at ks q)
    ∙ ap (λ (b : Bool). not b && key_at ks q) (turned tag q)
    ∙ ap (λ (b : Bool). not (eq_by_cmp nat_cmp q tag) && b) (sym (contains_kept ks q))
    ∙ sym (set.contains-remove nat_cmp_total (set.from_list ks) tag q)) in
    from_parts _ _ (ap (λ (t : State). t.strokes) is)
    (tombstones ∙ ap (λ (t : State). set.remove t.tombstones tag) is)
