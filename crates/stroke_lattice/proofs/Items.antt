-- The items of a state are in order, and an item that goes after all others stands last.
use Rattle.std.proofs.Common.{◌≡◌, ℕ, ◌+◌, ◌<◌, Bool, true, false, List, [], ◌∷◌, ◌++◌, map, refl, sym, ap, subst, ◌∙◌}
use Rattle.std.proofs.Common.{inl, inr, arith, append_assoc, Contains, ◌&&◌, T, is_some, Ordering, Less, Equal, Greater}
use Rattle.std.proofs.Common.{sum_by, nat_cmp, is_lt}
use Rattle.std.proofs.{lemmas.Bool.Decides.nat_tests, lemmas.List.Sums.sum_by-append, lemmas.List.map-id}
use Rattle.std.proofs.lemmas.List.Elements.{Contains-push, Contains-push_cases, Contains-append_left}
use Rattle.std.specs.{List.AllByRecursion, List.list_any, List.Sorted.IsStrictlySortedBy, Ordering.eq_by_cmp}
use Rattle.std.specs.{Cmp.nat_cmp_total, FinMap.is_sorted, FinMap.put}
use Rattle.std.specs.FinMap.Entries.{below_all, by_order, is_some-find}
use Rattle.stroke_core.specs.Seed.{Seed}
use Rattle.stroke_lattice.specs.{declared.split.TheConstants.HEAD_BYTES, Change.AreRising, Walks.AreStrokes}
use Rattle.stroke_lattice.specs.{Walks.AreTombstones, Filling.ComesBefore, Filling.AllBefore, Filling.AreInOrder}
use Rattle.stroke_lattice.specs.State.{State, HasSomeStroke, HasTombstone, nothing}
use Rattle.stroke_lattice.specs.Pieces.{Item, Placed, Withdrawn, strokes_of, tombstones_of, items_of, item_length}
use Rattle.stroke_lattice.specs.Pieces.{frame_length, with_item}
use Rattle.stroke_lattice.proofs.{Joins.nothing_has_no_stroke, Joins.nothing_has_no_tombstone, Views.kept}
use Rattle.stroke_lattice.proofs.{Walking.are_strokes, Walking.are_tombstones, Lists.holds_of_member}
use Rattle.stroke_lattice.proofs.{RisingLists.same_members}
use Rattle.grid_core.proofs.Common.{map_has, not_in_empty}
use Rattle.stroke_lattice.proofs.Growing.{tombstone_of_new, more_tombstones, only_one_more}
use Rattle.std.specs.FinMap as map
use Rattle.std.specs.FinSet as set

-- ---- the entries of a map are in order

-- the first of two tests
pub front : (a b : Bool) → T (a && b) → T a
front true b h = tt
front false b h = absurd h

-- the second of two tests
pub back : (a b : Bool) → T (a && b) → T b
back true b h = h
back false b h = absurd h

is_less : (o : Ordering) → T (is_lt o) → o ≡ Less
is_less Less h = refl
is_less Equal h = absurd h
is_less Greater h = absurd h

greater : (x y : ℕ) → y < x → nat_cmp x y ≡ Greater
greater x y e = grind (arith, nat_tests)

module _ {X : Type 0} where
  -- a key above all others goes last
  pub put_last : (k : ℕ) (v : X) (es : List (ℕ × X)) → AllByRecursion (λ other. other < k) (map (λ e. e.0) es)
      → put nat_cmp k v es ≡ es ++ (k, v) ∷ []
  put_last k v [] below = refl
  put_last k v (e ∷ es) below =
      ap (λ (o : Ordering). by_order o ((k, v) ∷ e ∷ es) ((e.0, v) ∷ es) (e ∷ put nat_cmp k v es))
      (greater k e.0 below.0)
      ∙ ap (λ (l : List (ℕ × X)). e ∷ l) (put_last k v es below.1)

  each_less : (k : ℕ) (es : List (ℕ × X)) → T (below_all nat_cmp k es)
      → AllByRecursion (λ other. nat_cmp k other ≡ Less) (map (λ e. e.0) es)
  each_less k [] h = tt
  each_less k (e ∷ es) h = (
    is_less (nat_cmp k e.0) (front (is_lt (nat_cmp k e.0)) (below_all nat_cmp k es) h),
    each_less k es (back (is_lt (nat_cmp k e.0)) (below_all nat_cmp k es) h),
  )

  sorted_keys : (es : List (ℕ × X)) → T (is_sorted nat_cmp es) → IsStrictlySortedBy nat_cmp (map (λ e. e.0) es)
  unfolding IsStrictlySortedBy
  sorted_keys [] h = tt
  sorted_keys (e ∷ es) h = (
    each_less e.0 es (front (below_all nat_cmp e.0 es) (is_sorted nat_cmp es) h),
    sorted_keys es (back (below_all nat_cmp e.0 es) (is_sorted nat_cmp es) h),
  )

-- ---- the walks over a state

-- the strokes in order are what a walk over them gives
pub strokes_walk : (s : State) → AreStrokes s (strokes_of s)
strokes_walk s =
    let walk = are_strokes (strokes_of s) [] (kept (strokes_of s) []) refl
    (sorted_keys (strokes_of s) (map.entries_sorted s.strokes)) in
    let same : (tag : ℕ) → map.get (map.from_entries {R = nat_cmp} (strokes_of s)) tag ≡ map.get s.strokes tag =
    λ tag. map.get-from_entries nat_cmp_total (strokes_of s) tag ∙ sym (map.get-entries s.strokes tag) in
    record {
      each = λ tag seed. (
        λ has. sym (same tag) ∙ (walk.each tag seed).0 has,
        λ has. (walk.each tag seed).1 (same tag ∙ has),
      );
      rise = walk.rise;
    }

pub strokes_are : (s : State) (es : List (ℕ × Seed)) → AreStrokes s es → es ≡ strokes_of s
strokes_are s es walk =
    let own = strokes_walk s in
    same_members (λ e. e.0) es (strokes_of s) walk.rise own.rise
    (λ q has. (own.each q.0 q.1).1 ((walk.each q.0 q.1).0 has))
    (λ q has. (walk.each q.0 q.1).1 ((own.each q.0 q.1).0 has))

-- the tags as keys of a map that has nothing else
abbrev pub marked : List ℕ → List (ℕ × Unit {0})
marked tags = map (λ tag. (tag, tt {0})) tags

pub keys_of_marked : (tags : List ℕ) → map (λ e. e.0) (marked tags) ≡ tags
keys_of_marked [] = refl
keys_of_marked (tag ∷ tags) = ap (λ (l : List ℕ). tag ∷ l) (keys_of_marked tags)

-- a set of tags as such a map
abbrev pub as_map : set.FinSet nat_cmp → map.FinMap nat_cmp (Unit {0})
as_map tags = map.from_entries (marked (set.items tags))

-- the map has the tags of the set
pub test_of_tags : (tags : set.FinSet nat_cmp) (tag : ℕ)
    → is_some (map.get (as_map tags) tag) ≡ set.contains tags tag
test_of_tags tags tag =
    ap is_some (map.get-from_entries nat_cmp_total (marked (set.items tags)) tag)
    ∙ is_some-find nat_cmp tag (marked (set.items tags))
    ∙ ap (list_any (eq_by_cmp nat_cmp tag)) (keys_of_marked (set.items tags))
    ∙ sym (set.contains-items tags tag)

-- the tombstones in order are what a walk over them gives
pub tombstones_walk : (s : State) → AreTombstones s (tombstones_of s)
tombstones_walk s =
    let tags = tombstones_of s in
    let walk = are_tombstones [] tags (kept [] tags) refl
    (sorted_keys (map.entries (as_map s.tombstones)) (map.entries_sorted (as_map s.tombstones))) in
    let same : (tag : ℕ) → set.contains (set.from_list {R = nat_cmp} tags) tag ≡ set.contains s.tombstones tag =
    λ tag. set.contains-from_list nat_cmp_total tags tag ∙ sym (map.contains_key-keys (as_map s.tombstones) tag)
    ∙ test_of_tags s.tombstones tag in
    record {
      each = λ tag. (
        λ has. sym (same tag) ∙ (walk.each tag).0 has,
        λ has. (walk.each tag).1 (same tag ∙ has),
      );
      rise = walk.rise;
    }

pub tombstones_are : (s : State) (tags : List ℕ) → AreTombstones s tags → tags ≡ tombstones_of s
tombstones_are s tags walk =
    let own = tombstones_walk s in
    same_members (λ tag. tag) tags (tombstones_of s)
    (subst AreRising (sym (map-id tags)) walk.rise) (subst AreRising (sym (map-id (tombstones_of s))) own.rise)
    (λ q has. (own.each q).1 ((walk.each q).0 has))
    (λ q has. (walk.each q).1 ((own.each q).0 has))

-- ---- an item that goes after all others

-- the items of these strokes and tombstones
abbrev joined : List (ℕ × Seed) → List ℕ → List Item
joined es tags = map (λ entry. Placed entry.0 entry.1) es ++ map (λ tag. Withdrawn tag) tags

tags_below : (tags : List ℕ) (tag : ℕ) → AllBefore (map (λ t. Withdrawn t) tags) (Withdrawn tag)
    → AllByRecursion (λ other. other < tag) tags
tags_below [] tag before = tt
tags_below (t ∷ tags) tag before = (before.0, tags_below tags tag before.1)

after_strokes : (es : List (ℕ × Seed)) (tags : List ℕ) (tag : ℕ) → AllBefore (joined es tags) (Withdrawn tag)
    → AllByRecursion (λ other. other < tag) tags
after_strokes [] tags tag before = tags_below tags tag before
after_strokes (e ∷ es) tags tag before = after_strokes es tags tag before.1

strokes_below : (es : List (ℕ × Seed)) (tags : List ℕ) (tag : ℕ) (seed : Seed)
    → AllBefore (joined es tags) (Placed tag seed) → AllByRecursion (λ other. other < tag) (map (λ e. e.0) es)
strokes_below [] tags tag seed before = tt
strokes_below (e ∷ es) tags tag seed before = (before.0, strokes_below es tags tag seed before.1)

stroke_last : (es : List (ℕ × Seed)) (tags : List ℕ) (tag : ℕ) (seed : Seed)
    → AllBefore (joined es tags) (Placed tag seed)
    → joined (es ++ (tag, seed) ∷ []) tags ≡ joined es tags ++ Placed tag seed ∷ []
stroke_last [] [] tag seed before = refl
stroke_last [] (t ∷ tags) tag seed before = absurd before.0
stroke_last (e ∷ es) tags tag seed before =
    ap (λ (l : List Item). Placed e.0 e.1 ∷ l) (stroke_last es tags tag seed before.1)

tombstone_last : (es : List (ℕ × Seed)) (tags : List ℕ) (tag : ℕ)
    → joined es (tags ++ tag ∷ []) ≡ joined es tags ++ Withdrawn tag ∷ []
tombstone_last [] [] tag = refl
tombstone_last [] (t ∷ tags) tag = ap (λ (l : List Item). Withdrawn t ∷ l) (tombstone_last [] tags tag)
tombstone_last (e ∷ es) tags tag = ap (λ (l : List Item). Placed e.0 e.1 ∷ l) (tombstone_last es tags tag)

all_push : (k : ℕ) (tags : List ℕ) (tag : ℕ) → AllByRecursion (λ other. k < other) tags → k < tag
    → AllByRecursion (λ other. k < other) (tags ++ tag ∷ [])
all_push k [] tag all below = (below, tt)
all_push k (t ∷ tags) tag all below = (all.0, all_push k tags tag all.1 below)

rise_push : (tags : List ℕ) (tag : ℕ) → AreRising tags → AllByRecursion (λ other. other < tag) tags
    → AreRising (tags ++ tag ∷ [])
rise_push [] tag rise below = (tt, tt)
rise_push (t ∷ tags) tag rise below = (all_push t tags tag rise.0 below.0, rise_push tags tag rise.1 below.1)

tombstones_of_longer : (s : State) (tag : ℕ) → AllByRecursion (λ other. other < tag) (tombstones_of s)
    → tombstones_of (with_item s (Withdrawn tag)) ≡ tombstones_of s ++ tag ∷ []
tombstones_of_longer s tag below =
    let walk = tombstones_walk s in
    sym (tombstones_are (with_item s (Withdrawn tag)) (tombstones_of s ++ tag ∷ []) (record {
      each = λ t. (
        λ has. elim (Contains-push_cases (tombstones_of s) tag t has) [
          | inl before ↦ more_tombstones s tag t ((walk.each t).0 before)
          | inr this ↦ subst (HasTombstone (with_item s (Withdrawn tag))) this (tombstone_of_new s tag)
        ],
        λ has. elim (only_one_more s tag t has) [
          | inl e ↦ subst (Contains (tombstones_of s ++ tag ∷ [])) (sym e) (Contains-push (tombstones_of s) tag)
          | inr before ↦ Contains-append_left (tombstones_of s) (tag ∷ []) t ((walk.each t).1 before)
        ],
      );
      rise = rise_push (tombstones_of s) tag walk.rise below;
    }))

-- the item stands last
pub items_of_longer : (s : State) (item : Item) → AllBefore (items_of s) item
    → items_of (with_item s item) ≡ items_of s ++ item ∷ []
items_of_longer s (Placed tag seed) before =
    ap (λ (es : List (ℕ × Seed)). joined es (tombstones_of s))
    (map.entries-insert nat_cmp_total s.strokes tag seed
    ∙ put_last tag seed (strokes_of s) (strokes_below (strokes_of s) (tombstones_of s) tag seed before))
    ∙ stroke_last (strokes_of s) (tombstones_of s) tag seed before
items_of_longer s (Withdrawn tag) before =
    ap (joined (strokes_of s)) (tombstones_of_longer s tag (after_strokes (strokes_of s) (tombstones_of s) tag before))
    ∙ tombstone_last (strokes_of s) (tombstones_of s) tag

pub frame_length_of_longer : (s : State) (item : Item) → AllBefore (items_of s) item
    → frame_length (with_item s item) ≡ frame_length s + item_length item
frame_length_of_longer s item before =
    let more : sum_by item_length (items_of (with_item s item)) ≡ sum_by item_length
    (items_of s) + (0 + item_length item) =
    ap (sum_by item_length) (items_of_longer s item before)
    ∙ sum_by-append item_length (items_of s) (item ∷ []) in
    omega arith

-- an item that goes after all others is not there yet
pub new_stroke : (s : State) (tag : ℕ) (seed : Seed) → AllBefore (items_of s) (Placed tag seed)
    → HasSomeStroke s tag → ⊥
new_stroke s tag seed before some =
    let member : Contains (map (λ (e : ℕ × Seed). e.0) (strokes_of s)) tag =
    map_has (λ e. e.0) (strokes_of s) (tag, some.0) (((strokes_walk s).each tag some.0).1 some.1) in
    let below : tag < tag = holds_of_member (λ other. other < tag) (map (λ e. e.0) (strokes_of s)) tag
    (strokes_below (strokes_of s) (tombstones_of s) tag seed before) member in
    absurd (omega arith)

pub new_tombstone : (s : State) (tag : ℕ) → AllBefore (items_of s) (Withdrawn tag) → HasTombstone s tag → ⊥
new_tombstone s tag before has =
    let below : tag < tag = holds_of_member (λ other. other < tag) (tombstones_of s) tag
    (after_strokes (strokes_of s) (tombstones_of s) tag before) (((tombstones_walk s).each tag).1 has) in
    absurd (omega arith)

-- ---- no items

no_strokes : AreStrokes nothing []
no_strokes = record {
  each = λ tag seed. (λ has. absurd (not_in_empty (tag, seed) has), λ has. absurd (nothing_has_no_stroke tag seed has));
  rise = tt;
}

no_tombstones : AreTombstones nothing []
no_tombstones = record {
  each = λ tag. (λ has. absurd (not_in_empty tag has), λ has. absurd (nothing_has_no_tombstone tag has));
  rise = tt;
}

pub items_of_nothing : items_of nothing ≡ []
items_of_nothing =
    ap (λ (es : List (ℕ × Seed)). joined es (tombstones_of nothing)) (sym (strokes_are nothing [] no_strokes))
    ∙ ap (joined []) (sym (tombstones_are nothing [] no_tombstones))

pub frame_length_of_nothing : frame_length nothing ≡ HEAD_BYTES
frame_length_of_nothing = ap (λ (items : List Item). HEAD_BYTES + sum_by item_length items) items_of_nothing

-- ---- the order of all items

tags_above : (tag : ℕ) (tags : List ℕ) → AllByRecursion (λ other. tag < other) tags
    → AllByRecursion (λ other. ComesBefore (Withdrawn tag) other) (map (λ t. Withdrawn t) tags)
tags_above tag [] above = tt
tags_above tag (t ∷ tags) above = (above.0, tags_above tag tags above.1)

tombstones_above : (tag : ℕ) (seed : Seed) (tags : List ℕ)
    → AllByRecursion (λ other. ComesBefore (Placed tag seed) other) (map (λ t. Withdrawn t) tags)
tombstones_above tag seed [] = tt
tombstones_above tag seed (t ∷ tags) = (tt, tombstones_above tag seed tags)

strokes_above : (tag : ℕ) (seed : Seed) (es : List (ℕ × Seed)) (tags : List ℕ)
    → AllByRecursion (λ other. tag < other) (map (λ e. e.0) es)
    → AllByRecursion (λ other. ComesBefore (Placed tag seed) other) (joined es tags)
strokes_above tag seed [] tags above = tombstones_above tag seed tags
strokes_above tag seed (e ∷ es) tags above = (above.0, strokes_above tag seed es tags above.1)

tags_in_order : (tags : List ℕ) → AreRising tags → AreInOrder (map (λ t. Withdrawn t) tags)
tags_in_order [] rise = tt
tags_in_order (tag ∷ tags) rise = (tags_above tag tags rise.0, tags_in_order tags rise.1)

joined_in_order : (es : List (ℕ × Seed)) (tags : List ℕ) → AreRising (map (λ e. e.0) es) → AreRising tags
    → AreInOrder (joined es tags)
joined_in_order [] tags rise_e rise_t = tags_in_order tags rise_t
joined_in_order (e ∷ es) tags rise_e rise_t =
    (strokes_above e.0 e.1 es tags rise_e.0, joined_in_order es tags rise_e.1 rise_t)

pub items_in_order : (s : State) → AreInOrder (items_of s)
items_in_order s = joined_in_order (strokes_of s) (tombstones_of s) (strokes_walk s).rise (tombstones_walk s).rise

-- ---- lists of items in order

all_at : (items : List Item) (item : Item) (rest : List Item) (x : Item)
    → AllByRecursion (λ other. ComesBefore x other) (items ++ item ∷ rest) → ComesBefore x item
all_at [] item rest x all = all.0
all_at (y ∷ items) item rest x all = all_at items item rest x all.1

pub before_next : (items : List Item) (item : Item) (rest : List Item) → AreInOrder (items ++ item ∷ rest)
    → AllBefore items item
before_next [] item rest order = tt
before_next (x ∷ items) item rest order = (all_at items item rest x order.0, before_next items item rest order.1)

pub order_behind : (items rest : List Item) → AreInOrder (items ++ rest) → AreInOrder rest
order_behind [] rest order = order
order_behind (x ∷ items) rest order = order_behind items rest order.1

pub order_joined : (items : List Item) (item : Item) (rest : List Item) → AreInOrder (items ++ item ∷ rest)
    → AreInOrder ((items ++ item ∷ []) ++ rest)
order_joined items item rest order = subst AreInOrder (sym (append_assoc items (item ∷ []) rest)) order
