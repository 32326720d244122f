-- The items of a state from a place on.
use Rattle.std.proofs.Common.{◌≡◌, ℕ, Bool, true, false, not, ◌&&◌, cond, List, [], ◌∷◌, ◌++◌, map, refl, sym, ap}
use Rattle.std.proofs.Common.{subst, ◌∙◌, arith, append_assoc, nat_le, filter, nat_cmp, is_le}
use Rattle.std.proofs.lemmas.Bool.{Decides.nat_tests, cond-false}
use Rattle.std.specs.{BTreeMap.Range.range_contains, Map.keys_of, List.Sorted.IsStrictlySortedBy, List.AllByRecursion}
use Rattle.std.specs.declared.ops.Bound.TheVariants.{Included, Excluded, Unbounded}
use Rattle.stroke_core.specs.Seed.{Seed}
use Rattle.stroke_lattice.specs.{declared.piece.Place.Place, State.State, Filling.ComesBefore, Filling.AreInOrder}
use Rattle.stroke_lattice.specs.Pieces.{Item, Placed, Withdrawn, items_of, strokes_of}
use Rattle.stroke_lattice.specs.Places.{is_from, items_from, place_of, items_in}
use Rattle.stroke_lattice.proofs.{Views.kept, Walking.are_strokes, Walking.are_tombstones}
use Rattle.stroke_lattice.proofs.Items.{items_in_order, before_next, order_behind, strokes_are, tombstones_are}
use Rattle.stroke_lattice.specs.declared.piece.Place.TheVariants as places

-- ---- what the ranges of the map and of the set give

tag_from : (tag other : ℕ) → range_contains nat_cmp (Included tag) Unbounded other ≡ nat_le tag other
tag_from tag other = grind (arith, nat_tests)

none_between : (b : Bool) → (b && not b) ≡ false
none_between true = refl
none_between false = refl

-- the entry stands first where the test holds
placed_first : (a b : Bool) (e : ℕ × Seed) (es : List (ℕ × Seed)) (tags : List ℕ) (rest : List Item) → a ≡ b
    → items_in es tags ≡ rest
    → items_in (cond a (e ∷ es) es) tags ≡ cond b (Placed e.0 e.1 ∷ rest) rest
placed_first true true e es tags rest same is = ap (λ (l : List Item). Placed e.0 e.1 ∷ l) is
placed_first true false e es tags rest same is = absurd cc
placed_first false true e es tags rest same is = absurd cc
placed_first false false e es tags rest same is = is

withdrawn_first : (a b : Bool) (tag : ℕ) (tags : List ℕ) (rest : List Item) → a ≡ b
    → map (λ t. Withdrawn t) tags ≡ rest
    → map (λ t. Withdrawn t) (cond a (tag ∷ tags) tags) ≡ cond b (Withdrawn tag ∷ rest) rest
withdrawn_first true true tag tags rest same is = ap (λ (l : List Item). Withdrawn tag ∷ l) is
withdrawn_first true false tag tags rest same is = absurd cc
withdrawn_first false true tag tags rest same is = absurd cc
withdrawn_first false false tag tags rest same is = is

all_tombstones : (tag : ℕ) (tags : List ℕ)
    → map (λ t. Withdrawn t) (filter (range_contains nat_cmp Unbounded Unbounded) tags)
    ≡ filter (is_from (places.Stroke tag)) (map (λ t. Withdrawn t) tags)
all_tombstones tag [] = refl
all_tombstones tag (t ∷ tags) = ap (λ (l : List Item). Withdrawn t ∷ l) (all_tombstones tag tags)

pub from_stroke : (tag : ℕ) (es : List (ℕ × Seed)) (tags : List ℕ)
    → items_in (filter (λ e. range_contains nat_cmp (Included tag) Unbounded e.0) es)
    (filter (range_contains nat_cmp Unbounded Unbounded) tags)
    ≡ filter (is_from (places.Stroke tag)) (items_in es tags)
from_stroke tag [] tags = all_tombstones tag tags
from_stroke tag (e ∷ es) tags = placed_first (range_contains nat_cmp (Included tag) Unbounded e.0) (nat_le tag e.0) e
    (filter (λ e. range_contains nat_cmp (Included tag) Unbounded e.0) es)
    (filter (range_contains nat_cmp Unbounded Unbounded) tags)
    (filter (is_from (places.Stroke tag)) (items_in es tags)) (tag_from tag e.0) (from_stroke tag es tags)

from_tag : (tag : ℕ) (tags : List ℕ)
    → map (λ t. Withdrawn t) (filter (range_contains nat_cmp (Included tag) Unbounded) tags)
    ≡ filter (is_from (places.Tombstone tag)) (map (λ t. Withdrawn t) tags)
from_tag tag [] = refl
from_tag tag (t ∷ tags) = withdrawn_first (range_contains nat_cmp (Included tag) Unbounded t) (nat_le tag t) t
    (filter (range_contains nat_cmp (Included tag) Unbounded) tags)
    (filter (is_from (places.Tombstone tag)) (map (λ t. Withdrawn t) tags)) (tag_from tag t) (from_tag tag tags)

no_strokes : (tag : ℕ) (es : List (ℕ × Seed))
    → filter (λ e. range_contains nat_cmp (Included tag) (Excluded tag) e.0) es ≡ []
no_strokes tag [] = refl
no_strokes tag (e ∷ es) =
    ap (λ (b : Bool). cond b (e ∷ filter (λ e. range_contains nat_cmp (Included tag) (Excluded tag) e.0) es)
    (filter (λ e. range_contains nat_cmp (Included tag) (Excluded tag) e.0) es))
    (none_between (is_le (nat_cmp tag e.0)))
    ∙ no_strokes tag es

strokes_before : (tag : ℕ) (es : List (ℕ × Seed)) (tags : List ℕ)
    → filter (is_from (places.Tombstone tag)) (items_in es tags)
    ≡ filter (is_from (places.Tombstone tag)) (map (λ t. Withdrawn t) tags)
strokes_before tag [] tags = refl
strokes_before tag (e ∷ es) tags = strokes_before tag es tags

pub from_tombstone : (tag : ℕ) (es : List (ℕ × Seed)) (tags : List ℕ)
    → items_in (filter (λ e. range_contains nat_cmp (Included tag) (Excluded tag) e.0) es)
    (filter (range_contains nat_cmp (Included tag) Unbounded) tags)
    ≡ filter (is_from (places.Tombstone tag)) (items_in es tags)
from_tombstone tag es tags =
    ap (λ (l : List (ℕ × Seed)). items_in l (filter (range_contains nat_cmp (Included tag) Unbounded) tags))
    (no_strokes tag es)
    ∙ from_tag tag tags ∙ sym (strokes_before tag es tags)

all_keys : (tags : List ℕ) → filter (range_contains nat_cmp Unbounded Unbounded) tags ≡ tags
all_keys [] = refl
all_keys (t ∷ tags) = ap (λ (l : List ℕ). t ∷ l) (all_keys tags)

all_entries : (es : List (ℕ × Seed)) → filter (λ e. range_contains nat_cmp Unbounded Unbounded e.0) es ≡ es
all_entries [] = refl
all_entries (e ∷ es) = ap (λ (l : List (ℕ × Seed)). e ∷ l) (all_entries es)

pub from_everywhere : (es : List (ℕ × Seed)) (tags : List ℕ)
    → items_in (filter (λ e. range_contains nat_cmp Unbounded Unbounded e.0) es)
    (filter (range_contains nat_cmp Unbounded Unbounded) tags) ≡ items_in es tags
from_everywhere es tags =
    ap (λ (l : List (ℕ × Seed)). items_in l (filter (range_contains nat_cmp Unbounded Unbounded) tags)) (all_entries es)
    ∙ ap (items_in es) (all_keys tags)

-- the items of a state that is kept in these entries and keys
pub kept_items : (es : List (ℕ × Seed)) (ks : List ℕ) (s : State) → kept es ks ≡ s
    → IsStrictlySortedBy nat_cmp (keys_of es) → IsStrictlySortedBy nat_cmp ks → items_in es ks ≡ items_of s
kept_items es ks s is entries_rise keys_rise =
    ap (λ (l : List (ℕ × Seed)). items_in l ks) (strokes_are s es (are_strokes es ks s is entries_rise))
    ∙ ap (items_in (strokes_of s)) (tombstones_are s ks (are_tombstones es ks s is keys_rise))

-- ---- the items from a place on are the last ones

-- what comes behind an item from the place on is from the place on
stays : (place : Place) (x y : Item) → is_from place x ≡ true → ComesBefore x y → is_from place y ≡ true
stays (places.Stroke tag) (Placed a seed) (Placed b other) from before = grind (arith, nat_tests)
stays (places.Stroke tag) x (Withdrawn b) from before = refl
stays (places.Stroke tag) (Withdrawn a) (Placed b other) from before = absurd before
stays (places.Tombstone tag) (Placed a seed) y from before = absurd cc
stays (places.Tombstone tag) (Withdrawn a) (Placed b other) from before = absurd before
stays (places.Tombstone tag) (Withdrawn a) (Withdrawn b) from before = grind (arith, nat_tests)

first_kept : (b : Bool) (x : Item) (xs ys : List Item) → b ≡ true → xs ≡ ys → cond b (x ∷ xs) xs ≡ x ∷ ys
first_kept true x xs ys e is = ap (λ (l : List Item). x ∷ l) is
first_kept false x xs ys e is = absurd cc

all_from : (place : Place) (x : Item) (xs : List Item) → is_from place x ≡ true
    → AllByRecursion (λ other. ComesBefore x other) xs → filter (is_from place) xs ≡ xs
all_from place x [] from behind = refl
all_from place x (y ∷ ys) from behind = first_kept (is_from place y) y (filter (is_from place) ys) ys
    (stays place x y from behind.0) (all_from place x ys from behind.1)

at_own_place : (x : Item) → is_from (place_of x) x ≡ true
at_own_place (Placed tag seed) = grind (arith, nat_tests)
at_own_place (Withdrawn tag) = grind (arith, nat_tests)

before_place : (x y : Item) → ComesBefore y x → is_from (place_of x) y ≡ false
before_place (Placed tag seed) (Placed a other) before = grind (arith, nat_tests)
before_place (Placed tag seed) (Withdrawn a) before = absurd before
before_place (Withdrawn tag) (Placed a other) before = refl
before_place (Withdrawn tag) (Withdrawn a) before = grind (arith, nat_tests)

from_own_place : (before : List Item) (x : Item) (xs : List Item) → AreInOrder (before ++ x ∷ xs)
    → filter (is_from (place_of x)) (before ++ x ∷ xs) ≡ x ∷ xs
from_own_place [] x xs order = first_kept (is_from (place_of x) x) x (filter (is_from (place_of x)) xs) xs
    (at_own_place x) (all_from (place_of x) x xs (at_own_place x) order.0)
from_own_place (y ∷ before) x xs order =
    cond-false (is_from (place_of x) y) _ (filter (is_from (place_of x)) (before ++ x ∷ xs))
    (before_place x y (before_next (y ∷ before) x xs order).0)
    ∙ from_own_place before x xs order.1

-- where a walk over the items has come to one, it and those that are left are the items from its place on
pub items_from_own_place : (s : State) (before : List Item) (x : Item) (xs : List Item)
    → before ++ x ∷ xs ≡ items_of s → items_from s (place_of x) ≡ x ∷ xs
items_from_own_place s before x xs is =
    ap (filter (is_from (place_of x))) (sym is)
    ∙ from_own_place before x xs (subst AreInOrder (sym is) (items_in_order s))

-- the items of the list that are not from the place on
passed : (place : Place) (xs : List Item) → AreInOrder xs
    → (before : List Item) × (before ++ filter (is_from place) xs ≡ xs)
passed place [] order = ([], refl)
passed place (x ∷ xs) order =
    elim (is_from place x) as (λ b. is_from place x ≡ b
    → (before : List Item) × (before ++ cond b (x ∷ filter (is_from place) xs) (filter (is_from place) xs) ≡ x ∷ xs)) [
      | true ↦ λ e. ([], ap (λ (l : List Item). x ∷ l) (all_from place x xs e order.0))
      | false ↦ λ e.
          let rest = passed place xs order.1 in (x ∷ rest.0, ap (λ (l : List Item). x ∷ l) rest.1)
    ] refl

-- the items before a place
pub items_before : State → Place → List Item
items_before s place = (passed place (items_of s) (items_in_order s)).0

pub before_and_from : (s : State) (place : Place) → items_before s place ++ items_from s place ≡ items_of s
unfolding items_before
before_and_from s place = (passed place (items_of s) (items_in_order s)).1

pub items_from_in_order : (s : State) (place : Place) → AreInOrder (items_from s place)
items_from_in_order s place = order_behind (items_before s place) (items_from s place)
    (subst AreInOrder (sym (before_and_from s place)) (items_in_order s))

-- a walk over the items goes on
pub walk_step : (s : State) (now left : List Item) (x : Item) → now ≡ x ∷ left
    → (before : List Item) × (before ++ now ≡ items_of s) → (before : List Item) × (before ++ left ≡ items_of s)
walk_step s now left x is walked = (
  walked.0 ++ x ∷ [],
  append_assoc walked.0 (x ∷ []) left ∙ ap (λ (l : List Item). walked.0 ++ l) (sym is) ∙ walked.1,
)
