-- The join of two states, and that of a list of states, by their contents.
use Rattle.std.proofs.Common.{◌≡◌, ℕ, Bool, true, false, ◌||◌, cond, List, [], ◌∷◌, ◌++◌, Option, Some, None, refl, sym}
use Rattle.std.proofs.Common.{ap, ◌∙◌, inl, inr, ◌⊎◌, ◌↔◌, IsTrue, nat_cmp}
use Rattle.std.specs.{FinMap.find, Option.option_or, Ordering.eq_by_cmp, Cmp.nat_cmp_total, List.AllByRecursion}
use Rattle.grid_core.proofs.Common.{either, or_left, or_right}
use Rattle.stroke_core.specs.Seed.{Seed}
use Rattle.stroke_lattice.specs.State.{State, HasStroke, HasTombstone, IsBelow, IsJoin, AreCompatible, nothing}
use Rattle.stroke_lattice.specs.State.{SomeHasStroke, SomeHasTombstone, IsJoinOf, IsLeastAbove}
use Rattle.stroke_lattice.specs.Pieces.{Item, Placed, Withdrawn}
use Rattle.stroke_lattice.proofs.Decide.{same_seed}
use Rattle.std.specs.FinMap as map
use Rattle.std.specs.FinSet as set

-- ---- states by their contents

pub one_seed : (a b : Seed) → Some a ≡ Some b → a ≡ b
one_seed a b e = cc

pub no_seed : (a : Seed) → None ≡ Some a → ⊥
no_seed a e = cc

same_answer : (x y : Option Seed) → ((s : Seed) → x ≡ Some s → y ≡ Some s) → ((s : Seed) → y ≡ Some s → x ≡ Some s)
    → x ≡ y
same_answer None None f g = refl
same_answer None (Some s) f g = g s refl
same_answer (Some s) y f g = sym (f s refl)

same_bit : (a b : Bool) → (IsTrue a → IsTrue b) → (IsTrue b → IsTrue a) → a ≡ b
same_bit true b f g = sym (f refl)
same_bit false true f g = g refl
same_bit false false f g = refl

pub same_strokes : (a b : State) → ((tag : ℕ) (seed : Seed) → HasStroke a tag seed → HasStroke b tag seed)
    → ((tag : ℕ) (seed : Seed) → HasStroke b tag seed → HasStroke a tag seed) → a.strokes ≡ b.strokes
same_strokes a b f g = map.same_map nat_cmp_total map.nat_cmp-IsAntisymmetric a.strokes b.strokes
    (λ tag. same_answer (map.get a.strokes tag) (map.get b.strokes tag) (f tag) (g tag))

pub same_tombstones : (a b : State) → ((tag : ℕ) → HasTombstone a tag → HasTombstone b tag)
    → ((tag : ℕ) → HasTombstone b tag → HasTombstone a tag) → a.tombstones ≡ b.tombstones
same_tombstones a b f g = set.same_set nat_cmp_total map.nat_cmp-IsAntisymmetric a.tombstones b.tombstones
    (λ tag. same_bit (set.contains a.tombstones tag) (set.contains b.tombstones tag) (f tag) (g tag))

pub from_parts : (a b : State) → a.strokes ≡ b.strokes → a.tombstones ≡ b.tombstones → a ≡ b
from_parts a b strokes tombstones = λ i. record { strokes = strokes i; tombstones = tombstones i }

-- states below each other are equal
pub same_state : (a b : State) → IsBelow a b → IsBelow b a → a ≡ b
same_state a b f g = from_parts a b (same_strokes a b f.strokes g.strokes)
    (same_tombstones a b f.tombstones g.tombstones)

pub below_itself : (a : State) → IsBelow a a
below_itself a = record { strokes = λ tag seed has. has; tombstones = λ tag has. has }

pub below_through : (a b c : State) → IsBelow a b → IsBelow b c → IsBelow a c
below_through a b c f g = record {
  strokes = λ tag seed has. g.strokes tag seed (f.strokes tag seed has);
  tombstones = λ tag has. g.tombstones tag (f.tombstones tag has);
}

-- ---- two states that do not clash

pub agree : (a b : State) → AreCompatible a b → (tag : ℕ) (x y : Seed) → HasStroke a tag x → HasStroke b tag y → x ≡ y
agree a b compatible tag x y has_x has_y = same_seed x y
    (λ differ. compatible tag (record { seed = x; other = y; in_first = has_x; in_second = has_y; differ = differ }))

pub compatible_below : (a b bound : State) → IsBelow a bound → IsBelow b bound → AreCompatible a b
compatible_below a b bound f g tag clash =
    clash.differ (one_seed clash.seed clash.other (sym (f.strokes tag clash.seed clash.in_first)
    ∙ g.strokes tag clash.other clash.in_second))

-- the state holds what stands in one of the two, and nothing else
pub record IsUnion (a b join : State) : Type 0 where
  pub above_first : IsBelow a join
  pub above_second : IsBelow b join
  pub strokes : (tag : ℕ) (seed : Seed) → HasStroke join tag seed → HasStroke a tag seed ⊎ HasStroke b tag seed
  pub tombstones : (tag : ℕ) → HasTombstone join tag → HasTombstone a tag ⊎ HasTombstone b tag

-- ---- states by their items

-- the stroke or the tombstone stands in the state
abbrev pub HasItem : State → Item → Type 0
HasItem s (Placed tag seed) = HasStroke s tag seed
HasItem s (Withdrawn tag) = HasTombstone s tag

-- it stands in one of the states
abbrev pub SomeHasItem : List State → Item → Type 0
SomeHasItem states (Placed tag seed) = SomeHasStroke states tag seed
SomeHasItem states (Withdrawn tag) = SomeHasTombstone states tag

pub none_has_item : (item : Item) → SomeHasItem [] item → ⊥
none_has_item (Placed tag seed) has = has
none_has_item (Withdrawn tag) has = has

pub first_or_others : (s : State) (states : List State) (item : Item)
    → SomeHasItem (s ∷ states) item ↔ (HasItem s item ⊎ SomeHasItem states item)
first_or_others s states (Placed tag seed) = (λ has. has, λ has. has)
first_or_others s states (Withdrawn tag) = (λ has. has, λ has. has)

below_from_items : (a b : State) → ((item : Item) → HasItem a item → HasItem b item) → IsBelow a b
below_from_items a b each = record {
  strokes = λ tag seed. each (Placed tag seed);
  tombstones = λ tag. each (Withdrawn tag);
}

item_above : (a b : State) → IsBelow a b → (item : Item) → HasItem a item → HasItem b item
item_above a b below (Placed tag seed) = below.strokes tag seed
item_above a b below (Withdrawn tag) = below.tombstones tag

item_of_either : (a b join : State) → IsUnion a b join → (item : Item) → HasItem join item
    → HasItem a item ⊎ HasItem b item
item_of_either a b join union (Placed tag seed) = union.strokes tag seed
item_of_either a b join union (Withdrawn tag) = union.tombstones tag

pub join_from_items : (states : List State) (join : State)
    → ((item : Item) → HasItem join item ↔ SomeHasItem states item) → IsJoinOf states join
join_from_items states join each = record {
  strokes = λ tag seed. each (Placed tag seed);
  tombstones = λ tag. each (Withdrawn tag);
}

item_of_some : (states : List State) (join : State) → IsJoinOf states join → (item : Item)
    → HasItem join item ↔ SomeHasItem states item
item_of_some states join is_join (Placed tag seed) = is_join.strokes tag seed
item_of_some states join is_join (Withdrawn tag) = is_join.tombstones tag

-- ---- a union is a join

pub union_is_join : (a b join : State) → IsUnion a b join → IsJoin a b join
union_is_join a b join union = record {
  first = union.above_first;
  second = union.above_second;
  least = λ other f g. below_from_items join other (λ item has. elim (item_of_either a b join union item has)
      [ inl x ↦ item_above a other f item x | inr y ↦ item_above b other g item y ]);
}

choice : (b : Bool) (x : Seed) (o p : Option Seed) → cond b (Some x) (option_or o p) ≡ option_or (cond b (Some x) o) p
choice true x o p = refl
choice false x o p = refl

find_append : (es fs : List (ℕ × Seed)) (tag : ℕ) → find nat_cmp tag (es ++ fs) ≡ option_or (find nat_cmp tag es)
    (find nat_cmp tag fs)
find_append [] fs tag = refl
find_append (e ∷ es) fs tag =
    ap (cond (eq_by_cmp nat_cmp tag e.0) (Some e.1)) (find_append es fs tag)
    ∙ choice (eq_by_cmp nat_cmp tag e.0) e.1 (find nat_cmp tag es) (find nat_cmp tag fs)

-- what stands in one of the states; where they clash, the first has its way
pub both : State → State → State
both a b = record {
  strokes = map.from_entries (map.entries a.strokes ++ map.entries b.strokes);
  tombstones = set.union a.tombstones b.tombstones;
}

get_both : (a b : State) (tag : ℕ) → map.get (both a b).strokes tag ≡ option_or (map.get a.strokes tag)
    (map.get b.strokes tag)
unfolding both
get_both a b tag =
    map.get-from_entries nat_cmp_total (map.entries a.strokes ++ map.entries b.strokes) tag
    ∙ find_append (map.entries a.strokes) (map.entries b.strokes) tag
    ∙ ap (λ (o : Option Seed). option_or o (find nat_cmp tag (map.entries b.strokes)))
    (sym (map.get-entries a.strokes tag))
    ∙ ap (option_or (map.get a.strokes tag)) (sym (map.get-entries b.strokes tag))

contains_both : (a b : State) (tag : ℕ)
    → set.contains (both a b).tombstones tag ≡ (set.contains a.tombstones tag || set.contains b.tombstones tag)
unfolding both
contains_both a b tag = set.contains-union nat_cmp_total a.tombstones b.tombstones tag

either_seed : (o p : Option Seed) (seed : Seed) → option_or o p ≡ Some seed → (o ≡ Some seed) ⊎ (p ≡ Some seed)
either_seed None p seed e = inr e
either_seed (Some x) p seed e = inl e

first_seed : (o p : Option Seed) (seed : Seed) → o ≡ Some seed → option_or o p ≡ Some seed
first_seed None p seed e = absurd (no_seed seed e)
first_seed (Some x) p seed e = e

second_seed : (o p : Option Seed) (seed : Seed) → ((x : Seed) → o ≡ Some x → x ≡ seed) → p ≡ Some seed
    → option_or o p ≡ Some seed
second_seed None p seed same e = e
second_seed (Some x) p seed same e = ap (λ (s : Seed). Some s) (same x refl)

pub both_is_union : (a b : State) → AreCompatible a b → IsUnion a b (both a b)
both_is_union a b compatible = record {
  above_first = record {
    strokes = λ tag seed has. get_both a b tag ∙ first_seed (map.get a.strokes tag) (map.get b.strokes tag) seed has;
    tombstones = λ tag has. contains_both a b tag
        ∙ or_left (set.contains a.tombstones tag) (set.contains b.tombstones tag) has;
  };
  above_second = record {
    strokes = λ tag seed has. get_both a b tag ∙ second_seed (map.get a.strokes tag) (map.get b.strokes tag) seed
        (λ x has_x. agree a b compatible tag x seed has_x has) has;
    tombstones = λ tag has. contains_both a b tag
        ∙ or_right (set.contains a.tombstones tag) (set.contains b.tombstones tag) has;
  };
  strokes = λ tag seed has. either_seed (map.get a.strokes tag) (map.get b.strokes tag) seed (sym (get_both a b tag)
      ∙ has);
  tombstones = λ tag has. either (set.contains a.tombstones tag) (set.contains b.tombstones tag)
      (sym (contains_both a b tag) ∙ has);
}

-- ---- joins

pub compatible_join : (a b join : State) → IsJoin a b join → AreCompatible a b
compatible_join a b join j = compatible_below a b join j.first j.second

pub one_join : (a b j k : State) → IsJoin a b j → IsJoin a b k → j ≡ k
one_join a b j k is_j is_k = same_state j k (is_j.least k is_k.first is_k.second) (is_k.least j is_j.first is_j.second)

-- a join holds what stands in one of the two, and nothing else
pub join_is_union : (a b join : State) → IsJoin a b join → IsUnion a b join
join_is_union a b join j =
    let union = both_is_union a b (compatible_join a b join j) in
    let below = j.least (both a b) union.above_first union.above_second in
    record {
      above_first = j.first;
      above_second = j.second;
      strokes = λ tag seed has. union.strokes tag seed (below.strokes tag seed has);
      tombstones = λ tag has. union.tombstones tag (below.tombstones tag has);
    }

-- ---- the join of a list

each_below : (states : List State) (bound : State) → ((item : Item) → SomeHasItem states item → HasItem bound item)
    → AllByRecursion (λ s. IsBelow s bound) states
each_below [] bound each = tt
each_below (s ∷ states) bound each = (
  below_from_items s bound (λ item has. each item ((first_or_others s states item).1 (inl has))),
  each_below states bound (λ item has. each item ((first_or_others s states item).1 (inr has))),
)

some_above : (states : List State) (other : State) → AllByRecursion (λ s. IsBelow s other) states → (item : Item)
    → SomeHasItem states item → HasItem other item
some_above [] other below item has = absurd (none_has_item item has)
some_above (s ∷ states) other below item has = elim ((first_or_others s states item).0 has)
    [ inl here ↦ item_above s other below.0 item here | inr there ↦ some_above states other below.1 item there ]

pub list_join_is_least : (states : List State) (join : State) → IsJoinOf states join → IsLeastAbove states join
list_join_is_least states join is_join =
    let items = item_of_some states join is_join in
    record {
      above = each_below states join (λ item. (items item).1);
      least = λ other below. below_from_items join other
          (λ item has. some_above states other below item ((items item).0 has));
    }

joins_below : (states : List State) (j k : State) → IsJoinOf states j → IsJoinOf states k → IsBelow j k
joins_below states j k is_j is_k = below_from_items j k
    (λ item has. (item_of_some states k is_k item).1 ((item_of_some states j is_j item).0 has))

pub one_list_join : (states : List State) (j k : State) → IsJoinOf states j → IsJoinOf states k → j ≡ k
one_list_join states j k is_j is_k = same_state j k (joins_below states j k is_j is_k)
    (joins_below states k j is_k is_j)

-- ---- a list with one state more

in_longer : (states : List State) (delta : State) (item : Item) → SomeHasItem states item ⊎ HasItem delta item
    → SomeHasItem (states ++ delta ∷ []) item
in_longer [] delta item (inl none) = absurd (none_has_item item none)
in_longer [] delta item (inr here) = (first_or_others delta [] item).1 (inl here)
in_longer (s ∷ states) delta item has = (first_or_others s (states ++ delta ∷ []) item).1 (elim has [
  | inl some ↦ elim ((first_or_others s states item).0 some)
      [ inl here ↦ inl here | inr there ↦ inr (in_longer states delta item (inl there)) ]
  | inr last ↦ inr (in_longer states delta item (inr last))
])

of_longer : (states : List State) (delta : State) (item : Item) → SomeHasItem (states ++ delta ∷ []) item
    → SomeHasItem states item ⊎ HasItem delta item
of_longer [] delta item has = elim ((first_or_others delta [] item).0 has)
    [ inl here ↦ inr here | inr none ↦ absurd (none_has_item item none) ]
of_longer (s ∷ states) delta item has = elim ((first_or_others s (states ++ delta ∷ []) item).0 has) [
  | inl here ↦ inl ((first_or_others s states item).1 (inl here))
  | inr there ↦ elim (of_longer states delta item there)
      [ inl x ↦ inl ((first_or_others s states item).1 (inr x)) | inr y ↦ inr y ]
]

pub longer_from_join : (states : List State) (s delta join : State) → IsJoinOf states s → IsJoin s delta join
    → IsJoinOf (states ++ delta ∷ []) join
longer_from_join states s delta join is_s is_join =
    let union = join_is_union s delta join is_join in
    let items = item_of_some states s is_s in
    join_from_items (states ++ delta ∷ []) join (λ item. (
      λ has. in_longer states delta item (elim (item_of_either s delta join union item has)
          [ inl x ↦ inl ((items item).0 x) | inr y ↦ inr y ]),
      λ some. elim (of_longer states delta item some) [
        | inl x ↦ item_above s join union.above_first item ((items item).1 x)
        | inr y ↦ item_above delta join union.above_second item y
      ],
    ))

pub join_from_longer : (states : List State) (s delta join : State) → IsJoinOf states s
    → IsJoinOf (states ++ delta ∷ []) join → IsJoin s delta join
join_from_longer states s delta join is_s is_join =
    let items = item_of_some states s is_s in
    let whole = item_of_some (states ++ delta ∷ []) join is_join in
    let parts : (item : Item) → HasItem join item → HasItem s item ⊎ HasItem delta item =
    λ item has. elim (of_longer states delta item ((whole item).0 has))
    [ inl x ↦ inl ((items item).1 x) | inr y ↦ inr y ] in
    union_is_join s delta join (record {
      above_first = below_from_items s join
          (λ item has. (whole item).1 (in_longer states delta item (inl ((items item).0 has))));
      above_second = below_from_items delta join (λ item has. (whole item).1 (in_longer states delta item (inr has)));
      strokes = λ tag seed. parts (Placed tag seed);
      tombstones = λ tag. parts (Withdrawn tag);
    })

-- ---- no state at all

pub nothing_has_no_stroke : (tag : ℕ) (seed : Seed) → HasStroke nothing tag seed → ⊥
nothing_has_no_stroke tag seed has = no_seed seed (sym (map.get-empty nat_cmp tag) ∙ has)

pub nothing_has_no_tombstone : (tag : ℕ) → HasTombstone nothing tag → ⊥
nothing_has_no_tombstone tag has = let no : false ≡ true = sym (set.contains-empty nat_cmp tag) ∙ has in cc

pub nothing_is_join : IsJoinOf [] nothing
nothing_is_join = record {
  strokes = λ tag seed. (λ has. nothing_has_no_stroke tag seed has, λ none. absurd none);
  tombstones = λ tag. (λ has. nothing_has_no_tombstone tag has, λ none. absurd none);
}
