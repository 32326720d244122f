-- The pieces of a state: together they are the state, none is empty, and none could have taken the next item.
use Rattle.std.proofs.Common.{◌≡◌, ℕ, ◌<◌, Bool, true, false, List, [], ◌∷◌, ◌++◌, length, refl, sym, ap, subst, ◌∙◌}
use Rattle.std.proofs.Common.{inl, inr, arith, append_assoc, nat_lt, if◌then◌else◌, Contains, ◌↔◌, flat_map}
use Rattle.std.proofs.{lemmas.Grind.flat_map-append, lemmas.List.append-nil}
use Rattle.std.proofs.lemmas.List.Elements.{Contains-append_left, Contains-append_right, Contains-append_cases}
use Rattle.std.specs.List.{AllByRecursion}
use Rattle.stroke_lattice.specs.{State.State, State.HasStroke, State.HasTombstone, State.nothing, State.IsJoinOf}
use Rattle.stroke_lattice.specs.{Filling.AreInOrder, Pieces.stroke_items, Pieces.tombstone_items}
use Rattle.stroke_lattice.specs.Pieces.{Item, Placed, Withdrawn, items_of, frame_length, with_item, fits, strokes_of}
use Rattle.stroke_lattice.specs.Pieces.{tombstones_of, if_any, filled, pieces_of, IsFullBefore, AreFull}
use Rattle.grid_core.proofs.Common.{not_in_empty, in_map, map_has}
use Rattle.stroke_lattice.proofs.Joins.{HasItem, SomeHasItem, none_has_item, first_or_others, join_from_items}
use Rattle.stroke_lattice.proofs.Items.{strokes_walk, tombstones_walk, items_of_longer, items_of_nothing}
use Rattle.stroke_lattice.proofs.Items.{items_in_order, frame_length_of_nothing, before_next}
use Rattle.std.proofs.lemmas.Bool.{leb-false}
use Rattle.stroke_lattice.proofs.Adding.{piece_of_some, piece_without_items, items_of_one, order_alone, order_of_longer}
use Rattle.stroke_lattice.proofs.Adding.{order_of_one}

-- ---- the items stay, in their order

items_if_any : (items : List Item) (piece : State) → items_of piece ≡ items
    → flat_map items_of (if nat_lt 0 (length items) then piece ∷ [] else []) ≡ items
items_if_any [] piece is = refl
items_if_any (x ∷ items) piece is = ap (flat_map items_of) (piece_of_some x items piece) ∙ append-nil (items_of piece)
    ∙ is

pub items_of_filled : (max : ℕ) (rest : List Item) (piece : State) → AreInOrder (items_of piece ++ rest)
    → flat_map items_of (filled max piece rest) ≡ items_of piece ++ rest
items_of_filled max [] piece order = items_if_any (items_of piece) piece refl ∙ sym (append-nil (items_of piece))
items_of_filled max (item ∷ rest) piece order =
    elim (fits max piece item) as (λ b. flat_map items_of (if b then filled max (with_item piece item) rest
    else if_any piece ++ filled max (with_item nothing item) rest) ≡ items_of piece ++ item ∷ rest) [
      | true ↦
          items_of_filled max rest (with_item piece item) (order_of_longer piece item rest order)
          ∙ ap (λ (items : List Item). items ++ rest)
          (items_of_longer piece item (before_next (items_of piece) item rest order))
          ∙ append_assoc (items_of piece) (item ∷ []) rest
      | false ↦
          flat_map-append items_of (if_any piece) (filled max (with_item nothing item) rest)
          ∙ ap (λ (items : List Item). items ++ flat_map items_of (filled max (with_item nothing item) rest))
          (items_if_any (items_of piece) piece refl)
          ∙ ap (λ (items : List Item). items_of piece ++ items)
          (items_of_filled max rest (with_item nothing item) (order_of_one piece item rest order)
          ∙ ap (λ (items : List Item). items ++ rest) (items_of_one item))
    ]

-- the items of the pieces, one after another, are those of the state
pub items_of_pieces : (max : ℕ) (s : State) → flat_map items_of (pieces_of max s) ≡ items_of s
items_of_pieces max s =
    items_of_filled max (items_of s) nothing
    (order_alone (items_of s) (items_in_order s))
    ∙ ap (λ (items : List Item). items ++ items_of s) items_of_nothing

-- ---- the join of the pieces

-- a state has the strokes and the tombstones that are its items
is_item : (s : State) (item : Item) → HasItem s item ↔ Contains (items_of s) item
is_item s (Placed tag seed) = (
  λ has. Contains-append_left (stroke_items s) (tombstone_items s) (Placed tag seed)
      (map_has (λ e. Placed e.0 e.1) (strokes_of s) (tag, seed) (((strokes_walk s).each tag seed).1 has)),
  λ has. elim (Contains-append_cases (stroke_items s) (tombstone_items s) (Placed tag seed) has) [
    | inl stroke ↦
        let (e, member, same) = in_map (λ e. Placed e.0 e.1) (strokes_of s) (Placed tag seed) stroke in
        let found : HasStroke s e.0 e.1 = ((strokes_walk s).each e.0 e.1).0 member in
        cc
    | inr other ↦
        let (t, member, same) = in_map (λ t. Withdrawn t) (tombstones_of s) (Placed tag seed) other in
        absurd cc
  ],
)
is_item s (Withdrawn tag) = (
  λ has. Contains-append_right (stroke_items s) (tombstone_items s) (Withdrawn tag)
      (map_has (λ t. Withdrawn t) (tombstones_of s) tag (((tombstones_walk s).each tag).1 has)),
  λ has. elim (Contains-append_cases (stroke_items s) (tombstone_items s) (Withdrawn tag) has) [
    | inl other ↦
        let (e, member, same) = in_map (λ e. Placed e.0 e.1) (strokes_of s) (Withdrawn tag) other in
        absurd cc
    | inr tombstone ↦
        let (t, member, same) = in_map (λ t. Withdrawn t) (tombstones_of s) (Withdrawn tag) tombstone in
        let found : HasTombstone s t = ((tombstones_walk s).each t).0 member in
        cc
  ],
)

some_item : (pieces : List State) (item : Item) → SomeHasItem pieces item ↔ Contains (flat_map items_of pieces) item
some_item [] item = (λ has. absurd (none_has_item item has), λ has. absurd (not_in_empty item has))
some_item (s ∷ pieces) item = (
  λ has. elim ((first_or_others s pieces item).0 has) [
    | inl this ↦ Contains-append_left (items_of s) (flat_map items_of pieces) item ((is_item s item).0 this)
    | inr that ↦ Contains-append_right (items_of s) (flat_map items_of pieces) item ((some_item pieces item).0 that)
  ],
  λ has. (first_or_others s pieces item).1
      (elim (Contains-append_cases (items_of s) (flat_map items_of pieces) item has) [
        | inl this ↦ inl ((is_item s item).1 this)
        | inr that ↦ inr ((some_item pieces item).1 that)
      ]),
)

pub join_of_pieces : (max : ℕ) (s : State) → IsJoinOf (pieces_of max s) s
join_of_pieces max s =
    let items = items_of_pieces max s in
    join_from_items (pieces_of max s) s (λ item. (
      λ has. (some_item (pieces_of max s) item).1
          (subst (λ (l : List Item). Contains l item) (sym items) ((is_item s item).0 has)),
      λ some. (is_item s item).1
          (subst (λ (l : List Item). Contains l item) items ((some_item (pieces_of max s) item).0 some)),
    ))

-- ---- no piece is empty

-- none of the states is empty
abbrev NoneEmpty : List State → Type 0
NoneEmpty states = AllByRecursion (λ s. s ≡ nothing → ⊥) states

none_empty_append : (xs ys : List State) → NoneEmpty xs → NoneEmpty ys → NoneEmpty (xs ++ ys)
none_empty_append [] ys p q = q
none_empty_append (x ∷ xs) ys p q = (p.0, none_empty_append xs ys p.1 q)

not_empty : (items : List Item) (piece : State) → items_of piece ≡ items
    → NoneEmpty (if nat_lt 0 (length items) then piece ∷ [] else [])
not_empty [] piece is = tt
not_empty (x ∷ items) piece is = subst NoneEmpty (sym (piece_of_some x items piece))
    (λ e. let none : x ∷ items ≡ [] = sym is ∙ ap items_of e ∙ items_of_nothing in cc, tt)

none_empty : (max : ℕ) (rest : List Item) (piece : State) → NoneEmpty (filled max piece rest)
none_empty max [] piece = not_empty (items_of piece) piece refl
none_empty max (item ∷ rest) piece =
    elim (fits max piece item) as (λ b. NoneEmpty (if b then filled max (with_item piece item) rest
    else if_any piece ++ filled max (with_item nothing item) rest)) [
      | true ↦ none_empty max rest (with_item piece item)
      | false ↦ none_empty_append (if_any piece) (filled max (with_item nothing item) rest)
          (not_empty (items_of piece) piece refl) (none_empty max rest (with_item nothing item))
    ]

pub no_empty_piece : (max : ℕ) (s : State) → AllByRecursion (λ piece. piece ≡ nothing → ⊥) (pieces_of max s)
no_empty_piece max s = none_empty max (items_of s) nothing

pub no_pieces_of_nothing : (max : ℕ) → pieces_of max nothing ≡ []
no_pieces_of_nothing max =
    ap (filled max nothing) items_of_nothing ∙ piece_without_items nothing (omega (arith, frame_length_of_nothing))

-- ---- each piece but the last is full

first_item : (x y : Item) (xs ys : List Item) → x ∷ xs ≡ y ∷ ys → x ≡ y
first_item x y xs ys is = cc

full_before : (max : ℕ) (piece : State) (item : Item) (rest : List Item) (pieces : List State)
    → flat_map items_of pieces ≡ item ∷ rest → max < frame_length (with_item piece item)
    → IsFullBefore max piece pieces
full_before max piece item rest [] items full = tt
full_before max piece item rest (next ∷ pieces) items full = λ x others is.
    let same : x ≡ item = first_item x item (others ++ flat_map items_of pieces) rest
    (ap (λ (l : List Item). l ++ flat_map items_of pieces) (sym is) ∙ items) in
    subst (λ (q : Item). max < frame_length (with_item piece q)) (sym same) full

full_if_any : (max : ℕ) (piece : State) (b : Bool) (pieces : List State) → IsFullBefore max piece pieces
    → AreFull max pieces → AreFull max ((if b then piece ∷ [] else []) ++ pieces)
full_if_any max piece true pieces before full = (before, full)
full_if_any max piece false pieces before full = full

full_last : (max : ℕ) (piece : State) (b : Bool) → AreFull max (if b then piece ∷ [] else [])
full_last max piece true = (tt, tt)
full_last max piece false = tt

full_filled : (max : ℕ) (rest : List Item) (piece : State) → AreInOrder (items_of piece ++ rest)
    → AreFull max (filled max piece rest)
full_filled max [] piece order = full_last max piece (nat_lt 0 (length (items_of piece)))
full_filled max (item ∷ rest) piece order =
    elim (fits max piece item) as (λ b. fits max piece item ≡ b
    → AreFull max (if b then filled max (with_item piece item) rest
    else if_any piece ++ filled max (with_item nothing item) rest)) [
      | true ↦ λ e. full_filled max rest (with_item piece item) (order_of_longer piece item rest order)
      | false ↦ λ e.
          let next = filled max (with_item nothing item) rest in
          let order_next = order_of_one piece item rest order in
          let items : flat_map items_of next ≡ item ∷ rest =
          items_of_filled max rest (with_item nothing item) order_next
          ∙ ap (λ (l : List Item). l ++ rest) (items_of_one item) in
          full_if_any max piece (nat_lt 0 (length (items_of piece))) next
          (full_before max piece item rest next items (leb-false (frame_length (with_item piece item)) max e))
          (full_filled max rest (with_item nothing item) order_next)
    ] refl

pub full_pieces : (max : ℕ) (s : State) → AreFull max (pieces_of max s)
full_pieces max s = full_filled max (items_of s) nothing (order_alone (items_of s) (items_in_order s))
