-- An item is added to pieces that are being filled.
use Rattle.std.proofs.Common.{◌≡◌, ℕ, ◌+◌, ◌<◌, ◌≤◌, Bool, true, false, List, [], ◌∷◌, ◌++◌, length, refl, sym, ap}
use Rattle.std.proofs.Common.{subst, ◌∙◌, arith, append_assoc, nat_le, nat_lt, if◌then◌else◌, sum_by}
use Rattle.std.proofs.lemmas.{List.Sums.sum_by-append}
use Rattle.std.proofs.lemmas.Bool.{cond-true, cond-false, lt-ltb, le-ltb, leb-true, leb-false}
use Rattle.stroke_core.specs.Seed.{Shape, Runs, Disc, byte_len_of}
use Rattle.stroke_lattice.specs.declared.split.TheConstants.{HEAD_BYTES}
use Rattle.stroke_lattice.specs.State.{State, nothing}
use Rattle.stroke_lattice.specs.Pieces.{Item, Placed, Withdrawn, items_of, item_length, frame_length, with_item, fits}
use Rattle.stroke_lattice.specs.Pieces.{if_any, filled, AllFit}
use Rattle.stroke_lattice.specs.Filling.{Filling, turned, with_room, put_in, added, AllBefore, AreInOrder, IsFilling}
use Rattle.stroke_lattice.proofs.Items.{items_of_longer, frame_length_of_longer, items_of_nothing}
use Rattle.stroke_lattice.proofs.Items.{frame_length_of_nothing, items_in_order, before_next, order_behind}
use Rattle.stroke_lattice.proofs.Items.{order_joined}

-- ---- a list of items, and what it takes

some_item : (items : List Item) → 0 < sum_by item_length items → 0 < length items
some_item [] some = some
some_item (item ∷ items) some = omega arith

shape_takes_bytes : (shape : Shape) → 0 < byte_len_of shape
shape_takes_bytes (Runs runs) = omega arith
shape_takes_bytes (Disc x y r) = omega arith

pub item_takes_bytes : (item : Item) → 0 < item_length item
item_takes_bytes (Placed tag seed) = shape_takes_bytes seed.shape
item_takes_bytes (Withdrawn tag) = omega arith

bytes_of_items : (items : List Item) → 0 < length items → 0 < sum_by item_length items
bytes_of_items [] some = absurd (omega arith)
bytes_of_items (item ∷ items) some = omega (arith, item_takes_bytes item, sum_by-append item_length (item ∷ []) items)

no_item : (items : List Item) → sum_by item_length items ≤ 0 → length items ≤ 0
no_item [] none = none
no_item (item ∷ items) none =
    let some : 0 < sum_by item_length (item ∷ items) = bytes_of_items (item ∷ items) (omega arith) in
    absurd (omega arith)

pub piece_of_some : (item : Item) (items : List Item) (piece : State)
    → (if nat_lt 0 (length (item ∷ items)) then piece ∷ [] else []) ≡ piece ∷ []
piece_of_some item items piece =
    cond-true _ (piece ∷ []) [] (lt-ltb 0 (length (item ∷ items)) (omega arith))

-- a piece with a longer frame than the shortest has something in it
pub piece_with_items : (piece : State) → HEAD_BYTES < frame_length piece → if_any piece ≡ piece ∷ []
piece_with_items piece longer =
    cond-true _ (piece ∷ []) [] (lt-ltb 0 (length (items_of piece)) (some_item (items_of piece) (omega arith)))

pub piece_without_items : (piece : State) → frame_length piece ≤ HEAD_BYTES → if_any piece ≡ []
piece_without_items piece short =
    cond-false _ (piece ∷ []) [] (le-ltb 0 (length (items_of piece)) (no_item (items_of piece) (omega arith)))

-- ---- room for an item

fits_in_either : (max : ℕ) (f : Filling) (bytes : ℕ) (b : Bool) → nat_le (frame_length f.last + bytes) max ≡ b
    → HEAD_BYTES + bytes ≤ max → frame_length (if b then f else turned f).last + bytes ≤ max
fits_in_either max f bytes true e small = leb-true (frame_length f.last + bytes) max e
fits_in_either max f bytes false e small = omega (arith, frame_length_of_nothing)

-- where room was made there is room
pub room_is_there : (max : ℕ) (f g : Filling) (bytes : ℕ) → g ≡ with_room max f bytes → HEAD_BYTES + bytes ≤ max
    → frame_length g.last + bytes ≤ max
room_is_there max f g bytes is small = subst (λ (h : Filling). frame_length h.last + bytes ≤ max) (sym is)
    (fits_in_either max f bytes (nat_le (frame_length f.last + bytes) max) refl small)

before_in_either : (f : Filling) (item : Item) (b : Bool) → AllBefore (items_of f.last) item
    → AllBefore (items_of (if b then f else turned f).last) item
before_in_either f item true before = before
before_in_either f item false before = subst (λ (items : List Item). AllBefore items item) (sym items_of_nothing) tt

-- where room was made the item goes after all items of the last piece
pub before_in_room : (max : ℕ) (f g : Filling) (bytes : ℕ) (item : Item) → g ≡ with_room max f bytes
    → AllBefore (items_of f.last) item → AllBefore (items_of g.last) item
before_in_room max f g bytes item is before = subst (λ (h : Filling). AllBefore (items_of h.last) item) (sym is)
    (before_in_either f item (nat_le (frame_length f.last + bytes) max) before)

either_way : (f : Filling) (item : Item) (b : Bool)
    → put_in (if b then f else turned f) item ≡ (if b then put_in f item else put_in (turned f) item)
either_way f item true = refl
either_way f item false = refl

-- to make room and then to put the item in is to add it
pub added_in_room : (max : ℕ) (f g : Filling) (item : Item) → g ≡ with_room max f (item_length item)
    → AllBefore (items_of f.last) item → put_in g item ≡ added max f item
added_in_room max f g item is before =
    ap (λ (h : Filling). put_in h item) is
    ∙ either_way f item (nat_le (frame_length f.last + item_length item) max)
    ∙ ap (λ (n : ℕ). if nat_le n max then put_in f item else put_in (turned f) item)
    (sym (frame_length_of_longer f.last item before))

-- ---- the order of the items behind a piece

pub order_alone : (items : List Item) → AreInOrder items → AreInOrder (items_of nothing ++ items)
order_alone items order = subst (λ (l : List Item). AreInOrder (l ++ items)) (sym items_of_nothing) order

pub order_of_longer : (piece : State) (item : Item) (rest : List Item) → AreInOrder (items_of piece ++ item ∷ rest)
    → AreInOrder (items_of (with_item piece item) ++ rest)
order_of_longer piece item rest order = subst (λ (items : List Item). AreInOrder (items ++ rest))
    (sym (items_of_longer piece item (before_next (items_of piece) item rest order)))
    (order_joined (items_of piece) item rest order)

-- ---- one item more

pub all_fit_push : (max : ℕ) (pieces : List State) (piece : State) → AllFit max pieces → frame_length piece ≤ max
    → AllFit max (pieces ++ piece ∷ [])
all_fit_push max [] piece all one = (one, tt)
all_fit_push max (p ∷ pieces) piece all one = (all.0, all_fit_push max pieces piece all.1 one)

pub items_of_one : (item : Item) → items_of (with_item nothing item) ≡ item ∷ []
items_of_one item =
    items_of_longer nothing item (subst (λ (items : List Item). AllBefore items item) (sym items_of_nothing) tt)
    ∙ ap (λ (items : List Item). items ++ item ∷ []) items_of_nothing

pub order_of_one : (piece : State) (item : Item) (rest : List Item) → AreInOrder (items_of piece ++ item ∷ rest)
    → AreInOrder (items_of (with_item nothing item) ++ rest)
order_of_one piece item rest order = subst (λ (items : List Item). AreInOrder (items ++ rest)) (sym (items_of_one item))
    (order_behind (items_of piece) (item ∷ rest) order)

pub frame_length_of_one : (item : Item) → frame_length (with_item nothing item) ≡ HEAD_BYTES + item_length item
frame_length_of_one item =
    let one : frame_length (with_item nothing item) ≡ HEAD_BYTES + (0 + item_length item) =
    ap (λ (items : List Item). HEAD_BYTES + sum_by item_length items) (items_of_one item) in
    omega arith

next_item : (max : ℕ) (s : State) (f : Filling) (item : Item) (rest : List Item) (b : Bool)
    → fits max f.last item ≡ b → IsFilling max s f (item ∷ rest) → HEAD_BYTES + item_length item ≤ max
    → IsFilling max s (if b then put_in f item else put_in (turned f) item) rest
next_item max s f item rest true e now small = record {
  whole = ap (λ (b : Bool). f.full ++ (if b then filled max (with_item f.last item) rest
      else if_any f.last ++ filled max (with_item nothing item) rest)) (sym e) ∙ now.whole;
  full_fit = now.full_fit;
  last_fits = leb-true (frame_length (with_item f.last item)) max e;
  order = order_of_longer f.last item rest now.order;
}
next_item max s f item rest false e now small =
    let before = before_next (items_of f.last) item rest now.order in
    let longer : max < frame_length (with_item f.last item) = leb-false (frame_length (with_item f.last item)) max e in
    let some : if_any f.last ≡ f.last ∷ [] = piece_with_items f.last
    (omega (arith, frame_length_of_longer f.last item before)) in
    let one : frame_length (with_item nothing item) ≡ HEAD_BYTES + item_length item = frame_length_of_one item in
    record {
      whole = append_assoc f.full (f.last ∷ []) (filled max (with_item nothing item) rest)
          ∙ ap (λ (pieces : List State). f.full ++ (pieces ++ filled max (with_item nothing item) rest)) (sym some)
          ∙ ap (λ (b : Bool). f.full ++ (if b then filled max (with_item f.last item) rest
          else if_any f.last ++ filled max (with_item nothing item) rest)) (sym e) ∙ now.whole;
      full_fit = all_fit_push max f.full f.last now.full_fit now.last_fits;
      last_fits = omega arith;
      order = order_of_one f.last item rest now.order;
    }

pub filling_after : (max : ℕ) (s : State) (f g : Filling) (item : Item) (rest : List Item) → g ≡ added max f item
    → IsFilling max s f (item ∷ rest) → HEAD_BYTES + item_length item ≤ max → IsFilling max s g rest
filling_after max s f g item rest is now small = subst (λ (h : Filling). IsFilling max s h rest) (sym is)
    (next_item max s f item rest (fits max f.last item) refl now small)

-- ---- the beginning

pub filling_begins : (max : ℕ) (s : State) (f : Filling) → f ≡ record { full = []; last = nothing } → HEAD_BYTES ≤ max
    → IsFilling max s f (items_of s)
filling_begins max s f is least = subst (λ (g : Filling). IsFilling max s g (items_of s)) (sym is) (record {
  whole = refl;
  full_fit = tt;
  last_fits = omega (arith, frame_length_of_nothing);
  order = order_alone (items_of s) (items_in_order s);
})
