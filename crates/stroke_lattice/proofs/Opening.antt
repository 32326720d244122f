-- One piece of a state is filled, and the pieces are counted.
use Rattle.std.proofs.Common.{◌≡◌, ℕ, ◌+◌, ◌<◌, ◌≤◌, Bool, true, false, List, [], ◌∷◌, ◌++◌, length, drop, refl, sym}
use Rattle.std.proofs.Common.{ap, subst, ◌∙◌, ◌⊎◌, inl, inr, arith, append_assoc, length-append, nat_lt, if◌then◌else◌}
use Rattle.std.proofs.Common.{flat_map}
use Rattle.std.proofs.Math.Seq.{drop-append_seam}
use Rattle.stroke_lattice.specs.{declared.piece.Place.Place, declared.split.TheConstants.HEAD_BYTES, State.State}
use Rattle.stroke_lattice.specs.{State.nothing, Places.items_from, Places.pieces_from, Places.place_of}
use Rattle.stroke_lattice.specs.Pieces.{Item, items_of, item_length, frame_length, with_item, fits, if_any, filled}
use Rattle.stroke_lattice.specs.Pieces.{pieces_of}
use Rattle.stroke_lattice.specs.Filling.{Filling, put_in, turned, AllBefore, AreInOrder, IsFilling}
use Rattle.stroke_lattice.proofs.Items.{items_in_order, frame_length_of_longer, items_of_nothing}
use Rattle.stroke_lattice.proofs.Items.{frame_length_of_nothing, before_next, order_behind}
use Rattle.std.proofs.lemmas.Bool.{le-leb, lt-leb}
use Rattle.stroke_lattice.proofs.Adding.{piece_with_items, piece_without_items, item_takes_bytes, order_alone}
use Rattle.stroke_lattice.proofs.Adding.{order_of_longer, filling_after, filling_begins, frame_length_of_one}
use Rattle.stroke_lattice.proofs.Adding.{all_fit_push}
use Rattle.stroke_lattice.proofs.{Cutting.items_of_filled, Placing.items_from_own_place, Placing.items_from_in_order}

-- ---- the first of the pieces

nothing_alone : if_any nothing ≡ []
nothing_alone = piece_without_items nothing (omega (arith, frame_length_of_nothing))

-- an empty piece takes the first item, whether it fits or not
first_taken : (max : ℕ) (x : Item) (xs : List Item)
    → filled max nothing (x ∷ xs) ≡ filled max (with_item nothing x) xs
first_taken max x xs =
    let rest = filled max (with_item nothing x) xs in
    elim (fits max nothing x) as (λ b. (if b then rest else if_any nothing ++ rest) ≡ rest) [
      | true ↦ refl
      | false ↦ ap (λ (l : List State). l ++ rest) nothing_alone
    ]

-- where an item does not fit the next piece begins with it
next_begins : (max : ℕ) (piece : State) (x : Item) (xs : List Item) → AllBefore (items_of piece) x
    → max < frame_length piece + item_length x → HEAD_BYTES + item_length x ≤ max
    → filled max piece (x ∷ xs) ≡ piece ∷ filled max nothing (x ∷ xs)
next_begins max piece x xs before full small =
    let rest = filled max (with_item nothing x) xs in
    let no_room : fits max piece x ≡ false =
    lt-leb (frame_length (with_item piece x)) max (omega (arith, frame_length_of_longer piece x before)) in
    ap (λ (b : Bool). if b then filled max (with_item piece x) xs else if_any piece ++ rest) no_room
    ∙ ap (λ (l : List State). l ++ rest) (piece_with_items piece (omega arith))
    ∙ ap (λ (l : List State). piece ∷ l) (sym (first_taken max x xs))

fits_in : (max : ℕ) (piece : State) (x : Item) → AllBefore (items_of piece) x
    → frame_length piece + item_length x ≤ max → fits max piece x ≡ true
fits_in max piece x before room = le-leb (frame_length (with_item piece x)) max
    (omega (arith, frame_length_of_longer piece x before))

some_pieces : (pieces : List State) (x : Item) (xs : List Item) → flat_map items_of pieces ≡ x ∷ xs
    → 0 < length pieces
some_pieces [] x xs is = absurd cc
some_pieces (piece ∷ pieces) x xs is = omega arith

-- items take a piece
pub some_piece : (max : ℕ) (x : Item) (xs : List Item) → AreInOrder (x ∷ xs) → 0 < length (filled max nothing (x ∷ xs))
some_piece max x xs order = some_pieces (filled max nothing (x ∷ xs)) x xs
    (items_of_filled max (x ∷ xs) nothing (order_alone (x ∷ xs) order)
    ∙ ap (λ (l : List Item). l ++ x ∷ xs) items_of_nothing)

-- ---- a piece that is open

-- these are the pieces, where this one is open and these items are left
pub record IsOpen (max : ℕ) (pieces : List State) (piece : State) (left : List Item) : Type 0 where
  pub whole : filled max piece left ≡ pieces
  pub fits : frame_length piece ≤ max
  pub order : AreInOrder (items_of piece ++ left)

pub open_begins : (max : ℕ) (s : State) (place : Place) → HEAD_BYTES ≤ max
    → IsOpen max (pieces_from max s place) nothing (items_from s place)
open_begins max s place least = record {
  whole = refl;
  fits = omega (arith, frame_length_of_nothing);
  order = order_alone (items_from s place) (items_from_in_order s place);
}

pub open_starts : (max : ℕ) (s : State) (place : Place) (piece : State) (left : List Item) → piece ≡ nothing
    → left ≡ items_from s place → HEAD_BYTES ≤ max → IsOpen max (pieces_from max s place) piece left
open_starts max s place piece left none is least =
    subst (λ (p : State). IsOpen max (pieces_from max s place) p left) (sym none)
    (subst (λ (items : List Item). IsOpen max (pieces_from max s place) nothing items) (sym is)
    (open_begins max s place least))

pub open_takes : (max : ℕ) (pieces : List State) (piece : State) (x : Item) (left : List Item)
    → IsOpen max pieces piece (x ∷ left) → frame_length piece + item_length x ≤ max
    → IsOpen max pieces (with_item piece x) left
open_takes max pieces piece x left now room =
    let before = before_next (items_of piece) x left now.order in
    record {
      whole = sym (ap (λ (b : Bool). if b then filled max (with_item piece x) left
          else if_any piece ++ filled max (with_item nothing x) left) (fits_in max piece x before room)) ∙ now.whole;
      fits = omega (arith, frame_length_of_longer piece x before);
      order = order_of_longer piece x left now.order;
    }

pub open_is_full : (max : ℕ) (pieces : List State) (piece : State) (x : Item) (left : List Item)
    → IsOpen max pieces piece (x ∷ left) → max < frame_length piece + item_length x
    → HEAD_BYTES + item_length x ≤ max → pieces ≡ piece ∷ filled max nothing (x ∷ left)
open_is_full max pieces piece x left now full small =
    sym now.whole ∙ next_begins max piece x left (before_next (items_of piece) x left now.order) full small

-- where the next item is in the next piece
pub open_stops : (max : ℕ) (s : State) (place next : Place) (piece : State) (before : List Item) (x : Item)
    (left : List Item) → IsOpen max (pieces_from max s place) piece (x ∷ left)
    → max < frame_length piece + item_length x → HEAD_BYTES + item_length x ≤ max
    → before ++ x ∷ left ≡ items_of s → next ≡ place_of x
    → pieces_from max s place ≡ piece ∷ pieces_from max s next
open_stops max s place next piece before x left now full small is at =
    open_is_full max (pieces_from max s place) piece x left now full small
    ∙ ap (λ (l : List State). piece ∷ l)
    (ap (filled max nothing) (sym (ap (items_from s) at ∙ items_from_own_place s before x left is)))

pub more_pieces : (max : ℕ) (s : State) (next : Place) (before : List Item) (x : Item) (left : List Item)
    → before ++ x ∷ left ≡ items_of s → next ≡ place_of x → 0 < length (pieces_from max s next)
more_pieces max s next before x left is at =
    subst (λ (items : List Item). 0 < length (filled max nothing items))
    (sym (ap (items_from s) at ∙ items_from_own_place s before x left is))
    (some_piece max x left (order_behind before (x ∷ left) (subst AreInOrder (sym is) (items_in_order s))))

one_piece : (b : Bool) (piece : State) → 0 < length (if b then piece ∷ [] else [])
    → (if b then piece ∷ [] else []) ≡ piece ∷ []
one_piece true piece some = refl
one_piece false piece some = absurd (omega arith)

pub open_is_last : (max : ℕ) (pieces : List State) (piece : State) → IsOpen max pieces piece [] → 0 < length pieces
    → pieces ≡ piece ∷ []
open_is_last max pieces piece now some =
    sym now.whole ∙ one_piece (nat_lt 0 (length (items_of piece))) piece
    (subst (λ (l : List State). 0 < length l) (sym now.whole) some)

-- ---- pieces that are counted

-- one piece is open, behind the ones that are full
pub record IsCounting (max : ℕ) (s : State) (begun bytes : ℕ) (left : List Item) : Type 0 where
  pub f : Filling
  pub filling : IsFilling max s f left
  pub begun_is : begun ≡ length f.full + 1
  pub bytes_is : bytes ≡ frame_length f.last

-- no piece is open, and there is no room in it
pub record IsUncounted (max : ℕ) (s : State) (begun bytes : ℕ) (left : List Item) : Type 0 where
  pub begun_is : begun ≡ 0
  pub bytes_is : bytes ≡ max
  pub left_is : left ≡ items_of s

-- so many pieces of the state have begun, and the last of these has a frame of so many bytes
abbrev pub AreCounted : ℕ → State → ℕ → ℕ → List Item → Type 0
AreCounted max s begun bytes left = IsUncounted max s begun bytes left ⊎ IsCounting max s begun bytes left

pub bytes_at_most : (max : ℕ) (s : State) (begun bytes : ℕ) (left : List Item) → AreCounted max s begun bytes left
    → bytes ≤ max
bytes_at_most max s begun bytes left now = elim now [
  | inl none ↦ let is = none.bytes_is in omega arith
  | inr some ↦ let is = some.bytes_is in let at_most = some.filling.last_fits in omega arith
]

-- an item for which there is room is of the piece that is open
pub counted_takes : (max : ℕ) (s : State) (begun bytes : ℕ) (x : Item) (left : List Item)
    → AreCounted max s begun bytes (x ∷ left) → bytes + item_length x ≤ max → HEAD_BYTES + item_length x ≤ max
    → AreCounted max s begun (bytes + item_length x) left
counted_takes max s begun bytes x left now room small = elim now [
  | inl none ↦
      let is = none.bytes_is in
      let some : 0 < item_length x = item_takes_bytes x in
      absurd (omega arith)
  | inr some ↦
      let before = before_next (items_of some.f.last) x left some.filling.order in
      let is = some.bytes_is in
      let fits = fits_in max some.f.last x before (omega arith) in
      let longer : frame_length (with_item some.f.last x) ≡ frame_length some.f.last + item_length x =
      frame_length_of_longer some.f.last x before in
      inr (record {
        f = put_in some.f x;
        filling = filling_after max s some.f (put_in some.f x) x left
            (sym (ap (λ (b : Bool). if b then put_in some.f x else put_in (turned some.f) x) fits)) some.filling small;
        begun_is = some.begun_is;
        bytes_is = omega arith;
      })
]

-- these pieces of the state are full, and the next one begins with the items that are left
pub record IsTurned (max : ℕ) (s : State) (begun : ℕ) (left : List Item) : Type 0 where
  pub full : List State
  pub begun_is : begun ≡ length full
  pub filling : IsFilling max s (record { full = full; last = nothing }) left

pub counted_turns : (max : ℕ) (s : State) (begun bytes : ℕ) (x : Item) (left : List Item)
    → AreCounted max s begun bytes (x ∷ left) → max < bytes + item_length x → HEAD_BYTES + item_length x ≤ max
    → IsTurned max s begun (x ∷ left)
counted_turns max s begun bytes x left now full small = elim now [
  | inl none ↦ record {
    full = [];
    begun_is = none.begun_is;
    filling = subst (λ (items : List Item). IsFilling max s (record { full = []; last = nothing }) items)
        (sym none.left_is) (filling_begins max s (record { full = []; last = nothing }) refl (omega arith));
  }
  | inr some ↦
      let before = before_next (items_of some.f.last) x left some.filling.order in
      let is = some.bytes_is in
      record {
        full = some.f.full ++ some.f.last ∷ [];
        begun_is = some.begun_is ∙ sym (length-append some.f.full (some.f.last ∷ []));
        filling = record {
          whole = append_assoc some.f.full (some.f.last ∷ []) (filled max nothing (x ∷ left))
              ∙ ap (λ (l : List State). some.f.full ++ l)
              (sym (next_begins max some.f.last x left before (omega arith) small)) ∙ some.filling.whole;
          full_fit = all_fit_push max some.f.full some.f.last some.filling.full_fit some.filling.last_fits;
          last_fits = omega (arith, frame_length_of_nothing);
          order = order_alone (x ∷ left) (order_behind (items_of some.f.last) (x ∷ left) some.filling.order);
        };
      }
]

-- the item that is the first of the next piece
pub turned_takes : (max : ℕ) (s : State) (begun : ℕ) (x : Item) (left : List Item) → IsTurned max s begun (x ∷ left)
    → HEAD_BYTES + item_length x ≤ max → AreCounted max s (begun + 1) (HEAD_BYTES + item_length x) left
turned_takes max s begun x left now small =
    let f : Filling = record { full = now.full; last = nothing } in
    let before = before_next (items_of nothing) x left now.filling.order in
    let fits = fits_in max nothing x before (omega (arith, frame_length_of_nothing)) in
    inr (record {
      f = put_in f x;
      filling = filling_after max s f (put_in f x) x left
          (sym (ap (λ (b : Bool). if b then put_in f x else put_in (turned f) x) fits)) now.filling small;
      begun_is = ap (λ (n : ℕ). n + 1) now.begun_is;
      bytes_is = sym (frame_length_of_one x);
    })

-- from the place of that item on there are the pieces that are not full yet
pub turned_place : (max : ℕ) (s : State) (begun : ℕ) (before : List Item) (x : Item) (left : List Item)
    → IsTurned max s begun (x ∷ left) → before ++ x ∷ left ≡ items_of s
    → pieces_from max s (place_of x) ≡ drop begun (pieces_of max s)
turned_place max s begun before x left now is =
    ap (filled max nothing) (items_from_own_place s before x left is)
    ∙ sym (drop-append_seam now.full (filled max nothing (x ∷ left)))
    ∙ ap (λ (n : ℕ). drop n (now.full ++ filled max nothing (x ∷ left))) (sym now.begun_is)
    ∙ ap (drop begun) now.filling.whole

pub turned_within : (max : ℕ) (s : State) (begun : ℕ) (x : Item) (left : List Item) → IsTurned max s begun (x ∷ left)
    → begun < length (pieces_of max s)
turned_within max s begun x left now =
    let order = order_behind (items_of nothing) (x ∷ left) now.filling.order in
    let some : 0 < length (filled max nothing (x ∷ left)) = some_piece max x left order in
    let longer : length (now.full ++ filled max nothing (x ∷ left))
    ≡ length now.full + length (filled max nothing (x ∷ left)) =
    length-append now.full (filled max nothing (x ∷ left)) in
    let whole : length (now.full ++ filled max nothing (x ∷ left)) ≡ length (pieces_of max s) =
    ap length now.filling.whole in
    let is = now.begun_is in
    omega arith

at_most_one : (b : Bool) (piece : State) → length (if b then piece ∷ [] else []) ≤ 1
at_most_one true piece = omega arith
at_most_one false piece = omega arith

-- at the end of the items there are no more pieces than have begun
pub counted_all : (max : ℕ) (s : State) (begun bytes : ℕ) → AreCounted max s begun bytes []
    → length (pieces_of max s) ≤ begun
counted_all max s begun bytes now = elim now [
  | inl none ↦
      let empty : length (pieces_of max s) ≡ 0 =
      ap (λ (items : List Item). length (filled max nothing items)) (sym none.left_is) ∙ ap length nothing_alone in
      omega arith
  | inr some ↦
      let one : length (if_any some.f.last) ≤ 1 = at_most_one (nat_lt 0 (length (items_of some.f.last))) some.f.last in
      let longer : length (some.f.full ++ if_any some.f.last) ≡ length some.f.full + length (if_any some.f.last) =
      length-append some.f.full (if_any some.f.last) in
      let whole : length (some.f.full ++ if_any some.f.last) ≡ length (pieces_of max s) =
      ap length some.filling.whole in
      let is = some.begun_is in
      omega arith
]

-- ---- there are not many more pieces than items

count_filled : (max : ℕ) (rest : List Item) (piece : State) → length (filled max piece rest) ≤ length rest + 1
count_filled max [] piece = at_most_one (nat_lt 0 (length (items_of piece))) piece
count_filled max (x ∷ rest) piece =
    elim (fits max piece x) as (λ b. length (if b then filled max (with_item piece x) rest
    else if_any piece ++ filled max (with_item nothing x) rest) ≤ length (x ∷ rest) + 1) [
      | true ↦
          let fewer : length (filled max (with_item piece x) rest) ≤ length rest + 1 =
          count_filled max rest (with_item piece x) in
          omega arith
      | false ↦
          let fewer : length (filled max (with_item nothing x) rest) ≤ length rest + 1 =
          count_filled max rest (with_item nothing x) in
          let one : length (if_any piece) ≤ 1 = at_most_one (nat_lt 0 (length (items_of piece))) piece in
          let longer : length (if_any piece ++ filled max (with_item nothing x) rest)
          ≡ length (if_any piece) + length (filled max (with_item nothing x) rest) =
          length-append (if_any piece) (filled max (with_item nothing x) rest) in
          omega arith
    ]

pub count_pieces : (max : ℕ) (s : State) → length (pieces_of max s) ≤ length (items_of s) + 1
count_pieces max s = count_filled max (items_of s) nothing
