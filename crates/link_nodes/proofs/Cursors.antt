-- Where the pieces of a state begin.
use Rattle.std.proofs.Common.{◌≡◌, ℕ, ◌+◌, ◌<◌, ◌≤◌, List, [], ◌∷◌, Option, Some, None, length, drop, slice_get, refl}
use Rattle.std.proofs.Common.{sym, ap, ◌∙◌, arith, length-drop, drop-cons, add-one, IfSome, IsTrue, is_some}
use Rattle.std.proofs.{lemmas.Bool.Decides.nat_tests, lemmas.Option.slice_get-get_or}
use Rattle.stroke_lattice.specs.{declared.piece.Place.Place, State.State, Places.pieces_from, Places.pieces_behind}
use Rattle.spd_codec.specs.Spelling.{max_bytes}
use Rattle.link_nodes.specs.Cursors.{frame_pieces, next_after, IsPlaceOf}

-- pieces are left from a number on exactly where there is a piece of this number
some_left : {A : Type 0} (n : ℕ) (xs ys : List A) → ys ≡ drop n xs → 0 < length ys → n < length xs
some_left n xs ys is some =
    let long : length ys ≡ length (drop n xs) = ap length is in
    omega (arith, long, length-drop n xs)

none_left : {A : Type 0} (n : ℕ) (xs : List A) → [] ≡ drop n xs → length xs ≤ n
none_left n xs is =
    let long : 0 ≡ length (drop n xs) = ap length is in
    omega (arith, long, length-drop n xs)

-- where a piece begins behind, there is one
pub more_behind : (s : State) (number : ℕ) (behind : Option Place)
    → pieces_behind max_bytes s behind ≡ drop (number + 1) (frame_pieces s)
    → IfSome behind (λ next. 0 < length (pieces_from max_bytes s next))
    → IsTrue (is_some behind) → number + 1 < length (frame_pieces s)
more_behind s number None is more some = absurd cc
more_behind s number (Some next) is more some =
    some_left (number + 1) (frame_pieces s) (pieces_from max_bytes s next) is more

pub place_behind : (s : State) (number : ℕ) (behind : Option Place)
    → pieces_behind max_bytes s behind ≡ drop (number + 1) (frame_pieces s)
    → (IsTrue (is_some behind) → number + 1 < length (frame_pieces s))
    → IsPlaceOf s (number + 1) behind
place_behind s number None is more = none_left (number + 1) (frame_pieces s) is
place_behind s number (Some next) is more = (more refl, is)

-- ---- numbers

after_some : (i count : ℕ) → i + 1 < count → next_after (Some i) count ≡ i + 1
after_some i count within = grind (arith, nat_tests)

pub number_is : (last : Option ℕ) (i j count : ℕ) → last ≡ Some i → j ≡ i + 1 → j < count → j ≡ next_after last count
number_is last i j count is next within =
    next ∙ sym (ap (λ (o : Option ℕ). next_after o count) is ∙ after_some i count (omega arith))

-- ---- the first of the pieces from a number on

pub piece_there : (n : ℕ) (xs rest : List State) (x : State) → x ∷ rest ≡ drop n xs → slice_get xs n ≡ Some x
piece_there n xs rest x is =
    let within : n < length xs = some_left n xs (x ∷ rest) is (omega arith) in
    cc (slice_get-get_or xs n x within, is ∙ drop-cons xs n x within)

pub pieces_after : (n : ℕ) (xs rest : List State) (x : State) → x ∷ rest ≡ drop n xs → rest ≡ drop (n + 1) xs
pieces_after n xs rest x is =
    let within : n < length xs = some_left n xs (x ∷ rest) is (omega arith) in
    cc (add-one n, is ∙ drop-cons xs n x within)
