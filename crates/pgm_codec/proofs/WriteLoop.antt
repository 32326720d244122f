-- Samples written one after the other into a list of bytes.
use Rattle.std.proofs.Common.{◌≡◌, ℕ, ◌+◌, ◌*◌, ◌/◌, ◌%◌, ◌<◌, ◌≤◌, List, [], ◌∷◌, ◌++◌, length, take, slice_index}
use Rattle.std.proofs.Common.{slice_set, refl, sym, ap, ◌∙◌, arith, append_assoc, length-set, flat_map}
use Rattle.std.proofs.lemmas.Bool.{cond-true, cond-false, lt-ltb, le-ltb}
use Rattle.std.proofs.{lemmas.List.append-nil, lemmas.List.take_more, lemmas.Grind.take-set_at}
use Rattle.pgm_codec.specs.Writing.{sample_bytes}

flat_map_push : (f : ℕ → List ℕ) (xs : List ℕ) (x : ℕ) → flat_map f (xs ++ x ∷ []) ≡ flat_map f xs ++ f x
flat_map_push f [] x = append-nil (f x)
flat_map_push f (y ∷ xs) x = ap (λ (t : List ℕ). f y ++ t) (flat_map_push f xs x)
    ∙ sym (append_assoc (f y) (flat_map f xs) (f x))

-- the bytes of one more sample
pub one_more : (f : ℕ → List ℕ) (i : ℕ) (samples : List ℕ) → i < length samples
    → flat_map f (take i samples) ++ f (slice_index samples i) ≡ flat_map f (take (i + 1) samples)
one_more f i samples lt =
    sym (flat_map_push f (take i samples) (slice_index samples i)) ∙ ap (flat_map f) (sym (take_more samples i 0 lt))

-- what was written before, and the bytes of one more sample
join_more : (m i : ℕ) (before done samples bytes : List ℕ) → i < length samples
    → done ≡ before ++ flat_map (sample_bytes m) (take i samples)
    → bytes ≡ sample_bytes m (slice_index samples i)
    → done ++ bytes ≡ before ++ flat_map (sample_bytes m) (take (i + 1) samples)
join_more m i before done samples bytes lt so_far e =
    let f = sample_bytes m in
    ap (λ (t : List ℕ). t ++ bytes) so_far
    ∙ append_assoc before (flat_map f (take i samples)) bytes
    ∙ ap (λ (t : List ℕ). before ++ (flat_map f (take i samples) ++ t)) e
    ∙ ap (λ (t : List ℕ). before ++ t) (one_more f i samples lt)

pub narrow_more : (m at i : ℕ) (out before samples : List ℕ) → m < 256 → at + i < length out → i < length samples
    → take (at + i) out ≡ before ++ flat_map (sample_bytes m) (take i samples)
    → take (at + (i + 1)) (slice_set out (at + i) (slice_index samples i)) ≡ before ++ flat_map (sample_bytes m)
    (take (i + 1) samples)
narrow_more m at i out before samples narrow room lt so_far =
    let s = slice_index samples i in
    take-set_at out (at + i) (at + (i + 1)) s (omega arith) room
    ∙ join_more m i before (take (at + i) out) samples (s ∷ []) lt so_far
    (sym (cond-true _ (s ∷ []) _ (lt-ltb m 256 narrow)))

pub wide_more : (m at i : ℕ) (out before samples : List ℕ) → 256 ≤ m → at + i * 2 + 1 < length out → i < length samples
    → take (at + i * 2) out ≡ before ++ flat_map (sample_bytes m) (take i samples)
    → take (at + (i + 1) * 2) (slice_set (slice_set out (at + i * 2) (slice_index samples i / 256)) (at + i * 2 + 1)
    (slice_index samples i % 256))
    ≡ before ++ flat_map (sample_bytes m) (take (i + 1) samples)
wide_more m at i out before samples wide room lt so_far =
    let high = slice_index samples i / 256 in
    let low = slice_index samples i % 256 in
    let p = at + i * 2 in
    let once = slice_set out p high in
    let long : length once ≡ length out = length-set out p high in
    take-set_at once (p + 1) (at + (i + 1) * 2) low (omega arith) (omega (arith, long, room))
    ∙ ap (λ (t : List ℕ). t ++ low ∷ []) (take-set_at out p (p + 1) high refl (omega (arith, room)))
    ∙ append_assoc (take p out) (high ∷ []) (low ∷ [])
    ∙ join_more m i before (take p out) samples (high ∷ low ∷ []) lt so_far
    (sym (cond-false _ _ (high ∷ low ∷ []) (le-ltb m 256 wide)))
