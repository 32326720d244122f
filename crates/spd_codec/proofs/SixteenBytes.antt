-- The 16 bytes of a number, as those of its two halves.
use Rattle.std.proofs.Common.{◌≡◌, ℕ, ◌+◌, ◌*◌, ◌/◌, ◌%◌, ◌<◌, ◌^◌, List, [], ◌∷◌, ◌++◌, length, get_or, take, drop}
use Rattle.std.proofs.Common.{refl, sym, ap, ◌∙◌, arith, w64, length-take-le, take-append-drop}
use Rattle.std.proofs.{Math.Nat.div-div-eq-div-mul, lemmas.Nat.be_bytes_8, lemmas.List.get_or-take}
use Rattle.std.proofs.lemmas.List.{get_or-drop, length-drop}
use Rattle.std.specs.Int.{w128, from_be_bytes, to_be_bytes}
use Rattle.spd_codec.proofs.Fields.{IsBytes, IsBytes-take, IsBytes-drop}

-- the bytes of a number are those of its high half and those of its low half
halves : (n high low : ℕ) → n ≡ high * 18446744073709551616 + low → low < 18446744073709551616
    → to_be_bytes w128 n ≡ to_be_bytes w64 high ++ to_be_bytes w64 low
halves n high low e lt =
    let top : n / 18446744073709551616 ≡ high = omega arith in
    let upper = λ (k : ℕ). ap (λ (m : ℕ). m % 256) (sym (div-div-eq-div-mul n 18446744073709551616 k)
    ∙ ap (λ (m : ℕ). m / k) top) in
    let e7 : n / 72057594037927936 % 256 ≡ low / 72057594037927936 % 256 = omega arith in
    let e6 : n / 281474976710656 % 256 ≡ low / 281474976710656 % 256 = omega arith in
    let e5 : n / 1099511627776 % 256 ≡ low / 1099511627776 % 256 = omega arith in
    let e4 : n / 4294967296 % 256 ≡ low / 4294967296 % 256 = omega arith in
    let e3 : n / 16777216 % 256 ≡ low / 16777216 % 256 = omega arith in
    let e2 : n / 65536 % 256 ≡ low / 65536 % 256 = omega arith in
    let e1 : n / 256 % 256 ≡ low / 256 % 256 = omega arith in
    let e0 : n % 256 ≡ low % 256 = omega arith in
    λ i. upper 72057594037927936 i ∷ upper 281474976710656 i ∷ upper 1099511627776 i ∷ upper 4294967296 i
    ∷ upper 16777216 i ∷ upper 65536 i ∷ upper 256 i ∷ ap (λ (m : ℕ). m % 256) top i
    ∷ e7 i ∷ e6 i ∷ e5 i ∷ e4 i ∷ e3 i ∷ e2 i ∷ e1 i ∷ e0 i ∷ []

-- 16 bytes are those of the number that they make
pub be_bytes_16 : (bs : List ℕ) → length bs ≡ 16 → IsBytes bs → to_be_bytes w128 (from_be_bytes w128 bs) ≡ bs
be_bytes_16 bs len small =
    let high = take 8 bs in
    let low = drop 8 bs in
    let high_at = λ (i : ℕ). get_or-take 8 bs i 0 in
    let low_at = λ (i : ℕ). get_or-drop 8 bs i 0 in
    let whole : from_be_bytes w128 bs ≡ from_be_bytes w64 high * 18446744073709551616 + from_be_bytes w64 low =
    omega (arith, high_at, low_at) in
    let within : from_be_bytes w64 low < 18446744073709551616 = omega (arith, IsBytes-drop 8 bs small) in
    let first = be_bytes_8 high _ (length-take-le 8 bs (omega arith)) (IsBytes-take 8 bs small) refl in
    let second = be_bytes_8 low _ (omega (arith, length-drop 8 bs)) (IsBytes-drop 8 bs small) refl in
    halves _ (from_be_bytes w64 high) (from_be_bytes w64 low) whole within ∙ (λ i. first i ++ second i)
    ∙ take-append-drop 8 bs

-- and that number is below 2 ^ 128
pub below_16 : (bs : List ℕ) → IsBytes bs → from_be_bytes w128 bs < 2 ^ 128
below_16 bs small = omega (arith, small)
