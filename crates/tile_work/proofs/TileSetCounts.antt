-- How many bits of a word are set, of the lowest ones.
use Rattle.std.proofs.Common.{◌≡◌, ℕ, zero, suc, ◌+◌, ◌*◌, ◌%◌, ◌^◌, ◌<◌, cond, ◌==◌, count_ones, refl, sym, ap}
use Rattle.std.proofs.Common.{◌∙◌, inl, inr, arith}
use Rattle.std.proofs.lemmas.Bool.{cases_eq}
use Rattle.std.proofs.lemmas.Nat.{pow_pos, mod_below, mod-pow-add, shl-shr, ones_cat, zero_from_ones, ones_le_self}
use Rattle.std.proofs.lemmas.Nat.Bits.{bit_at-lt}
use Rattle.std.proofs.Math.Nat.{mul-mod_left}
use Rattle.std.specs.Int.{bit_at}
use Rattle.tile_work.specs.Counts.{count_from}
use Rattle.tile_work.proofs.Counts.{count_one_more}

ones_of_bit : (x : ℕ) → x < 2 → count_ones x ≡ x
ones_of_bit x small = elim (cases_eq (count_ones x) 0) [
  | inl none ↦ none ∙ sym (zero_from_ones x none)
  | inr some ↦ omega (arith, ones_le_self x, some)
]

bit_as_count : (x : ℕ) → x < 2 → cond (x == 1) 1 0 ≡ x
bit_as_count zero small = refl
bit_as_count (suc zero) small = refl
bit_as_count (suc (suc x)) small = absurd (omega arith)

ones_below : (word bits : ℕ) → count_ones (word % 2 ^ bits) ≡ count_from (λ bit. bit_at word bit == 1) 0 bits
ones_below word zero = omega (arith, ones_le_self (word % 2 ^ 0))
ones_below word (suc bits) =
    let top : ℕ = bit_at word bits in
    let low : ℕ = word % 2 ^ bits in
    let more : suc bits ≡ 1 + bits = omega arith in
    let split : word % 2 ^ (1 + bits) ≡ top * 2 ^ bits + low = mod-pow-add word 1 bits in
    let apart : count_ones (top * 2 ^ bits + low) ≡ count_ones top + count_ones low =
    ones_cat bits top low (mod_below word (2 ^ bits) (pow_pos bits)) in
    let one = ones_of_bit top (bit_at-lt word bits) in
    let rest = ones_below word bits in
    let counted = count_one_more (λ bit. bit_at word bit == 1) 0 bits in
    let place : 0 + bits ≡ bits = omega arith in
    let last : cond (bit_at word (0 + bits) == 1) 1 0 ≡ top =
    ap (λ p. cond (bit_at word p == 1) 1 0) place ∙ bit_as_count top (bit_at-lt word bits) in
    let all : bits + 1 ≡ suc bits = omega arith in
    ap (λ n. count_ones (word % 2 ^ n)) more ∙ ap count_ones split ∙ apart
    ∙ omega (arith, one, rest, counted, last) ∙ ap (count_from (λ bit. bit_at word bit == 1) 0) all

-- the low bits, shifted to the top of the word
pub ones_low : (word bits up : ℕ)
    → count_ones (word * 2 ^ up % 2 ^ (bits + up)) ≡ count_from (λ bit. bit_at word bit == 1) 0 bits
ones_low word bits up =
    let low : ℕ = word % 2 ^ bits in
    let shifted : word * 2 ^ up % 2 ^ (bits + up) ≡ low * 2 ^ up + 0 =
    mod-pow-add (word * 2 ^ up) bits up ∙ ap (λ n. n % 2 ^ bits * 2 ^ up + word * 2 ^ up % 2 ^ up) (shl-shr word up)
    ∙ ap (λ n. low * 2 ^ up + n) (mul-mod_left word (2 ^ up)) in
    let apart : count_ones (low * 2 ^ up + 0) ≡ count_ones low + count_ones 0 = ones_cat up low 0 (pow_pos up) in
    let none = ones_le_self 0 in
    ap count_ones shifted ∙ omega (arith, apart, none) ∙ ones_below word bits
