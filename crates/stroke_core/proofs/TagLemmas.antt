-- The 16 bytes of a number of 128 bits, and the texts that spell them.
use Rattle.std.proofs.Common.{◌≡◌, ℕ, zero, suc, ◌<◌, ◌^◌, length, Option, Some, None, All, get_or, refl, sym, ap, ◌∙◌}
use Rattle.std.proofs.Common.{inl, arith, option_map}
use Rattle.std.specs.Int.{w128, byte_at, bytes_high_first, from_be_bytes, to_be_bytes}
use Rattle.uuid.specs.Text.{lower, parsed}
use Rattle.uuid.proofs.{OrderLemmas.from_be_bytes-to_be_bytes_16, RoundTrips.parses_hyphenated, TextLemmas.all_fit}
use Rattle.stroke_core.specs.Tag.{tag_of, text_of}

-- what is not there has no image
pub none_of_absent : {X Y : Type 0} (f : X → Y) (o : Option X) → ((x : X) × (o ≡ Some x) → ⊥) → option_map f o ≡ None
none_of_absent f None absent = refl
none_of_absent f (Some x) absent = absurd (absent (x, refl))

-- as many bytes as were asked for
length-bytes_high_first : (k n : ℕ) → length (bytes_high_first k n) ≡ k
length-bytes_high_first zero n = refl
length-bytes_high_first (suc k) n = ap suc (length-bytes_high_first k n)

-- each byte of a number is below 256
byte_fits : (k n : ℕ) → byte_at k n < 256
byte_fits zero n = omega arith
byte_fits (suc k) n = omega arith

-- and so at every place of the list
bytes_fit : (k n i : ℕ) → get_or (bytes_high_first k n) i 0 < 256
bytes_fit zero n i = omega arith
bytes_fit (suc k) n zero = byte_fits k n
bytes_fit (suc k) n (suc i) = bytes_fit k n i

-- the text of each number of 128 bits stands for that number
pub tag_of-text_of : (n : ℕ) → n < 2 ^ 128 → tag_of (text_of n) ≡ Some n
tag_of-text_of n fits =
    let bytes = to_be_bytes w128 n in
    let small : All (λ b. b < 256) bytes = all_fit bytes (λ k _. bytes_fit 16 n k) in
    let found : Some bytes ≡ parsed (text_of n) =
    parses_hyphenated lower bytes (inl refl) (length-bytes_high_first 16 n) small in
    ap (option_map (from_be_bytes w128)) (sym found) ∙ ap Some (from_be_bytes-to_be_bytes_16 n fits)
