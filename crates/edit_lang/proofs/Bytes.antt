-- Bytes above a bound, as those of digits, tags and words are.
use Rattle.std.proofs.Common.{◌≡◌, ℕ, zero, suc, ◌<◌, ◌≤◌, Bool, true, false, eqb, cond, List, [], ◌∷◌, ◌++◌, length}
use Rattle.std.proofs.Common.{All, get_or, refl, arith, decimal}
use Rattle.std.proofs.{lemmas.Bool.Decides.nat_tests, lemmas.Fmt.decimal_is_IsNumeral}
use Rattle.std.proofs.{lemmas.Str.Parse.digit_from_value}
use Rattle.std.proofs.lemmas.List.Elements.{All-nil, All-cons, All-from_get_or, recursion_from_All}
use Rattle.std.specs.{List.AllByRecursion, List.list_all, Char.is_ascii_digit, Int.w128, Int.to_be_bytes}
use Rattle.std.specs.{Str.Parse.AllDigits}
use Rattle.uuid.specs.Text.{lower, hex_digit, nibble, is_hyphen_place, digit_place}
use Rattle.uuid.proofs.TextLemmas.{by_index_at, by_index_length}
use Rattle.stroke_core.specs.Tag.{text_of}

-- each byte is above the bound
abbrev pub Above : ℕ → List ℕ → Type 0
Above k bytes = AllByRecursion (λ b. k < b) bytes

pub above_append : (k : ℕ) (xs ys : List ℕ) → Above k xs → Above k ys → Above k (xs ++ ys)
above_append k [] ys a b = b
above_append k (x ∷ xs) ys a b = (a.0, above_append k xs ys a.1 b)

pub above_less : (j k : ℕ) (bytes : List ℕ) → j ≤ k → Above k bytes → Above j bytes
above_less j k [] le a = tt
above_less j k (b ∷ bytes) le a = (omega (arith, le, a.0), above_less j k bytes le a.1)

-- a test that each number above the bound fails
pub none_pass : (p : ℕ → Bool) (k : ℕ) → ((b : ℕ) → k < b → p b ≡ false) → (bytes : List ℕ) → Above k bytes
    → All (λ b. p b ≡ false) bytes
none_pass p k fails [] a = All-nil (λ b. p b ≡ false)
none_pass p k fails (b ∷ bytes) a =
    All-cons (λ x. p x ≡ false) b bytes (fails b a.0) (none_pass p k fails bytes a.1)

-- a lesser byte is at no place
pub not_at : (k low : ℕ) → 0 < low → low ≤ k → (bytes : List ℕ) (i : ℕ) → Above k bytes
    → eqb (get_or bytes i 0) low ≡ false
not_at k low some le [] i a = grind (arith, nat_tests)
not_at k low some le (b ∷ bytes) zero a = let above : k < b = a.0 in grind (arith, nat_tests)
not_at k low some le (b ∷ bytes) (suc i) a = not_at k low some le bytes i a.1

-- ---- digits

pub digits_above : (ds : List ℕ) → AllDigits 10 ds → Above 47 ds
digits_above [] d = tt
digits_above (c ∷ ds) d = (omega (arith, digit_from_value c d.0), digits_above ds d.1)

pub digits_pass : (ds : List ℕ) → AllDigits 10 ds → list_all is_ascii_digit ds ≡ true
digits_pass [] d = refl
digits_pass (c ∷ ds) d =
    let r = digit_from_value c d.0 in
    let first : is_ascii_digit c ≡ true = grind (arith, nat_tests) in
    rw (first, digits_pass ds d.1) refl

-- no digit is a byte that is none
digits_apart : (sign : ℕ) → is_ascii_digit sign ≡ false → (ds : List ℕ) → AllDigits 10 ds
    → All (λ b. eqb b sign ≡ false) ds
digits_apart sign apart [] d = All-nil (λ b. eqb b sign ≡ false)
digits_apart sign apart (c ∷ ds) d =
    let r = digit_from_value c d.0 in
    All-cons (λ b. eqb b sign ≡ false) c ds (grind (arith, nat_tests)) (digits_apart sign apart ds d.1)

-- nor is one of a number that is written
pub decimal_apart : (sign n : ℕ) → is_ascii_digit sign ≡ false → n ≤ 65535
    → All (λ b. eqb b sign ≡ false) (decimal n)
decimal_apart sign n apart le = digits_apart sign apart (decimal n) (decimal_is_IsNumeral n (omega arith)).0.1

pub decimal_above : (n : ℕ) → n ≤ 65535 → Above 47 (decimal n)
decimal_above n le = digits_above (decimal n) (decimal_is_IsNumeral n (omega arith)).0.1

-- ---- tags

choice_above : (b : Bool) (x y : ℕ) → 32 < x → 32 < y → 32 < cond b x y
choice_above true x y p q = p
choice_above false x y p q = q

hex_above : (d : ℕ) → 32 < hex_digit lower d
hex_above d = grind (arith, nat_tests)

-- the text of a tag has 36 bytes
pub tag_length : (tag : ℕ) → length (text_of tag) ≡ 36
tag_length tag = by_index_length 36 _

-- none of them is a blank, or below
pub tag_above : (tag : ℕ) → Above 32 (text_of tag)
tag_above tag =
    let xs = to_be_bytes w128 tag in
    let f : ℕ → ℕ = λ k. cond (is_hyphen_place k) 45 (hex_digit lower (nibble xs (digit_place k))) in
    recursion_from_All (λ b. 32 < b) (text_of tag) (All-from_get_or (λ b. 32 < b) (text_of tag) 0 (λ i inside.
    let at : get_or (text_of tag) i 0 ≡ f i = by_index_at 36 f i 0 (omega (arith, inside, tag_length tag)) in
    rw at (choice_above (is_hyphen_place i) 45 (hex_digit lower (nibble xs (digit_place i))) (omega arith)
    (hex_above (nibble xs (digit_place i))))))
