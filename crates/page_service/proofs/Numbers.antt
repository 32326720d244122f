-- Decimal digits.
use Rattle.std.proofs.Common.{◌≢◌, ℕ, List, [], ◌∷◌, get_or, arith, IsUtf8}
use Rattle.std.proofs.{lemmas.Str.IsUtf8-from_ascii, lemmas.Str.Parse.digit_from_value, lemmas.Fmt.IsAscii-from_digits}
use Rattle.std.specs.Str.Parse.{IsNumeral}

-- a numeral begins with no plus
pub first_is_digit : (digits : List ℕ) → IsNumeral 10 digits → get_or digits 0 0 ≢ 43
first_is_digit [] h = absurd (omega (arith, h.0))
first_is_digit (c ∷ cs) h = λ plus. omega (arith, digit_from_value c h.1.0, plus)

-- a numeral is text
pub numeral_is_text : (digits : List ℕ) → IsNumeral 10 digits → IsUtf8 digits
numeral_is_text digits h = IsUtf8-from_ascii digits (IsAscii-from_digits digits h.1)
