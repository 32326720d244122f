-- The number that a text of a tag stands for, and the text of a number.
use Rattle.std.specs.Prelude.{ℕ, List, Option, option_map}
use Rattle.std.specs.Int.{w128, from_be_bytes, to_be_bytes}
use Rattle.uuid.specs.Text.{lower, hyphenated_text, parsed}

-- the number whose 16 bytes, the high byte first, the text spells in one of the forms of a UUID
abbrev pub tag_of : List ℕ → Option ℕ
tag_of text = option_map (from_be_bytes w128) (parsed text)

-- the hyphenated form in lower case (RFC 9562, section 4) of the number's 16 bytes, the high byte first
abbrev pub text_of : ℕ → List ℕ
text_of n = hyphenated_text lower (to_be_bytes w128 n)
