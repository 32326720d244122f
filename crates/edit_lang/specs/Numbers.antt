-- The numbers in a word.
use Rattle.std.specs.Prelude.{ℕ, Bool, List, ◌&&◌, if◌then◌else◌, length, nat_lt, nat_le, Option, Some, None}
use Rattle.std.specs.Prelude.{option_and_then}
use Rattle.std.specs.{List.list_all, Char.is_ascii_digit, Str.Parse.digits_value}

infixl 10 ◌>>=◌
abbrev pub ◌>>=◌ : {A B : Type 0} → Option A → (A → Option B) → Option B
o >>= f = option_and_then f o

-- the most digits of a number
abbrev pub max_digits : ℕ
max_digits = 5

-- the greatest row, column or radius
abbrev pub max_coordinate : ℕ
max_coordinate = 65535

-- one to five decimal digits
abbrev pub is_number : List ℕ → Bool
is_number word = nat_lt 0 (length word) && (nat_le (length word) max_digits && list_all is_ascii_digit word)

-- the number that one to five digits write
unfoldable pub number_of : List ℕ → Option ℕ
number_of word = if is_number word then Some (digits_value 10 word) else None

-- the row, the column or the radius that the word writes, at most 65535
unfoldable pub coordinate_of : List ℕ → Option ℕ
coordinate_of word = do
  n ← number_of word
  if nat_le n max_coordinate then Some n else None
