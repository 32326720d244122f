-- How a page is told the name of its mask's file (RFC 6266, section 4; RFC 8187, section 3.2.1).
use Rattle.std.specs.Prelude.{ℕ, ◌==◌, nat_le, Bool, ◌||◌, if◌then◌else◌, List, [], ◌∷◌, ◌++◌, length, codes}
use Rattle.std.specs.Prelude.{Option, Some, None}
use Rattle.std.specs.List.{flat_map, list_any}
use Rattle.std.specs.{Char.is_ascii_alphanumeric, Path.path_file_name}
use Rattle.http1.specs.Fields.{Header}
use Rattle.percent_encoding.specs.Percent.{percent_encode_byte}

-- attr-char: a byte that stands for itself, a letter, a digit or one of these marks
abbrev pub is_attr_char : ℕ → Bool
is_attr_char b = is_ascii_alphanumeric b || list_any (λ c. c == b) (codes "!#$&+-.^_`|~")

-- value-chars: a name as it is told; each other byte is `%` and two hexadecimal digits in upper case
abbrev pub value_chars : List ℕ → List ℕ
value_chars name = flat_map (λ b. if is_attr_char b then b ∷ [] else percent_encode_byte b) name

-- the value of the field that tells a name
abbrev pub naming : List ℕ → List ℕ
naming name = codes "inline; filename*=UTF-8''" ++ value_chars name

-- the same of what may be a name: none where there is none, and none where it has more than 255 bytes
abbrev pub naming_file : Option (List ℕ) → Option (List ℕ)
naming_file None = None
naming_file (Some name) = if nat_le (length name) 255 then Some (naming name) else None

-- the same of the file at a path, by what std calls its name: the last part of the path
abbrev pub naming_at : List ℕ → Option (List ℕ)
naming_at path = naming_file (path_file_name path)

-- the field, where there is one
abbrev pub name_fields : Option (List ℕ) → List Header
name_fields None = []
name_fields (Some value) = (codes "content-disposition", value) ∷ []
