-- The lines of a text, the words of a line, and the parts of a word.
use Rattle.std.specs.Prelude.{◌≡◌, ℕ, ◌+◌, Bool, List, [], ◌∷◌, ◌==◌, ◌||◌, if◌then◌else◌, length, map, filter, take}
use Rattle.std.specs.Prelude.{drop, position, nat_lt, Option, option_map}
use Rattle.std.specs.{List.slice_split, List.onto_first, Str.Lines.strip_carriage_return}

-- the byte TAB
abbrev pub tab : ℕ
tab = 9

-- the byte LF
abbrev pub line_feed : ℕ
line_feed = 10

-- the byte of a blank
abbrev pub blank : ℕ
blank = 32

-- what stands before each LF, and what stands after the last, where that is not empty
unfoldable pub cut_lines : List ℕ → List (List ℕ)
cut_lines [] = []
cut_lines (b ∷ bs) = if b == line_feed then [] ∷ cut_lines bs else onto_first b (cut_lines bs)

-- the lines: the text cut at each LF, each piece without one CR at its end
unfoldable pub lines_of : List ℕ → List (List ℕ)
lines_of text = map strip_carriage_return (cut_lines text)

-- a blank or a TAB
abbrev pub is_blank : ℕ → Bool
is_blank b = (b == blank) || (b == tab)

-- the words of a line: its longest runs of bytes other than blank and TAB
unfoldable pub words_of : List ℕ → List (List ℕ)
words_of line = filter (λ word. nat_lt 0 (length word)) (slice_split is_blank line)

-- the line begins with the word, and has those of the rest behind it
abbrev pub BeginsWith : List ℕ → List ℕ → List ℕ → Type 0
BeginsWith line word rest = words_of line ≡ word ∷ words_of rest

-- what stands before the first such byte and what stands after it, or None where there is none
unfoldable pub cut_at : ℕ → List ℕ → Option (List ℕ × List ℕ)
cut_at mark word = option_map (λ i. (take i word, drop (i + 1) word)) (position (λ b. b == mark) word)
