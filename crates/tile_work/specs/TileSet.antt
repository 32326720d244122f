-- Sets of the tiles of an image: for each tile, by its number, whether it is in the set.
use Rattle.std.specs.Prelude.{◌≡◌, ◌≢◌, ℕ, ◌+◌, ◌*◌, ◌/◌, ◌%◌, ◌<◌, ◌≤◌, Bool, false, not, ◌&&◌, IsTrue, ◌==◌, List}
use Rattle.std.specs.Prelude.{length, map, ◌↔◌, ◌⊎◌, slice_index, slice_index_or, bit_or, EachIndex}
use Rattle.std.specs.{List.range_with_len, Int.bit_at}

-- the tile is in the set
abbrev pub Has : List Bool → ℕ → Type 0
Has set t = (t < length set) × IsTrue (slice_index_or set t false)

-- no tile from this one on is in the set
abbrev pub HasNoneFrom : List Bool → ℕ → Type 0
HasNoneFrom set start = (t : ℕ) → start ≤ t → Has set t → ⊥

-- the tile is the first of the set from this one on
pub record IsFirstFrom (set : List Bool) (start t : ℕ) : Type 0 where
  pub has : Has set t
  pub from : start ≤ t
  pub first : (u : ℕ) → start ≤ u → Has set u → t ≤ u

-- the new set has the tiles of the old one and those of which this holds, and no others
pub record HasGained (old : List Bool) (P : ℕ → Type 0) (new : List Bool) : Type 0 where
  pub count : length new ≡ length old
  pub each : (t : ℕ) → Has new t ↔ (Has old t ⊎ P t)

-- whether the tile is in the one set and not in the other
abbrev pub is_without : List Bool → List Bool → ℕ → Bool
is_without one other t = slice_index_or one t false && not (slice_index_or other t false)

-- the tile, whose word is this one's, is in the first set and in neither of the others
abbrev pub IsInFirstOfWord : List Bool → List Bool → List Bool → ℕ → ℕ → Type 0
IsInFirstOfWord one other third start t =
    (t / 64 ≡ start / 64) × Has one t × (Has other t → ⊥) × (Has third t → ⊥)

-- ---- words of bits

-- the bits of a word say of which tiles the test holds, of those whose word is this tile's
abbrev pub IsWordOf : (ℕ → Bool) → ℕ → ℕ → Type 0
IsWordOf test tile word = (bit : ℕ) → bit < 64 → (bit_at word bit == 1) ≡ test (tile / 64 * 64 + bit)

-- the bit at a place of words of 64 bits, of which the lowest comes first
abbrev pub bit_of : List ℕ → ℕ → ℕ
bit_of words place = bit_at (slice_index words (place / 64)) (place % 64)

-- the set of the tiles whose bits are set
abbrev pub tiles_of : ℕ → List ℕ → List Bool
tiles_of count words = map (λ t. bit_of words t == 1) (range_with_len 0 count)

-- no bit is set from this place on
abbrev pub AreZeroFrom : (ℕ → ℕ) → ℕ → Type 0
AreZeroFrom bits start = (place : ℕ) → start ≤ place → bits place ≡ 0

-- the place is the lowest one from this one on whose bit is set
pub record IsLowestFrom (bits : ℕ → ℕ) (start place : ℕ) : Type 0 where
  pub bit : bits place ≡ 1
  pub from : start ≤ place
  pub lowest : (other : ℕ) → start ≤ other → bits other ≡ 1 → place ≤ other

-- the bit at the place has been written, and nothing else
pub record IsWritten (old new : List ℕ) (place bit : ℕ) : Type 0 where
  pub count : length new ≡ length old
  pub written : bit_of new place ≡ bit
  pub others : (other : ℕ) → other ≢ place → bit_of new other ≡ bit_of old other
  pub words : (word : ℕ) → word ≢ place / 64 → slice_index new word ≡ slice_index old word

-- the new words have the bits of the old ones and those of the others
pub record AreUnited (old others new : List ℕ) : Type 0 where
  pub count : length new ≡ length old
  pub each : EachIndex old (λ i. slice_index new i ≡ bit_or (slice_index old i) (slice_index others i))

-- the words have bits of so many tiles alone, and bit w of the summary says whether word w is not 0
pub record IsSummed (count : ℕ) (words summary : List ℕ) : Type 0 where
  pub word_count : length words ≡ count / 64 + 1
  pub summary_count : length summary ≡ length words / 64 + 1
  pub tiles : (t : ℕ) → bit_of words t ≡ 1 → t < count
  pub summed : (t : ℕ) → bit_of words t ≡ 1 → bit_of summary (t / 64) ≡ 1
  pub some : (word : ℕ) → bit_of summary word ≡ 1 → 0 < slice_index words word
