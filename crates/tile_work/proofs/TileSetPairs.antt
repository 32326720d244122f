-- Tiles of one set that others lack: the word that says which they are, the first of them, and how many there are.
use Rattle.std.proofs.Common.{◌≡◌, ℕ, zero, suc, ◌+◌, ◌-◌, ◌*◌, ◌/◌, ◌%◌, ◌^◌, ◌<◌, ◌≤◌, Bool, true, List, get_or, min}
use Rattle.std.proofs.Common.{not, ◌&&◌, ◌==◌, bit_and, w64, false, refl, sym, ap, ◌∙◌, arith}
use Rattle.std.proofs.lemmas.Bool.{and_from, and_parts, not_from_false, not-true, both_ways, eqb-true, eq-eqb}
use Rattle.std.proofs.{lemmas.Nat.shr-shr, lemmas.List.get_or_default}
use Rattle.std.proofs.lemmas.Nat.Bits.{bit_at-lt, bit_at_and, bit_at_not}
use Rattle.std.specs.Int.{bit_at, bit_not}
use Rattle.border_queues.specs.TileWork.{IsLeast}
use Rattle.tile_work.specs.Counts.{count_from}
use Rattle.tile_work.specs.TileSet.{Has, bit_of, tiles_of, is_without, IsInFirstOfWord, IsWordOf, AreZeroFrom}
use Rattle.tile_work.specs.TileSet.{IsLowestFrom, IsSummed}
use Rattle.tile_work.proofs.Counts.{count_alike}
use Rattle.tile_work.proofs.TileSets.{is_there, not_has_false}
use Rattle.tile_work.proofs.TileSetWords.{tile_bit}

-- ---- by a test

pub without_when : (one other : List Bool) (t : ℕ) → Has one t → (Has other t → ⊥) → is_without one other t ≡ true
without_when one other t has lacks = and_from _ _ has.1 (not_from_false _ (not_has_false other t lacks))

pub when_without : (one other : List Bool) (t : ℕ) → is_without one other t ≡ true → Has one t × (Has other t → ⊥)
when_without one other t both =
    let parts = and_parts (get_or one t false) (not (get_or other t false)) both in (
      is_there one t parts.0,
      λ has. both_ways (get_or other t false) (not-true _ parts.1) has.1,
    )

-- ---- one word

-- the bits that are set in a word and not in another
left_bit : (a b i : ℕ) → b < 2 ^ 64 → i < 64 → bit_at (bit_and a (bit_not w64 b)) i ≡ min (bit_at a i) (1 - bit_at b i)
left_bit a b i fits below = bit_at_and a (bit_not w64 b) i ∙ ap (min (bit_at a i)) (bit_at_not w64 b i fits below)

-- the same, as tests
left_test : (x y : ℕ) → x < 2 → y < 2 → (min x (1 - y) == 1) ≡ ((x == 1) && not (y == 1))
left_test zero zero few fewer = refl
left_test zero (suc zero) few fewer = refl
left_test (suc zero) zero few fewer = refl
left_test (suc zero) (suc zero) few fewer = refl
left_test zero (suc (suc y)) few fewer = absurd (omega arith)
left_test (suc zero) (suc (suc y)) few fewer = absurd (omega arith)
left_test (suc (suc x)) y few fewer = absurd (omega arith)

-- the word of a tile in each of two sets, as they are read
module _ (count count' : ℕ) (words summary words' summary' : List ℕ) (sound : IsSummed count words summary)
    (sound' : IsSummed count' words' summary') (counts : count' ≡ count) (tile a b : ℕ) (within : tile < count)
    (read : a ≡ get_or words (tile / 64) a) (read' : b ≡ get_or words' (tile / 64) b) (fits : b < 2 ^ 64) where
  a_is : a ≡ get_or words (tile / 64) 0
  a_is = read ∙ get_or_default words (tile / 64) a 0 (omega (arith, sound.word_count))

  b_is : b ≡ get_or words' (tile / 64) 0
  b_is = read' ∙ get_or_default words' (tile / 64) b 0 (omega (arith, sound'.word_count, counts))

  pub word_is : (one other : List Bool) → tiles_of count words ≡ one → tiles_of count' words' ≡ other
      → IsWordOf (is_without one other) tile (bit_and a (bit_not w64 b))
  word_is one other view view' bit below =
      let t = tile / 64 * 64 + bit in
      let word : t / 64 ≡ tile / 64 = omega arith in
      let index : t % 64 ≡ bit = omega arith in
      let here : bit_of words t ≡ bit_at a bit = rw (word, index) (ap (λ n. bit_at n bit) (sym a_is)) in
      let here' : bit_of words' t ≡ bit_at b bit = rw (word, index) (ap (λ n. bit_at n bit) (sym b_is)) in
      let has : get_or one t false ≡ (bit_at a bit == 1) =
      ap (λ (s : List Bool). get_or s t false) (sym view) ∙ tile_bit count words summary sound t
      ∙ ap (λ n. n == 1) here in
      let has' : get_or other t false ≡ (bit_at b bit == 1) =
      ap (λ (s : List Bool). get_or s t false) (sym view') ∙ tile_bit count' words' summary' sound' t
      ∙ ap (λ n. n == 1) here' in
      ap (λ n. n == 1) (left_bit a b bit fits below)
      ∙ left_test (bit_at a bit) (bit_at b bit) (bit_at-lt a bit) (bit_at-lt b bit)
      ∙ sym (ap (λ (x : Bool). x && not (get_or other t false)) has
      ∙ ap (λ (y : Bool). (bit_at a bit == 1) && not y) has')

-- the first tile of a word, by the words of what two sets lack
module _ (one other third : List Bool) (start a b : ℕ) (lacks : IsWordOf (is_without one other) start a)
    (lacks' : IsWordOf (is_without one third) start b) where
  set_when : (t : ℕ) → IsInFirstOfWord one other third start t → bit_at (bit_and a b) (t % 64) ≡ 1
  set_when t (same, has, out, out') =
      let below : t % 64 < 64 = omega arith in
      let place : start / 64 * 64 + t % 64 ≡ t = omega (arith, same) in
      let bit : bit_at a (t % 64) ≡ 1 =
      eqb-true _ 1 (lacks (t % 64) below ∙ ap (is_without one other) place ∙ without_when one other t has out) in
      let bit' : bit_at b (t % 64) ≡ 1 =
      eqb-true _ 1 (lacks' (t % 64) below ∙ ap (is_without one third) place ∙ without_when one third t has out') in
      bit_at_and a b (t % 64) ∙ omega (arith, bit, bit')

  when_set : (bit : ℕ) → bit < 64 → bit_at (bit_and a b) bit ≡ 1
      → IsInFirstOfWord one other third start (start / 64 * 64 + bit)
  when_set bit below set =
      let t = start / 64 * 64 + bit in
      let least : min (bit_at a bit) (bit_at b bit) ≡ 1 = sym (bit_at_and a b bit) ∙ set in
      let is_set : bit_at a bit ≡ 1 = omega (arith, least, bit_at-lt a bit, bit_at-lt b bit) in
      let is_set' : bit_at b bit ≡ 1 = omega (arith, least, bit_at-lt a bit, bit_at-lt b bit) in
      let alone = when_without one other t (sym (lacks bit below) ∙ eq-eqb _ 1 is_set) in
      let alone' = when_without one third t (sym (lacks' bit below) ∙ eq-eqb _ 1 is_set') in
      (omega arith, alone.0, alone.1, alone'.1)

  pub none_of_word : AreZeroFrom (bit_at (bit_and a b)) (start % 64) → (t : ℕ) → start ≤ t
      → IsInFirstOfWord one other third start t → ⊥
  none_of_word zeros t le is =
      let same = is.0 in
      omega (arith, set_when t is, zeros (t % 64) (omega (arith, le, same)))

  pub first_of_word : (bit : ℕ) → IsLowestFrom (bit_at (bit_and a b)) (start % 64) bit → bit < 64
      → IsLeast (λ t. (start ≤ t) × IsInFirstOfWord one other third start t) (start / 64 * 64 + bit)
  first_of_word bit found below = (
    (let from = found.from in omega (arith, from), when_set bit below found.bit),
    λ u (le, is).
        let same = is.0 in
        let lowest = found.lowest (u % 64) (omega (arith, le, same)) (set_when u is) in
        omega (arith, same, lowest),
  )

-- the tiles of a stretch of one word, by its bits from the first of them on
pub count_of_bits : (one other : List Bool) (start word tiles : ℕ) → IsWordOf (is_without one other) start word
    → start % 64 + tiles ≤ 64
    → count_from (λ bit. bit_at (word / 2 ^ (start % 64)) bit == 1) 0 tiles
    ≡ count_from (is_without one other) start tiles
count_of_bits one other start word tiles says within =
    count_alike (λ bit. bit_at (word / 2 ^ (start % 64)) bit == 1) (is_without one other) 0 start tiles
    (λ k below.
    let low : 0 + k ≡ k = omega arith in
    let bit : bit_at (word / 2 ^ (start % 64)) k ≡ bit_at word (start % 64 + k) =
    ap (λ n. n % 2) (shr-shr word (start % 64) k) in
    let place : start / 64 * 64 + (start % 64 + k) ≡ start + k = omega arith in
    ap (λ n. bit_at (word / 2 ^ (start % 64)) n == 1) low ∙ ap (λ n. n == 1) bit
    ∙ says (start % 64 + k) (omega arith) ∙ ap (is_without one other) place)

-- ---- word after word

-- no tile from `start` up to `from` is in the one set alone
abbrev pub AreNoneUntil : List Bool → List Bool → List Bool → ℕ → ℕ → Type 0
AreNoneUntil one other third start from =
    (t : ℕ) → start ≤ t → t < from → Has one t × (Has other t → ⊥) × (Has third t → ⊥) → ⊥
