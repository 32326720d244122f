-- What the tactics leave open of `clear_words`.
use Rattle.std.proofs.Common.{◌≡◌, ℕ, ◌+◌, ◌*◌, ◌/◌, ◌%◌, ◌<◌, ◌≤◌, List, length, set, refl, sym, ap, ◌∙◌, inl, inr}
use Rattle.std.proofs.Common.{arith, length-set, get_or, get_or-set_same, get_or-set_other}
use Rattle.std.proofs.lemmas.{Bool.cases_eq, Bool.cases_lt, Nat.Bits.bit_at-lt}
use Rattle.std.specs.Int.{bit_at}
use Rattle.tile_work.specs.TileSet.{AreZeroFrom, IsLowestFrom, bit_of}
use Rattle.tile_work.proofs.TileSetWords.{none_in_zero, none_past}
use Rattle.tile_work.proofs.tile_set.clear_words.Goals as goal

-- bits are set from this word on alone, and only in words that the summary has
abbrev AreLeft : List ℕ → List ℕ → ℕ → Type 0
AreLeft words summary from =
    (place : ℕ) → bit_of words place ≡ 1 → (from ≤ place / 64) × (bit_of summary (place / 64) ≡ 1)

place_within : (words : List ℕ) (place : ℕ) → bit_of words place ≡ 1 → place < 64 * length words
place_within words place is_set = elim (cases_lt place (64 * length words)) [
  | inl within ↦ within
  | inr past ↦ absurd (omega (arith, none_past words place (omega (arith, past))))
]

-- one more word is cleared
one_cleared : (words summary : List ℕ) (from word : ℕ) → IsLowestFrom (bit_of summary) from word
    → AreLeft words summary from → word < length words → AreLeft (set words word 0) summary (word + 1)
one_cleared words summary from word first left within place is_set = elim (cases_eq (place / 64) word) [
  | inl same ↦
      absurd (omega (
        arith,
        none_in_zero (set words word 0) place
            (ap (λ n. get_or (set words word 0) n 0) same ∙ get_or-set_same words word 0 0 within),
      ))
  | inr apart ↦
      let still : bit_of words place ≡ 1 =
      sym (ap (λ n. bit_at n (place % 64)) (get_or-set_other words word (place / 64) 0 0 apart)) ∙ is_set in
      let (above, summed) = left place still in
      (omega (arith, first.lowest (place / 64) above summed, apart), summed)
]

none_left : (words summary : List ℕ) (from : ℕ) → AreZeroFrom (bit_of summary) from → AreLeft words summary from
    → (place : ℕ) → bit_of words place ≡ 0
none_left words summary from none left place = elim (cases_eq (bit_of words place) 0) [
  | inl clear ↦ clear
  | inr some ↦
      let is_set : bit_of words place ≡ 1 =
      omega (arith, bit_at-lt (get_or words (place / 64) 0) (place % 64), some) in
      absurd (omega (arith, (left place is_set).1, none (place / 64) (left place is_set).0))
]

pub loop-word-init : goal.loop-word-init
loop-word-init c = (refl, λ place is_set. (omega arith, c.requires.summed place is_set))

pub lowest_place-requires : goal.lowest_place-requires
lowest_place-requires c = c.requires.count

pub bounds-words-word : goal.bounds-words-word
bounds-words-word c =
    omega (arith, c.requires.within c.in-Some.word c.in-Some.ensures.bit, c.loop-word.invariant.0)

pub overflow_add-from : goal.overflow_add-from
overflow_add-from c =
    omega (arith, place_within c.args.summary.now c.in-Some.word c.in-Some.ensures.bit, c.requires.count)

pub loop-word-smaller : goal.loop-word-smaller
loop-word-smaller c =
    omega (arith, place_within c.args.summary.now c.in-Some.word c.in-Some.ensures.bit, c.in-Some.ensures.from)

pub loop-word-preserved : goal.loop-word-preserved
loop-word-preserved c =
    let within : c.in-Some.word < length c.loop-word.words =
    omega (arith, c.requires.within c.in-Some.word c.in-Some.ensures.bit, c.loop-word.invariant.0) in (
      length-set c.loop-word.words c.in-Some.word 0 ∙ c.loop-word.invariant.0,
      one_cleared c.loop-word.words c.args.summary.now c.loop-word.from c.in-Some.word c.in-Some.ensures
          c.loop-word.invariant.1 within,
    )

pub returns : goal.returns
returns c =
    none_left c.loop-word.words c.args.summary.now c.loop-word.from c.in_default.ensures c.loop-word.invariant.1
