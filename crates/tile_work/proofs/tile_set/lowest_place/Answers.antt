-- What the tactics leave open of `lowest_place`.
use Rattle.std.proofs.Common.{◌≡◌, ℕ, ◌+◌, ◌/◌, ◌<◌, ◌≤◌, List, length, get_or, ap, ◌∙◌, inl, inr, arith}
use Rattle.std.proofs.lemmas.Bool.{cases_eq, cases_lt}
use Rattle.tile_work.specs.TileSet.{bit_of}
use Rattle.tile_work.proofs.TileSetWords.{lowest_in_first, lowest_in_later, none_in_first, none_in_zero, none_past}
use Rattle.tile_work.proofs.tile_set.lowest_place.Goals as goal

-- no bit is set from the start up to this word
abbrev AreClearUpto : List ℕ → ℕ → ℕ → Type 0
AreClearUpto words start next = (place : ℕ) → start ≤ place → place / 64 < next → bit_of words place ≡ 0

clear_more : (words : List ℕ) (start next : ℕ) → get_or words next 0 ≡ 0 → AreClearUpto words start next
    → AreClearUpto words start (next + 1)
clear_more words start next none clear place le below = elim (cases_eq (place / 64) next) [
  | inl same ↦ none_in_zero words place (ap (λ n. get_or words n 0) same ∙ none)
  | inr other ↦ clear place le (omega arith)
]

clear_all : (words : List ℕ) (start next : ℕ) → length words ≤ next → AreClearUpto words start next
    → (place : ℕ) → start ≤ place → bit_of words place ≡ 0
clear_all words start next end clear place le = elim (cases_lt (place / 64) next) [
  | inl before ↦ clear place le before
  | inr past ↦ none_past words place (omega arith)
]

clear_past : (words : List ℕ) (start : ℕ) → length words ≤ start / 64 → (place : ℕ) → start ≤ place
    → bit_of words place ≡ 0
clear_past words start past place le = none_past words place (omega arith)

pub returns-then-word-words : goal.returns-then-word-words
returns-then-word-words c = clear_past c.args.words.now c.args.start c.if-word-words.true

pub returns-in-Some : goal.returns-in-Some
returns-in-Some c =
    lowest_in_first c.args.words.now c.args.start c.in-Some.bit c.in-Some.ensures.set c.in-Some.ensures.within

pub loop-next-init : goal.loop-next-init
loop-next-init c = none_in_first c.args.words.now c.args.start c.in_default.ensures.set

pub returns-then-words-next-ne0 : goal.returns-then-words-next-ne0
returns-then-words-next-ne0 c =
    let next = c.loop-next.next in
    lowest_in_later c.args.words.now c.args.start next (omega arith) c.if-words-next-ne0.true
    (c.type_inv.words next).fits
    c.loop-next.invariant

pub loop-next-preserved : goal.loop-next-preserved
loop-next-preserved c =
    clear_more c.args.words.now c.args.start c.loop-next.next c.if-words-next-ne0.false c.loop-next.invariant

pub returns : goal.returns
returns c =
    clear_all c.args.words.now c.args.start c.loop-next.next c.loop-next-test.false c.loop-next.invariant
