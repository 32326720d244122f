use Rattle.std.proofs.Common.{◌∙◌, sym, ap, refl, length, ◌<◌, ◌≤◌, arith}
use Rattle.std.proofs.lemmas.Bool.{eqb-true, eqb-false}
use Rattle.std.proofs.{lemmas.List.nil_from_length, lemmas.List.Sums.prefix_len-le-length}
use Rattle.edit_lang.specs.Lines.{words_of}
use Rattle.edit_lang.proofs.Cutting.{words_first, words-nil}
use Rattle.edit_lang.proofs.words.first_word.Goals as goal

pub returns-then-is_empty : goal.returns-then-is_empty
returns-then-is_empty c =
    let empty = nil_from_length c.without_blanks-rest.result.now (eqb-true _ 0 (sym c.is_empty.ensures
    ∙ c.if-is_empty.true)) in
    sym c.without_blanks-rest.ensures.words ∙ ap words_of empty ∙ words-nil

pub split_at-requires : goal.split_at-requires
split_at-requires c = rw c.word_len.ensures (prefix_len-le-length _ c.without_blanks-rest.result.now)

pub returns : goal.returns
returns c =
    let rest = c.without_blanks-rest.result.now in
    let filled = eqb-false (length rest) 0 (sym c.is_empty.ensures ∙ c.if-is_empty.false) in
    let within : c.word_len.result ≤ length rest = rw c.word_len.ensures (prefix_len-le-length _ rest) in
    let some : 0 < c.word_len.result = rw c.word_len.ensures (c.without_blanks-rest.ensures.front (omega (
      arith,
      filled,
    ))) in
    let first = words_first rest c.word_len.result c.word_len.ensures some within in
    let front = c.split_at.ensures.front in
    let back = c.split_at.ensures.back in
    sym c.without_blanks-rest.ensures.words ∙ first ∙ sym (rw (front, back) refl)
