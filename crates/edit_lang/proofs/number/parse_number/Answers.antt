use Rattle.std.proofs.Common.{length, sym, ◌∙◌, arith}
use Rattle.std.proofs.{lemmas.Bool.eqb-true, lemmas.Bool.eqb-false, lemmas.List.Folds.list_all_at}
use Rattle.std.specs.Char.{is_ascii_digit}
use Rattle.edit_lang.proofs.Digits.{no_digits, many_digits, wrong_byte, is_value}
use Rattle.edit_lang.proofs.number.parse_number.Goals.{then-is_empty-via-then-is_empty}
use Rattle.edit_lang.proofs.number.parse_number.Goals.{then-is_empty-via-else-is_empty+then-word-gt-MAX_DIGITS}
use Rattle.edit_lang.proofs.number.parse_number.Goals as goal

pub returns-then-is_empty : goal.returns-then-is_empty
returns-then-is_empty c =
    elim c.then-is_empty.branch [
      | then-is_empty-via-then-is_empty w ↦ no_digits c.args.word.now (eqb-true _ 0 (sym c.is_empty.ensures
          ∙ w.if-is_empty.true))
      | then-is_empty-via-else-is_empty+then-word-gt-MAX_DIGITS w ↦ many_digits c.args.word.now
          w.if-word-gt-MAX_DIGITS.true
    ]

pub returns-then-not-is_ascii_digit : goal.returns-then-not-is_ascii_digit
returns-then-not-is_ascii_digit c =
    wrong_byte c.args.word.now (list_all_at is_ascii_digit c.args.word.now c.loop-byte.byte-index 0
    c.loop-byte-test.true
    (sym c.is_ascii_digit.ensures.value ∙ c.if-not-is_ascii_digit.true))

pub returns : goal.returns
returns c =
    let word = c.args.word.now in
    let filled = eqb-false (length word) 0 (sym c.is_empty.ensures ∙ c.if-is_empty.false) in
    is_value word c.loop-byte.byte-index c.loop-byte.value (omega (arith, filled)) c.if-word-gt-MAX_DIGITS.false
    c.loop-byte-test.false
    c.loop-byte.invariant.digits c.loop-byte.invariant.value
