use Rattle.std.proofs.Common.{sym, ◌∙◌, length, arith}
use Rattle.edit_lang.proofs.Cutting.{blank_found}
use Rattle.edit_lang.proofs.words.word_len.Goals as goal

pub returns-then-is_blank : goal.returns-then-is_blank
returns-then-is_blank c = blank_found c.args.line.now c.loop-i.i (omega (arith, c.loop-i-test.true))
    c.loop-i.invariant (λ _. sym c.is_blank.ensures ∙ c.if-is_blank.true)

pub returns : goal.returns
returns c = blank_found c.args.line.now (length c.args.line.now) (omega arith) (λ k m. c.loop-i.invariant k (omega
    (arith, m, c.loop-i-test.false))) (λ m. absurd (omega (arith, m)))
