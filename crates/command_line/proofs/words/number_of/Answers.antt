use Rattle.std.proofs.Common.{◌≡◌, ℕ, Ok, Result, Bool, false, IsTrue, rules, arith, decimal, sym, ap, ◌∙◌, inl, refl}
use Rattle.std.proofs.lemmas.Fmt.{parse-decimal}
use Rattle.command_line.proofs.Calls.{reads_none}
use Rattle.command_line.proofs.words.number_of.Goals as goal

one_value : {E : Type 0} (a b : ℕ) → ◌≡◌ {A = Result ℕ E} (Ok a) (Ok b) → a ≡ b
one_value a b same = cc

untrue : (b : Bool) → b ≡ false → IsTrue b → ⊥
untrue b is holds = search rules

pub returns-in_default : goal.returns-in_default
returns-in_default c =
    reads_none _ _ (inl refl) (λ usage n read. c.in_default.not-Ok n (parse-decimal 32 n c.args.text.now
    c.parse.result read.0 (omega (arith, read.0)) read.1 c.parse.ensures.value.0))

pub returns : goal.returns
returns c =
    reads_none _ _ (inl refl) (λ usage n said.
    let read = parse-decimal 32 n c.args.text.now c.parse.result said.0 (omega (arith, said.0)) said.1
    c.parse.ensures.value.0 in
    let same : n ≡ c.in-Ok.n = one_value n c.in-Ok.n (sym read ∙ c.in-Ok.is) in
    untrue _ c.if-branch.false (c.in_ok-is_decimal.ensures.1 (said.1 ∙ ap decimal same)))
