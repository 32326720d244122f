use Rattle.std.proofs.Common.{List, ap, length, ℕ, ◌∙◌}
use Rattle.std.proofs.lemmas.{Bool.false≢true, Result.IfOk-from_err}
use Rattle.live_board.proofs.Stepping.{opens_at}
use Rattle.live_board.proofs.opening.lay.Goals as goal

pub of_words-requires : goal.of_words-requires
of_words-requires c = opens_at c.args.base c.deref.result.now (length c.samples.result.now)
    (ap (λ (l : List ℕ). length l) c.samples.ensures.value ∙ c.samples.ensures.is_graymap.sized.filled)
    (c.deref.ensures.value ∙ c.in_ok-words.ensures) c.requires.first

pub returns-in_err-marker-clause-base : goal.returns-in_err-marker-clause-base
returns-in_err-marker-clause-base c = IfOk-from_err _ _ c.from_residual.ensures.0

pub returns-in_err-marker-clause-keeper : goal.returns-in_err-marker-clause-keeper
returns-in_err-marker-clause-keeper c = IfOk-from_err _ _ c.from_residual.ensures.0

pub returns-in_err-marker-clause-knows : goal.returns-in_err-marker-clause-knows
returns-in_err-marker-clause-knows c = IfOk-from_err _ _ c.from_residual.ensures.0

pub returns-in_err-words-clause-base : goal.returns-in_err-words-clause-base
returns-in_err-words-clause-base c = IfOk-from_err _ _ c.from_residual-in_err-words.ensures.0

pub returns-in_err-words-clause-keeper : goal.returns-in_err-words-clause-keeper
returns-in_err-words-clause-keeper c = IfOk-from_err _ _ c.from_residual-in_err-words.ensures.0

pub returns-in_err-words-clause-knows : goal.returns-in_err-words-clause-knows
returns-in_err-words-clause-knows c = IfOk-from_err _ _ c.from_residual-in_err-words.ensures.0

pub returns-in_err-table-clause-base : goal.returns-in_err-table-clause-base
returns-in_err-table-clause-base c = IfOk-from_err _ _ c.from_residual-in_err-table.ensures.0

pub returns-in_err-table-clause-keeper : goal.returns-in_err-table-clause-keeper
returns-in_err-table-clause-keeper c = IfOk-from_err _ _ c.from_residual-in_err-table.ensures.0

pub returns-in_err-table-clause-knows : goal.returns-in_err-table-clause-knows
returns-in_err-table-clause-knows c = IfOk-from_err _ _ c.from_residual-in_err-table.ensures.0

pub invariant_of-keeper-clause-known : goal.invariant_of-keeper-clause-known
invariant_of-keeper-clause-known c = ∣ (λ yes. absurd (false≢true yes)) ∣₁
