use Rattle.std.proofs.lemmas.Result.{err_from_is_err_and}
use Rattle.command_line.proofs.{Calls.reads_no_more, Subcommands.small_h}
use Rattle.command_line.proofs.words.h_of.Goals as goal

pub returns-in_err-h : goal.returns-in_err-h
returns-in_err-h c =
    let p = err_from_is_err_and c.from_residual.result c.from_residual.ensures.1 in
    rw (p.1, p.2, c.in-Some.is) (reads_no_more _ _ c.in_err-h.field-0.0 c.in_err-h.ensures
    (λ none h is. none h (small_h h is.1, is.0)))
