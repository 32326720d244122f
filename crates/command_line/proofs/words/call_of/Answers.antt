use Rattle.std.proofs.Common.{rules, subst, sym, codes}
use Rattle.clap.specs.Words.{found_of, rows_of}
use Rattle.command_line.specs.Words.{IsCall, Reads}
use Rattle.command_line.proofs.Subcommands.{named_rows}
use Rattle.command_line.proofs.words.call_of.Goals as goal

pub returns-in-Some : goal.returns-in-Some
returns-in-Some c =
    let rows = rows_of (found_of c.in-Some.view.now) in
    let named = named_rows c.args.matches.now (codes "view") rows (search rules) c.in-Some.ensures.rows in
    subst (λ found. Reads (IsCall found) c.view_of.result) (sym named) c.view_of.ensures
