-- What the tactics leave open of `take_edits`.
use Rattle.std.proofs.lemmas.Result.{err_from_is_err_and}
use Rattle.page_board.proofs.Together.{text_is_refused, text_is_taken}
use Rattle.page_board.proofs.board.PageBoard.take_edits.Goals as goal

pub returns-in_err-take_delta-clause-refused : goal.returns-in_err-take_delta-clause-refused
returns-in_err-take_delta-clause-refused c =
    let p = err_from_is_err_and c.from_residual-in_err-take_delta.result c.from_residual-in_err-take_delta.ensures.1 in
    rw (p.1, p.2) (text_is_refused c.args.self.now c.in_ok-lines.lines.items c.in_ok-all.all (record {
      read = c.deref.result.now;
      same = c.deref.ensures.value;
      size = c.size-width.result;
      size_is = c.size-width.ensures;
      merged = c.in_ok-all.ensures.merged;
    }) c.args.text.now c.in_err-take_delta.field-0.0 c.in_ok-lines.ensures.spelled
    c.in_err-take_delta.ensures.refused)

pub returns-clause-taken : goal.returns-clause-taken
returns-clause-taken c =
    text_is_taken c.args.self.now c.in_ok-lines.lines.items c.in_ok-all.all (record {
      read = c.deref.result.now;
      same = c.deref.ensures.value;
      size = c.size-width.result;
      size_is = c.size-width.ensures;
      merged = c.in_ok-all.ensures.merged;
    }) c.args.text.now c.take_delta.new.self c.in_ok-lines.ensures.spelled c.in_ok-take_delta.ensures.taken
