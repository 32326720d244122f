-- What the tactics leave open of `take_file`.
use Rattle.std.proofs.Common.{[], ◌++◌, ap, ◌∙◌, append-nil}
use Rattle.std.proofs.lemmas.Result.{err_from_is_err_and}
use Rattle.view_session.specs.Kept.{deltas_of, print_of}
use Rattle.page_board.specs.Board.{PageBoard, mask_of}
use Rattle.page_board.proofs.{Keeping.taken_has_all, Later.each_is_later, Together.file_is_refused}
use Rattle.page_board.proofs.Together.{file_is_taken}
use Rattle.page_board.proofs.board.PageBoard.take_file.Goals as goal

pub returns-in_err-take_delta-clause-refused : goal.returns-in_err-take_delta-clause-refused
returns-in_err-take_delta-clause-refused c =
    let p = err_from_is_err_and c.from_residual-in_err-take_delta.result c.from_residual-in_err-take_delta.ensures.1 in
    rw (p.1, p.2) (file_is_refused c.args.self.now (deltas_of c.in_ok-frames.frames.items) c.in_ok-all.all (record {
      read = deltas_of c.deref.result.now ++ [];
      same = append-nil (deltas_of c.deref.result.now) ∙ ap deltas_of c.deref.ensures.value;
      size = c.size-width.result;
      size_is = c.size-width.ensures;
      merged = c.in_ok-all.ensures.merged;
    }) c.conn.result c.self.inside.print c.args.bytes.now
    (c.conn.ensures ∙ ap (λ (b : PageBoard). b.core.conn) c.self.view_is)
    (c.self.invariant.print ∙ ap (λ (b : PageBoard). print_of (mask_of b)) c.self.view_is)
    c.in_ok-frames.ensures.spelled c.in_err-take_delta.field-0.0 c.in_err-take_delta.ensures.refused)

pub returns-clause-taken : goal.returns-clause-taken
returns-clause-taken c =
    file_is_taken c.args.self.now (deltas_of c.in_ok-frames.frames.items) c.in_ok-all.all (record {
      read = deltas_of c.deref.result.now ++ [];
      same = append-nil (deltas_of c.deref.result.now) ∙ ap deltas_of c.deref.ensures.value;
      size = c.size-width.result;
      size_is = c.size-width.ensures;
      merged = c.in_ok-all.ensures.merged;
    }) c.conn.result c.self.inside.print c.args.bytes.now
    (c.conn.ensures ∙ ap (λ (b : PageBoard). b.core.conn) c.self.view_is)
    (c.self.invariant.print ∙ ap (λ (b : PageBoard). print_of (mask_of b)) c.self.view_is)
    c.in_ok-frames.ensures.spelled c.take_delta.new.self c.in_ok-take_delta.ensures.taken

pub returns-clause-has_all : goal.returns-clause-has_all
returns-clause-has_all c =
    taken_has_all c.args.self.now c.take_delta.new.self c.args.bytes.now (returns-clause-taken c)
    c.in_ok-take_delta.ensures.later

pub returns-in_err-frames-clause-later : goal.returns-in_err-frames-clause-later
returns-in_err-frames-clause-later c = each_is_later c.args.self.now

pub returns-in_err-all-clause-later : goal.returns-in_err-all-clause-later
returns-in_err-all-clause-later c = each_is_later c.args.self.now

pub returns-in_err-take_delta-clause-later : goal.returns-in_err-take_delta-clause-later
returns-in_err-take_delta-clause-later c = c.take_delta.ensures.later

pub returns-clause-later : goal.returns-clause-later
returns-clause-later c = c.take_delta.ensures.later
