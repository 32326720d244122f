-- What the tactics leave open of `kept_for`.
use Rattle.std.proofs.lemmas.Result.{err_from_is_err_and}
use Rattle.stroke_lattice.specs.State.{StateFits}
use Rattle.view_session.proofs.Deltas.{join_fits, resized}
use Rattle.page_board.proofs.OpenedKept.{bytes_refused}
use Rattle.page_board.proofs.board.opening.kept_for.Goals as goal

pub returns-in_err-frames-clause-refused : goal.returns-in_err-frames-clause-refused
returns-in_err-frames-clause-refused c =
    let p = err_from_is_err_and c.from_residual.result c.from_residual.ensures.1 in
    rw (p.1, p.2) (bytes_refused c.args.conn c.print_of-print.result c.args.old.now c.args.mask
    c.in_err-frames.field-0.0 c.print_of-print.ensures c.in_err-frames.ensures.refused)

pub returns-clause-fits : goal.returns-clause-fits
returns-clause-fits c =
    resized (λ w h. StateFits w h c.in_ok-state.state) c.width.result c.args.mask.raster.width c.height.result
    c.args.mask.raster.height c.width.ensures.value c.height.ensures.value
    (join_fits c.width.result c.height.result _ c.in_ok-state.state c.in_ok-state.ensures.merged)
