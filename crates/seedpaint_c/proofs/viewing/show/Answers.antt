use Rattle.std.proofs.lemmas.Result.{err_from_is_err_and}
use Rattle.stroke_lattice.specs.State.{nothing}
use Rattle.seedpaint_c.proofs.Viewed.{answers_bytes, stops_at_bytes, view_ends}
use Rattle.seedpaint_c.proofs.viewing.show.Goals as goal

pub returns-in_err-view_run-clause-ended : goal.returns-in_err-view_run-clause-ended
returns-in_err-view_run-clause-ended c =
    let p = err_from_is_err_and c.from_residual-in_err-view_run.result c.from_residual-in_err-view_run.ensures.1 in
    let e = c.in_err-view_run.field-0.0 in
    rw (p.1, p.2) (view_ends nothing c.args.input.now e
    (stops_at_bytes _ _ c.args.input.now _ _ _ _ _ _ c.in_ok-source.ensures.source c.new-sink.ensures e
    c.in_err-view_run.ensures))

pub returns-clause-shown : goal.returns-clause-shown
returns-clause-shown c =
    answers_bytes _ _ c.args.input.now _ _ _ _ _ _ c.in_ok-source.ensures.source c.new-sink.ensures _
    c.in_ok-view_run.ensures
