use Rattle.std.proofs.Common.{rules}
use Rattle.std.proofs.lemmas.Result.{err_from_is_err_and}
use Rattle.seedpaint_c.proofs.Viewed.{answers_bytes, stops_at_bytes, kept_ends}
use Rattle.seedpaint_c.proofs.viewing.keep.Goals as goal

pub returns-in_err-new-clause-ended : goal.returns-in_err-new-clause-ended
returns-in_err-new-clause-ended c =
    let p = err_from_is_err_and c.from_residual-in_err-new.result c.from_residual-in_err-new.ensures.1 in
    let e = c.in_err-new.field-0.0 in
    rw (p.1, p.2) (kept_ends c.args.conn c.args.old.now c.args.input.now e
    (stops_at_bytes _ _ c.args.input.now _ _ _ _ _ _ c.in_ok-source.ensures.source c.new-sink.ensures e
    (c.in_err-new.ensures.answered (search rules))))

pub returns-clause-shown : goal.returns-clause-shown
returns-clause-shown c =
    answers_bytes _ _ c.args.input.now _ _ _ _ _ _ c.in_ok-source.ensures.source c.new-sink.ensures _
    (c.in_ok-new.ensures.answered (search rules))
