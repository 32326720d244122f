use Rattle.std.proofs.Common.{◌<◌, List, length, inl, inr, rules, sym, subst}
use Rattle.std.proofs.lemmas.Result.{err_from_is_err_and}
use Rattle.spd_codec.specs.declared.frame.Frame.{Frame}
use Rattle.spd_codec.proofs.Files.{IsRead, one_more_read, some_bytes, stopped}
use Rattle.spd_codec.proofs.state_file.read_each.Goals as goal

pub returns-in_err-frame-clause-fault : goal.returns-in_err-frame-clause-fault
returns-in_err-frame-clause-fault c =
    let p = err_from_is_err_and c.from_residual.result c.from_residual.ensures.1 in
    rw (p.1, p.2) (elim c.in_err-frame.ensures.fault [
      | inl e ↦ inl e
      | inr fault ↦ inr (stopped c.args.bytes.now c.loop-rest.frames.items c.loop-rest.rest.now c.in_err-frame.field-0.0
          fault c.loop-rest.invariant)
    ])

pub returns-in_err-frame-clause-some : goal.returns-in_err-frame-clause-some
returns-in_err-frame-clause-some c = λ _.
    let left : 0 < length c.loop-rest.rest.now = search rules in
    some_bytes c.args.bytes.now c.loop-rest.frames.items c.loop-rest.rest.now left c.loop-rest.invariant

pub returns-in_err-push-clause-some : goal.returns-in_err-push-clause-some
returns-in_err-push-clause-some c = λ _.
    let left : 0 < length c.loop-rest.rest.now = search rules in
    some_bytes c.args.bytes.now c.loop-rest.frames.items c.loop-rest.rest.now left c.loop-rest.invariant

pub loop-rest-preserved : goal.loop-rest-preserved
loop-rest-preserved c =
    subst (λ (frames : List Frame). IsRead c.args.bytes.now frames c.in_ok-frame.after.now)
    (sym c.in_ok-push.ensures.items)
    (one_more_read c.args.bytes.now c.loop-rest.frames.items c.loop-rest.rest.now c.in_ok-frame.frame
    c.in_ok-frame.after.now c.in_ok-frame.ensures.found c.loop-rest.invariant)
