use Rattle.std.proofs.{Common.sym, Common.subst, lemmas.Result.err_from_is_err_and}
use Rattle.byte_devices.specs.Transfer.{IsInputOf}
use Rattle.view_session.proofs.Runs.{unread, unanswered, unwritten, written}
use Rattle.view_session.proofs.answering.respond.Goals as goal

pub returns-in_err-input : goal.returns-in_err-input
returns-in_err-input g c =
    let p = err_from_is_err_and c.from_residual.result c.from_residual.ensures.1 in
    rw (p.1, p.2) (unread _ _ _ _ _ _ _ c.in_err-input.field-0.0 c.in_err-input.ensures.only
    c.in_err-input.ensures.to_end)

pub returns-in_err-value : goal.returns-in_err-value
returns-in_err-value g c =
    let p = err_from_is_err_and c.from_residual-in_err-value.result c.from_residual-in_err-value.ensures.1 in
    let known = subst (IsInputOf _) (sym c.deref.ensures.value) c.in_ok-input.ensures.bytes in
    rw (p.1, p.2) (unanswered _ _ _ _ _ _ _ c.deref.result.now c.in_ok-input.input known c.in_ok-input.ensures.to_end
    c.in_err-value.field-0.0 c.in_err-value.ensures.refused c.in_err-value.ensures.no_device)

pub returns-in_err-write_to : goal.returns-in_err-write_to
returns-in_err-write_to g c =
    let p = err_from_is_err_and c.from_residual-in_err-write_to.result c.from_residual-in_err-write_to.ensures.1 in
    let known = subst (IsInputOf _) (sym c.deref.ensures.value) c.in_ok-input.ensures.bytes in
    rw (p.1, p.2) (unwritten _ _ _ _ _ _ _ c.deref.result.now c.in_ok-input.input known c.in_ok-input.ensures.to_end
    c.in_ok-value.value c.in_ok-value.image c.in_ok-value.ensures.answered _ c.in_err-write_to.field-0.0
    c.in_err-write_to.ensures)

pub returns : goal.returns
returns g c =
    let known = subst (IsInputOf _) (sym c.deref.ensures.value) c.in_ok-input.ensures.bytes in
    written _ _ _ _ _ _ _ c.deref.result.now c.in_ok-input.input known c.in_ok-input.ensures.to_end
    c.in_ok-value.value c.in_ok-value.image c.in_ok-value.ensures.answered _ _ c.in_ok-write_to.ensures
