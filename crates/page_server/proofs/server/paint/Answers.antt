use Rattle.std.proofs.lemmas.Result.{IfErr-weaker, err_from_is_err_and, on_ok_weaker}
use Rattle.page_server.proofs.Servings.{ended_not_served, kept_on, not_told_not_served}
use Rattle.page_server.proofs.server.paint.Goals as goal

pub returns-in_err-opened : goal.returns-in_err-opened
returns-in_err-opened g c =
    let p = err_from_is_err_and c.from_residual.result c.from_residual.ensures.1 in
    rw (p.1, p.2) record { served = tt; refused = c.in_err-opened.ensures.refused }

pub returns-in-Err-clause-refused : goal.returns-in-Err-clause-refused
returns-in-Err-clause-refused g c =
    let held = (g.T.StateStore.seen c.args.store).held in
    not_told_not_served c.args.call.conn held c.args.call.file c.in-Err.why c.in-Err.ensures.refused

pub returns-in-Ok-clause-served : goal.returns-in-Ok-clause-served
returns-in-Ok-clause-served g c =
    let site = c.in-Ok.site in
    on_ok_weaker c.serve.result
    (λ was. (
      site,
      c.in_ok-opened.opened.board,
      c.in_ok-opened.opened.kept.items,
      _,
      c.opened_for.ensures.files,
      c.in-Ok.ensures.told,
      c.in-Ok.ensures.named,
      c.in_ok-opened.ensures.opened,
      c.in_ok-opened.ensures.kept,
      was,
    ))
    c.serve.ensures.served

pub returns-in-Ok-clause-refused : goal.returns-in-Ok-clause-refused
returns-in-Ok-clause-refused g c =
    let held = (g.T.StateStore.seen c.args.store).held in
    IfErr-weaker c.serve.result _ _ (ended_not_served c.args.call.conn held c.args.call.file) c.serve.ensures.ended

pub serve-requires-clause-kept : goal.serve-requires-clause-kept
serve-requires-clause-kept g c =
    λ lifetimes outlived.
    kept_on (g.T.StateStore.seen c.args.store).held _ c.args.call.file _ _ c.opened_for.ensures.files
    c.in_ok-opened.ensures.kept
