-- What the tactics leave open of `opened_for`.
use Rattle.std.proofs.{Common.inr, lemmas.Result.IfErr-weaker, lemmas.Result.IfOk-weaker}
use Rattle.page_server.proofs.Servings.{not_told_not_served, not_opened_not_served}
use Rattle.page_server.proofs.server.opened_for.Goals as goal

pub returns-in-Err-clause-refused : goal.returns-in-Err-clause-refused
returns-in-Err-clause-refused g c =
    let held = (g.T.StateStore.seen c.args.store.now).held in
    not_told_not_served c.args.call.now.conn held c.args.call.now.file c.in-Err.why (inr (inr c.in-Err.ensures))

pub returns-clause-opened : goal.returns-clause-opened
returns-clause-opened g c =
    IfOk-weaker c.open_board.result _ _ (λ opened from. record {
      run = c.in-Ok.run';
      some = c.in-Ok.ensures.some;
      small = c.in-Ok.ensures.small;
      input = from.0;
      opened = from.2;
    }) c.open_board.ensures.opened

pub returns-clause-kept : goal.returns-clause-kept
returns-clause-kept g c =
    IfOk-weaker c.open_board.result _ _
    (λ opened kept. record { is_held = kept.0; keeps = kept.1; had = kept.2 }) c.open_board.ensures.kept

pub returns-clause-refused : goal.returns-clause-refused
returns-clause-refused g c =
    let held = (g.T.StateStore.seen c.args.store.now).held in
    IfErr-weaker c.open_board.result _ _
    (λ e why. not_opened_not_served c.args.call.now.conn held c.args.call.now.file _ e why) c.open_board.ensures.refused
