use Rattle.std.proofs.{Common.rules, lemmas.Fn.All-from_retain}
use Rattle.page_server.specs.Hall.{IsWaiting}
use Rattle.page_server.proofs.hall.Hall.sweep.Goals as goal

pub returns-clause-waiting : goal.returns-clause-waiting
returns-clause-waiting g c =
    All-from_retain _ (IsWaiting c.args.now) _ (λ x b f' k. search rules) _ _ c.retain.ensures.filtered
