use Rattle.std.proofs.Common.{refl, sym, subst}
use Rattle.page_server.specs.Turning.{IsPageConfig}
use Rattle.page_server.proofs.Turnings.{lets_none_in, lets_one_in}
use Rattle.page_server.proofs.server.Server.admit.Goals as goal

pub returns-in-Ok : goal.returns-in-Ok
returns-in-Ok g c =
    lets_one_in c.args.now c.args.self.now c.args.caller c.new-connection.result c.admit.new.self c.admit.result
    c.requires
    (subst IsPageConfig (sym c.new-connection.ensures.config)
    (record { body = c.config.ensures.body; head = c.config.ensures.head; waiting = c.config.ensures.waiting }))
    c.new-connection.ensures.history c.admit.ensures.most c.admit.ensures.admitted c.admit.ensures.refused

pub returns-in-Err : goal.returns-in-Err
returns-in-Err g c = lets_none_in c.args.now c.args.self.now c.args.self.now.hall refl
