use Rattle.std.proofs.Common.{refl}
use Rattle.page_server.proofs.Turnings.{lets_none_in}
use Rattle.page_server.proofs.server.Server.receive.Goals as goal

pub returns-in-Ok : goal.returns-in-Ok
returns-in-Ok g c = lets_none_in c.args.now c.args.self.now _ c.admit.ensures.key

pub returns-in-Err : goal.returns-in-Err
returns-in-Err g c = lets_none_in c.args.now c.args.self.now c.args.self.now.hall refl
