use Rattle.std.proofs.Common.{refl}
use Rattle.page_server.proofs.Turnings.{lets_none_in, lets_then}
use Rattle.page_server.proofs.server.Server.let_in.Goals as goal

pub loop-init : goal.loop-init
loop-init g c = lets_none_in c.args.now c.args.self.now c.args.self.now.hall refl

pub loop-preserved : goal.loop-preserved
loop-preserved g c =
    lets_then c.args.now c.args.self.now c.loop.self _ c.loop.invariant
    (lets_then c.args.now c.loop.self c.receive-has_come.new.self _ c.receive-has_come.ensures c.seat-is_seated.ensures)

pub returns-then-not-is_seated : goal.returns-then-not-is_seated
returns-then-not-is_seated g c =
    lets_then c.args.now c.args.self.now c.loop.self _ c.loop.invariant
    (lets_then c.args.now c.loop.self c.receive-has_come.new.self _ c.receive-has_come.ensures c.seat-is_seated.ensures)
