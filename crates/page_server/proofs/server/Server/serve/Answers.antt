use Rattle.std.proofs.Common.{refl, arith}
use Rattle.page_server.proofs.Turnings.{one_turn_more}
use Rattle.page_server.proofs.server.Server.serve.Goals as goal

pub loop-init : goal.loop-init
loop-init g c = refl

pub loop-preserved : goal.loop-preserved
loop-preserved g c =
    one_turn_more g.T.StateStore.seen c.loop.counter c.args.self.now c.loop.self _ c.wait.new.self _
    c.loop.invariant c.turn.ensures

pub returns : goal.returns
returns g c =
    (c.loop.counter, omega (arith, c.loop-test.false, c.loop.auto.counter-end), c.loop.invariant)
