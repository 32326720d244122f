use Rattle.std.proofs.Common.{refl, ◌∙◌, arith, true, false}
use Rattle.page_server.specs.Turning.{scene}
use Rattle.page_server.proofs.Turnings.{round_told, one_more}
use Rattle.page_server.proofs.server.Server.make_rounds.Goals as goal

pub loop-init : goal.loop-init
loop-init g c = record { moving = refl; most = refl; hall = refl }

pub loop-preserved : goal.loop-preserved
loop-preserved g c =
    let seen = g.T.StateStore.seen in
    record {
      moving = one_more c.args.now c.loop.counter (scene seen c.args.self.now) (scene seen c.loop.self) _
          c.loop.invariant.moving
          (round_told c.args.now c.round.result.moved c.round.result.kept (scene seen c.loop.self) _ true
          c.if-not-round.false c.round.ensures.round c.round.ensures.tracked c.round.ensures.in_file);
      most = c.round.ensures.most ∙ c.loop.invariant.most;
      hall = c.loop.invariant.hall;
    }

pub returns-then-not-round-clause-rounds : goal.returns-then-not-round-clause-rounds
returns-then-not-round-clause-rounds g c =
    let seen = g.T.StateStore.seen in (
      c.loop.counter,
      scene seen c.loop.self,
      c.loop-test.true,
      c.loop.invariant.moving,
      round_told c.args.now c.round.result.moved c.round.result.kept (scene seen c.loop.self) _ false
          c.if-not-round.true c.round.ensures.round c.round.ensures.tracked c.round.ensures.in_file,
    )

pub returns-clause-rounds : goal.returns-clause-rounds
returns-clause-rounds g c =
    (c.loop.counter, omega (arith, c.loop-test.false, c.loop.auto.counter-end), c.loop.invariant.moving)
