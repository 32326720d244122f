use Rattle.std.proofs.Common.{Bool, arith, inl, inr, refl, subst}
use Rattle.node_session.specs.Working.{TookIn}
use Rattle.node_session.proofs.Desks.{one_more_edit, silent_itself, silent_through}
use Rattle.node_session.proofs.desk.Desk.take_in_all.Goals as goal

pub loop-turn-init : goal.loop-turn-init
loop-turn-init c = (silent_itself _, refl)

pub returns-then-not-take_in-clause-silent : goal.returns-then-not-take_in-clause-silent
returns-then-not-take_in-clause-silent c = silent_through _ _ _ c.loop-turn.invariant.0 c.take_in.ensures.silent

pub returns-then-not-take_in-clause-taken : goal.returns-then-not-take_in-clause-taken
returns-then-not-take_in-clause-taken c = (
  c.loop-turn._turn,
  c.loop-turn.self.keeper,
  c.loop-turn.invariant.1,
  inr (
    omega (arith, c.loop-turn-test.true),
    subst (λ (edited : Bool). TookIn c.loop-turn.self.keeper edited c.take_in.new.self.keeper) c.if-not-take_in.true
        c.take_in.ensures.taken,
  ),
)

pub loop-turn-preserved : goal.loop-turn-preserved
loop-turn-preserved c = (
  silent_through _ _ _ c.loop-turn.invariant.0 c.take_in.ensures.silent,
  one_more_edit _ _ _ _ c.loop-turn.invariant.1
      (subst (λ (edited : Bool). TookIn c.loop-turn.self.keeper edited c.take_in.new.self.keeper) c.if-not-take_in.false
      c.take_in.ensures.taken),
)

pub returns-clause-taken : goal.returns-clause-taken
returns-clause-taken c = (
  c.loop-turn._turn,
  c.loop-turn.self.keeper,
  c.loop-turn.invariant.1,
  inl (omega (arith, c.loop-turn-test.false), refl),
)
