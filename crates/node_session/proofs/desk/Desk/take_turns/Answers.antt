-- What the tactics leave open of `take_turns`.
use Rattle.std.proofs.Common.{ℕ, arith, inl, inr, refl, subst, sym}
use Rattle.core_rules.specs.Work.{Core}
use Rattle.tile_work.specs.WorkTable.{HasJobOut}
use Rattle.studio.specs.Keeping.{core_of}
use Rattle.node_session.proofs.Desks.{silent_through, turn_at_desk}
use Rattle.node_session.proofs.desk.Desk.take_turns.Goals as goal

-- ---- it settled where much was left

pub returns-then-settle_where_much-clause-silent : goal.returns-then-settle_where_much-clause-silent
returns-then-settle_where_much-clause-silent g c =
    silent_through _ _ _ (silent_through _ _ _ c.loop-turn.invariant.0 c.turn-is_busy.ensures.silent)
    c.settle_where_much.ensures.silent

pub returns-then-settle_where_much-clause-worked : goal.returns-then-settle_where_much-clause-worked
returns-then-settle_where_much-clause-worked g c = (
  c.loop-turn._turn,
  c.loop-turn.self.keeper,
  c.loop-turn.invariant.1,
  inr (
    omega (arith, c.loop-turn-test.true),
    (
      c.turn-is_busy.new.self.keeper,
      c.turn-is_busy.result,
      c.turn-is_busy.ensures.turn,
      inr (
        inr (c.settle_where_much.ensures.much.0 c.if-settle_where_much.true),
        c.settle_where_much.ensures.settled c.if-settle_where_much.true,
      ),
    ),
  ),
)

-- ---- a turn more

pub loop-turn-preserved-then-is_busy : goal.loop-turn-preserved-then-is_busy
loop-turn-preserved-then-is_busy g c =
    let (silent, turns, turn) = turn_at_desk c.loop-turn._turn _ _ _ _ _ c.loop-turn.invariant.0
    c.loop-turn.invariant.1 c.turn-is_busy.ensures.silent c.turn-is_busy.ensures.turn
    (c.settle_where_much.ensures.same c.if-settle_where_much.false) in
    (silent, turns, omega arith)

pub loop-turn-preserved : goal.loop-turn-preserved
loop-turn-preserved g c =
    let (silent, turns, turn) = turn_at_desk c.loop-turn._turn _ _ _ _ _ c.loop-turn.invariant.0
    c.loop-turn.invariant.1 c.turn-is_busy.ensures.silent c.turn-is_busy.ensures.turn
    (c.settle_where_much.ensures.same c.if-settle_where_much.false) in
    (silent, turns, omega (arith, c.loop-turn.invariant.2, c.if-waits-eq-PATIENCE.false))

-- ---- no job is out

pub returns-in_default-clause-silent : goal.returns-in_default-clause-silent
returns-in_default-clause-silent g c =
    (turn_at_desk c.loop-turn._turn _ _ _ _ _ c.loop-turn.invariant.0 c.loop-turn.invariant.1
    c.turn-is_busy.ensures.silent c.turn-is_busy.ensures.turn
    (c.settle_where_much.ensures.same c.if-settle_where_much.false)).0

pub returns-in_default-clause-worked : goal.returns-in_default-clause-worked
returns-in_default-clause-worked g c =
    let (silent, turns, turn) = turn_at_desk c.loop-turn._turn _ _ _ _ _ c.loop-turn.invariant.0
    c.loop-turn.invariant.1 c.turn-is_busy.ensures.silent c.turn-is_busy.ensures.turn
    (c.settle_where_much.ensures.same c.if-settle_where_much.false) in
    let none : (t : ℕ) → HasJobOut (core_of c.settle_where_much.new.self.keeper).tiles t → ⊥ = λ t out.
    c.in_default.ensures t (omega arith)
    (subst (λ (core : Core). HasJobOut core.tiles t) (sym c.core.ensures.value) out) in (
      c.loop-turn._turn,
      c.loop-turn.self.keeper,
      c.loop-turn.invariant.1,
      inr (
        omega (arith, c.loop-turn-test.true),
        (
          c.settle_where_much.new.self.keeper,
          c.turn-is_busy.result,
          turn,
          inl (c.if-is_busy.false, none, refl),
        ),
      ),
    )

-- ---- hands brought nothing back

pub returns-then-waits-eq-PATIENCE-clause-silent : goal.returns-then-waits-eq-PATIENCE-clause-silent
returns-then-waits-eq-PATIENCE-clause-silent g c =
    silent_through _ _ _
    (turn_at_desk c.loop-turn._turn _ _ _ _ _ c.loop-turn.invariant.0 c.loop-turn.invariant.1
    c.turn-is_busy.ensures.silent c.turn-is_busy.ensures.turn
    (c.settle_where_much.ensures.same c.if-settle_where_much.false)).0
    c.settle_in_bands.ensures.silent

pub returns-then-waits-eq-PATIENCE-clause-worked : goal.returns-then-waits-eq-PATIENCE-clause-worked
returns-then-waits-eq-PATIENCE-clause-worked g c =
    let (silent, turns, turn) = turn_at_desk c.loop-turn._turn _ _ _ _ _ c.loop-turn.invariant.0
    c.loop-turn.invariant.1 c.turn-is_busy.ensures.silent c.turn-is_busy.ensures.turn
    (c.settle_where_much.ensures.same c.if-settle_where_much.false) in (
      c.loop-turn._turn,
      c.loop-turn.self.keeper,
      c.loop-turn.invariant.1,
      inr (
        omega (arith, c.loop-turn-test.true),
        (
          c.settle_where_much.new.self.keeper,
          c.turn-is_busy.result,
          turn,
          inr (inl c.if-is_busy.false, c.settle_in_bands.ensures.settled),
        ),
      ),
    )

-- ---- as many turns as there may be

pub returns-clause-worked : goal.returns-clause-worked
returns-clause-worked g c = (
  c.loop-turn._turn,
  c.loop-turn.self.keeper,
  c.loop-turn.invariant.1,
  inl (omega (arith, c.loop-turn-test.false), refl),
)
