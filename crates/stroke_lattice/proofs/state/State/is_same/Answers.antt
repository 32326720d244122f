use Rattle.std.proofs.Common.{refl, subst, sym}
use Rattle.stroke_lattice.specs.State.{State, IsBelow}
use Rattle.stroke_lattice.proofs.Joins.{same_state, below_itself}
use Rattle.stroke_lattice.proofs.state.State.is_same.Goals as goal

pub returns-then-is_below : goal.returns-then-is_below
returns-then-is_below c = (
  λ below. same_state c.args.self.now c.args.other.now (c.if-is_below.ensures.0 refl)
      (c.is_below-then-is_below.ensures.0 below),
  λ e. c.is_below-then-is_below.ensures.1
      (subst (λ (s : State). IsBelow c.args.other.now s) (sym e) (below_itself c.args.other.now)),
)
