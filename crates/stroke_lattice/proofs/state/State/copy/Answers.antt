use Rattle.std.proofs.Common.{subst}
use Rattle.stroke_lattice.specs.{State.State, Growth.IsBetween}
use Rattle.stroke_lattice.proofs.Growing.{grown_from_nothing}
use Rattle.stroke_lattice.proofs.state.State.copy.Goals as goal

pub returns-clause-value : goal.returns-clause-value
returns-clause-value c =
    grown_from_nothing c.args.self.now c.grow.new.self
    (subst (λ (s : State). IsBetween s c.args.self.now c.grow.new.self) c.new-copy.ensures
    c.in_ok-grow.ensures.between)
    c.in_ok-grow.ensures.strokes c.in_ok-grow.ensures.tombstones
