use Rattle.std.proofs.Common.{subst}
use Rattle.stroke_lattice.specs.State.{State, HasTombstone}
use Rattle.stroke_lattice.proofs.Joins.{nothing_has_no_tombstone}
use Rattle.stroke_lattice.proofs.state.State.withdrawn.Goals as goal

pub bury-requires : goal.bury-requires
bury-requires c = λ has. nothing_has_no_tombstone c.args.tag
    (subst (λ (s : State). HasTombstone s c.args.tag) c.new-state.ensures has)
