use Rattle.stroke_lattice.specs.State.{State, HasSomeStroke}
use Rattle.std.proofs.Common.{subst}
use Rattle.stroke_lattice.proofs.Joins.{nothing_has_no_stroke}
use Rattle.stroke_lattice.proofs.state.State.placed.Goals as goal

pub insert-requires : goal.insert-requires
insert-requires c = λ some. nothing_has_no_stroke c.args.tag some.0
    (subst (λ (s : State). HasSomeStroke s c.args.tag) c.new-state.ensures some).1
