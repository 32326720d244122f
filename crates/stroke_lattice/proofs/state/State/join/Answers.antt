use Rattle.std.proofs.Common.{subst, sym}
use Rattle.stroke_lattice.specs.Change.{IsChange}
use Rattle.stroke_lattice.proofs.Growing.{change_of_join}
use Rattle.stroke_lattice.proofs.state.State.join.Goals as goal

pub returns-clause-change : goal.returns-clause-change
returns-clause-change c =
    subst (IsChange c.args.self.now c.take_in.new.self) (sym c.new.ensures)
    (change_of_join c.args.self.now c.args.delta.now c.take_in.new.self c.in_ok-born.born.items
    c.in_ok-dead.dead.items c.in_ok-take_in.ensures.join c.in_ok-born.ensures c.in_ok-dead.ensures)
