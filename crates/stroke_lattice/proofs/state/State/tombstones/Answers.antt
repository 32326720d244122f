use Rattle.std.proofs.Common.{subst, sym}
use Rattle.stroke_lattice.specs.Walks.{AreTombstones}
use Rattle.stroke_lattice.proofs.Walking.{are_tombstones}
use Rattle.stroke_lattice.proofs.state.State.tombstones.Goals as goal

pub returns-clause-tombstones : goal.returns-clause-tombstones
returns-clause-tombstones c =
    subst (AreTombstones c.args.self.now) (sym c.iter.ensures.rest)
    (are_tombstones c.self.inside.strokes.entries c.self.inside.tombstones.keys c.args.self.now c.self.view_is
    c.iter.ensures.ordered)
