use Rattle.std.proofs.Common.{subst, sym}
use Rattle.stroke_lattice.specs.Walks.{AreStrokes}
use Rattle.stroke_lattice.proofs.Walking.{are_strokes}
use Rattle.stroke_lattice.proofs.state.State.strokes.Goals as goal

pub returns-clause-strokes : goal.returns-clause-strokes
returns-clause-strokes c =
    subst (AreStrokes c.args.self.now) (sym c.iter.ensures.rest)
    (are_strokes c.self.inside.strokes.entries c.self.inside.tombstones.keys c.args.self.now c.self.view_is
    c.iter.ensures.ordered)
