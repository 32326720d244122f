use Rattle.stroke_lattice.proofs.Views.{removed}
use Rattle.stroke_lattice.proofs.state.State.remove.Goals as goal

pub returns : goal.returns
returns c = removed c.self.inside.strokes.entries c.remove.new.self.entries c.self.inside.tombstones.keys
    c.args.self.now c.args.tag c.self.view_is c.remove.ensures.updates.0
