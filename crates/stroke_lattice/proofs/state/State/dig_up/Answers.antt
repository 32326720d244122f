use Rattle.stroke_lattice.proofs.Views.{dug_up}
use Rattle.stroke_lattice.proofs.state.State.dig_up.Goals as goal

pub returns : goal.returns
returns c = dug_up c.self.inside.strokes.entries c.self.inside.tombstones.keys c.remove.new.self.keys
    c.args.self.now c.args.tag c.self.view_is c.remove.ensures.updates.0
