use Rattle.stroke_lattice.proofs.Views.{buried}
use Rattle.stroke_lattice.proofs.state.State.bury.Goals as goal

pub returns-clause-ok : goal.returns-clause-ok
returns-clause-ok c = buried c.self.inside.strokes.entries c.self.inside.tombstones.keys c.insert.new.self.keys
    c.args.self.now c.args.tag c.self.view_is c.in_ok-insert.ensures.updates.0
