use Rattle.stroke_lattice.proofs.Views.{inserted}
use Rattle.stroke_lattice.proofs.state.State.insert.Goals as goal

pub returns-in-Ok-clause-ok : goal.returns-in-Ok-clause-ok
returns-in-Ok-clause-ok c = inserted c.self.inside.strokes.entries c.insert.new.self.entries
    c.self.inside.tombstones.keys c.args.self.now c.args.tag c.args.stroke c.self.view_is c.in-Ok.ensures.updates.0
