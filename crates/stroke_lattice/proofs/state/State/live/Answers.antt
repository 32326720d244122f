use Rattle.std.proofs.Common.{subst, sym, ap, ◌∙◌, filter}
use Rattle.stroke_lattice.specs.Walks.{AreLive}
use Rattle.stroke_lattice.proofs.Walking.{are_live, lives}
use Rattle.stroke_lattice.proofs.state.State.live.Goals as goal

pub returns-clause-strokes : goal.returns-clause-strokes
returns-clause-strokes c =
    subst (AreLive c.args.self.now)
    (sym (c.new.ensures ∙ ap (filter (lives c.self.inside.tombstones.keys)) c.iter.ensures.rest))
    (are_live c.self.inside.strokes.entries c.self.inside.tombstones.keys c.args.self.now c.self.view_is
    c.iter.ensures.ordered)
