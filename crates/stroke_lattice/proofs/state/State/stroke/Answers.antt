use Rattle.std.proofs.Common.{sym, ap, ◌∙◌}
use Rattle.stroke_lattice.specs.State.{State}
use Rattle.stroke_lattice.proofs.Views.{get_kept}
use Rattle.std.specs.FinMap as map
use Rattle.stroke_lattice.proofs.state.State.stroke.Goals as goal

pub returns : goal.returns
returns c = c.get.ensures.value ∙ sym (get_kept c.self.inside.strokes.entries c.args.tag)
    ∙ ap (λ (s : State). map.get s.strokes c.args.tag) c.self.view_is
