use Rattle.std.proofs.Common.{◌≡◌, Bool, sym, ap, subst, ◌∙◌, IsTrue, ◌↔◌}
use Rattle.stroke_lattice.specs.State.{State}
use Rattle.stroke_lattice.proofs.Views.{contains_kept}
use Rattle.std.specs.FinSet as set
use Rattle.stroke_lattice.proofs.state.State.has_tombstone.Goals as goal

pub returns : goal.returns
returns c =
    let has : c.contains.result ≡ set.contains c.args.self.now.tombstones c.args.tag = c.contains.ensures
    ∙ sym (contains_kept c.self.inside.tombstones.keys c.args.tag)
    ∙ ap (λ (s : State). set.contains s.tombstones c.args.tag) c.self.view_is in
    subst (λ (b : Bool). IsTrue c.contains.result ↔ IsTrue b) has (λ h. h, λ h. h)
