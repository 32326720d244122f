use Rattle.std.proofs.Common.{◌≡◌, ap, subst, sym, ◌∙◌}
use Rattle.stroke_lattice.specs.State.{placed, AreCompatible}
use Rattle.edit_lang.specs.Held.{held}
use Rattle.edit_lang.proofs.line_delta.LineDelta.join_into.Goals as goal

pub place-requires : goal.place-requires
place-requires c =
    let tag = c.self.inside.tag in
    let is : placed tag c.in-Some.stroke ≡ c.args.self.now = ap (held tag) (sym c.in-Some.is) ∙ c.self.view_is in
    subst (AreCompatible c.args.state.now) (sym is) c.requires
