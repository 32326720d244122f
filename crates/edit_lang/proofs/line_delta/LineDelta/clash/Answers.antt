use Rattle.std.proofs.Common.{◌≡◌, true, false, ap, subst, sym, ◌∙◌}
use Rattle.stroke_lattice.specs.State.{HasOtherStroke, placed, withdrawn, AreCompatible, IsLeastClash}
use Rattle.edit_lang.specs.Held.{held}
use Rattle.edit_lang.proofs.OneDelta.{one_clash, no_clash, tombstone_is_compatible}
use Rattle.edit_lang.proofs.line_delta.LineDelta.clash.Goals as goal

pub returns-then-has_other : goal.returns-then-has_other
returns-then-has_other c =
    let tag = c.self.inside.tag in
    let is : placed tag c.in-Some.stroke ≡ c.args.self.now = ap (held tag) (sym c.in-Some.is) ∙ c.self.view_is in
    subst (λ s. IsLeastClash c.args.state.now s tag) is
    (one_clash c.args.state.now tag c.in-Some.stroke (c.has_other.ensures.0 c.if-has_other.true))

pub returns-else-has_other : goal.returns-else-has_other
returns-else-has_other c =
    let tag = c.self.inside.tag in
    let is : placed tag c.in-Some.stroke ≡ c.args.self.now = ap (held tag) (sym c.in-Some.is) ∙ c.self.view_is in
    let none : HasOtherStroke c.args.state.now tag c.in-Some.stroke → ⊥ = λ other. let no : false ≡ true =
    sym c.if-has_other.false ∙ c.has_other.ensures.1 other in cc in
    subst (AreCompatible c.args.state.now) is (no_clash c.args.state.now tag c.in-Some.stroke none)

pub returns-in-None : goal.returns-in-None
returns-in-None c =
    let tag = c.self.inside.tag in
    let is : withdrawn tag ≡ c.args.self.now = ap (held tag) (sym c.in-None.is) ∙ c.self.view_is in
    subst (AreCompatible c.args.state.now) is (tombstone_is_compatible c.args.state.now tag)
