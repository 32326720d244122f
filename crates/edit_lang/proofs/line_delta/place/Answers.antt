use Rattle.std.proofs.Common.{◌≡◌, true, false, ap, subst, sym, ◌∙◌}
use Rattle.stroke_lattice.specs.State.{HasSomeStroke, IsJoin, placed}
use Rattle.stroke_lattice.proofs.Growing.{with_stroke}
use Rattle.edit_lang.proofs.OneDelta.{join_with_new, join_with_held}
use Rattle.edit_lang.proofs.line_delta.place.Goals as goal

pub returns-then-has_stroke-clause-join : goal.returns-then-has_stroke-clause-join
returns-then-has_stroke-clause-join c =
    join_with_held c.args.state.now c.args.tag c.args.stroke.now (c.has_stroke.ensures.0 c.if-has_stroke.true)
    c.requires

pub returns-clause-join : goal.returns-clause-join
returns-clause-join c =
    let s = c.args.state.now in
    let tag = c.args.tag in
    let is : c.insert.new.self ≡ with_stroke s tag c.args.stroke.now =
    c.in_ok-insert.ensures.ok ∙ ap (with_stroke s tag) c.in_ok-copy.ensures in
    let new : HasSomeStroke s tag → ⊥ = λ some. let no : false ≡ true = sym c.if-has_stroke.false
    ∙ c.has_stroke.ensures.1 some in cc in
    subst (IsJoin s (placed tag c.args.stroke.now)) (sym is)
    (join_with_new s tag c.args.stroke.now new c.requires)
