use Rattle.std.proofs.Common.{◌≡◌, true, false, ap, subst, sym, ◌∙◌}
use Rattle.stroke_core.specs.Seed.{Fits}
use Rattle.stroke_lattice.specs.State.{placed, withdrawn, StateFits, IsLeastOutside}
use Rattle.edit_lang.specs.Held.{held}
use Rattle.edit_lang.proofs.OneDelta.{one_fits, one_outside, tombstone_fits}
use Rattle.edit_lang.proofs.line_delta.LineDelta.outside.Goals as goal

pub returns-then-fits : goal.returns-then-fits
returns-then-fits c =
    let tag = c.self.inside.tag in
    let is : placed tag c.in-Some.stroke ≡ c.args.self.now = ap (held tag) (sym c.in-Some.is) ∙ c.self.view_is in
    subst (StateFits c.args.w c.args.h) is
    (one_fits c.args.w c.args.h tag c.in-Some.stroke (c.fits.ensures.0 c.if-fits.true))

pub returns-else-fits : goal.returns-else-fits
returns-else-fits c =
    let tag = c.self.inside.tag in
    let is : placed tag c.in-Some.stroke ≡ c.args.self.now = ap (held tag) (sym c.in-Some.is) ∙ c.self.view_is in
    let unfit : Fits c.args.w c.args.h c.in-Some.stroke → ⊥ = λ fits. let no : false ≡ true = sym c.if-fits.false
    ∙ c.fits.ensures.1 fits in cc in
    subst (λ s. IsLeastOutside c.args.w c.args.h s tag) is
    (one_outside c.args.w c.args.h tag c.in-Some.stroke unfit)

pub returns-in-None : goal.returns-in-None
returns-in-None c =
    let tag = c.self.inside.tag in
    let is : withdrawn tag ≡ c.args.self.now = ap (held tag) (sym c.in-None.is) ∙ c.self.view_is in
    subst (StateFits c.args.w c.args.h) is (tombstone_fits c.args.w c.args.h tag)
