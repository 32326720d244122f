use Rattle.std.proofs.Common.{◌≡◌, true, false, refl}
use Rattle.stroke_core.specs.Seed.{Fits}
use Rattle.stroke_lattice.proofs.Walking.{strokes_begin, stroke_step}
use Rattle.stroke_lattice.proofs.Comparing.{least_outside}
use Rattle.stroke_lattice.proofs.state.State.outside.Goals as goal

pub loop-tag-init : goal.loop-tag-init
loop-tag-init c = strokes_begin (λ t x. Fits c.args.w c.args.h x) c.args.self.now c.strokes-tag-items.result
    c.into_iter-tag-iterator.result c.into_iter-tag-iterator.ensures.into_iter_gives
    c.strokes-tag-items.ensures.strokes

pub returns-then-not-fits : goal.returns-then-not-fits
returns-then-not-fits c =
    least_outside c.args.w c.args.h c.args.self.now c.in-Some.tag.now c.in-Some.stroke.now c.loop-tag.tag-iterator
    c.next.new.self c.in-Some.ensures.steps c.loop-tag.invariant
    (λ fits. let no : false ≡ true = c.if-not-fits.ensures.1 fits in absurd cc)

pub loop-tag-preserved : goal.loop-tag-preserved
loop-tag-preserved c =
    stroke_step (λ t x. Fits c.args.w c.args.h x) (λ t x. Fits c.args.w c.args.h x) c.args.self.now
    c.in-Some.tag.now c.in-Some.stroke.now c.loop-tag.tag-iterator c.next.new.self c.in-Some.ensures.steps
    c.loop-tag.invariant
    (λ t x fits. fits) (c.if-not-fits.ensures.0 refl)
