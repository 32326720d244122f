use Rattle.std.proofs.Common.{◌≡◌, ap, sym, subst, ◌∙◌, arith}
use Rattle.stroke_core.specs.{Held.shape_of, Spans.SpanFits}
use Rattle.stroke_core.specs.Seed.{Seed, Shape, Runs, IsCanonicalShape, ShapeFits}
use Rattle.stroke_core.proofs.SpanLemmas.{run_span_has_pixel, run_span_fits}
use Rattle.stroke_core.proofs.stroke.Stroke.span.Goals as goal

pub returns-in-Runs-clause-nonempty : goal.returns-in-Runs-clause-nonempty
returns-in-Runs-clause-nonempty c =
    let shape_is : shape_of c.self.inside.shape ≡ Runs c.deref.result.now =
    ap shape_of c.in-Runs.is ∙ ap Runs (sym c.deref.ensures.value) in
    let canonical : IsCanonicalShape (Runs c.deref.result.now) =
    subst (λ (s : Shape). IsCanonicalShape s) shape_is c.self.invariant.shape in
    run_span_has_pixel c.deref.result.now c.args.i c.run_span.result canonical.2 c.run_span.ensures

pub returns-in-Runs-clause-inside : goal.returns-in-Runs-clause-inside
returns-in-Runs-clause-inside c w h fits kind =
    let shape_is : c.args.self.now.shape ≡ Runs c.deref.result.now =
    sym (ap (λ (s : Seed). s.shape) c.self.view_is) ∙ ap shape_of c.in-Runs.is ∙ ap Runs (sym c.deref.ensures.value) in
    run_span_fits w h c.deref.result.now c.args.i c.run_span.result
    (subst (λ (s : Shape). ShapeFits w h s) shape_is fits) c.run_span.ensures

pub returns-in-Runs-clause-starts : goal.returns-in-Runs-clause-starts
returns-in-Runs-clause-starts c w h fits =
    let shape_is : c.args.self.now.shape ≡ Runs c.deref.result.now =
    sym (ap (λ (s : Seed). s.shape) c.self.view_is) ∙ ap shape_of c.in-Runs.is ∙ ap Runs (sym c.deref.ensures.value) in
    let inside : SpanFits w h c.run_span.result = run_span_fits w h c.deref.result.now c.args.i c.run_span.result
    (subst (λ (s : Shape). ShapeFits w h s) shape_is fits) c.run_span.ensures in
    let some = returns-in-Runs-clause-nonempty c in
    omega (arith, inside.1, some)
