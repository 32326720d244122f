-- What the tactics leave open of `copy`. The pixels are the same, and the job and the rim are equal.
use Rattle.std.proofs.Common.{sym, subst, ◌∙◌, ap}
use Rattle.std.specs.Arc.{arc_value}
use Rattle.tile_generations.specs.Jobs.{Swept, IsKeptSwept}
use Rattle.tile_generations.proofs.Sweeping.{swept_of_parts}
use Rattle.tile_generations.proofs.swept.Swept.copy.Goals as goal

pub invariant_of-result : goal.invariant_of-result
invariant_of-result c =
    let pixels = c.in_ok-pixels.ensures ∙ ap (λ (s : Swept). s.pixels) c.self.view_is in
    let same =
    swept_of_parts c.args.self.now c.in_ok-job.job (arc_value c.in_ok-pixels.pixels)
    (c.in_ok-job.ensures ∙ c.job.ensures) pixels in
    subst (IsKeptSwept (record { job = c.in_ok-job.job; pixels = arc_value c.in_ok-pixels.pixels }))
    (sym c.in_ok-rim.ensures)
    (subst (λ s. IsKeptSwept s c.self.inside.rim) same
    (subst (λ s. IsKeptSwept s c.self.inside.rim) c.self.view_is c.self.invariant))

pub returns : goal.returns
returns c =
    let pixels = c.in_ok-pixels.ensures ∙ ap (λ (s : Swept). s.pixels) c.self.view_is in
    sym (swept_of_parts c.args.self.now c.in_ok-job.job (arc_value c.in_ok-pixels.pixels)
    (c.in_ok-job.ensures ∙ c.job.ensures) pixels)
