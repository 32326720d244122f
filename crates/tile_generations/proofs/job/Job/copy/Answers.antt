-- What the tactics leave open of `copy`.
use Rattle.std.proofs.Common.{subst, ◌∙◌, ap}
use Rattle.std.specs.Arc.{arc_value}
use Rattle.tile_generations.specs.Jobs.{AreBoundsOf, IsJob, Job}
use Rattle.tile_generations.proofs.Sweeping.{job_of_parts}
use Rattle.tile_generations.proofs.job.Job.copy.Goals as goal

pub bounded-requires-clause-below : goal.bounded-requires-clause-below
bounded-requires-clause-below c =
    let mask = c.in_ok-mask.ensures ∙ ap (λ (j : Job). j.mask) c.self.view_is in
    let same =
    job_of_parts c.args.self.now c.ticket.result c.conn.result c.in_ok-base.base (arc_value c.in_ok-mask.mask)
    c.ticket.ensures c.conn.ensures (c.in_ok-base.ensures ∙ c.base.ensures.value) mask in
    (subst IsJob same c.base.ensures.job).below

pub bounded-requires-clause-bounds : goal.bounded-requires-clause-bounds
bounded-requires-clause-bounds c =
    let mask = c.in_ok-mask.ensures ∙ ap (λ (j : Job). j.mask) c.self.view_is in
    let same =
    job_of_parts c.args.self.now c.ticket.result c.conn.result c.in_ok-base.base (arc_value c.in_ok-mask.mask)
    c.ticket.ensures c.conn.ensures (c.in_ok-base.ensures ∙ c.base.ensures.value) mask in
    subst (λ j. AreBoundsOf j c.bounds-bounds.result) same c.bounds-bounds.ensures
