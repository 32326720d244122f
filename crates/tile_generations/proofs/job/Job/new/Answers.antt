-- What the tactics leave open of `new`.
use Rattle.std.proofs.Common.{arith, subst, sym, ◌∙◌, ap}
use Rattle.std.specs.Arc.{arc_value}
use Rattle.grid_core.specs.{declared.rect.Rect.Rect, Bounds.bounds_of}
use Rattle.tile_generations.specs.Jobs.{AreBoundsOf, Job}
use Rattle.tile_generations.proofs.Sweeping.{whole_bounds}
use Rattle.tile_generations.proofs.job.Job.new.Goals as goal

pub of-bounds-requires-clause-columns : goal.of-bounds-requires-clause-columns
of-bounds-requires-clause-columns c =
    let is = c.whole.ensures.rect in
    omega (arith, ap (λ (r : Rect). r.x) is, ap (λ (r : Rect). r.w) is, c.whole.ensures.sized.size.width_within)

pub of-bounds-requires-clause-rows : goal.of-bounds-requires-clause-rows
of-bounds-requires-clause-rows c =
    let is = c.whole.ensures.rect in
    omega (arith, ap (λ (r : Rect). r.y) is, ap (λ (r : Rect). r.h) is, c.whole.ensures.sized.size.height_within)

pub bounded-requires-clause-bounds : goal.bounded-requires-clause-bounds
bounded-requires-clause-bounds c =
    let job : Job = record {
      ticket = c.args.ticket;
      conn = c.args.conn;
      base = c.args.base;
      mask = arc_value c.args.mask;
    } in
    subst (AreBoundsOf job) (sym (c.of-bounds.ensures ∙ ap bounds_of c.whole.ensures.rect))
    (whole_bounds job c.requires)
