use Rattle.std.proofs.Common.{◌≡◌, ◌+◌, ◌<◌, ◌∷◌, ap, arith, get_or, map, subst, sym, ◌∙◌}
use Rattle.std.proofs.lemmas.List.{get_or_default}
use Rattle.std.specs.List.{between}
use Rattle.raster_sweeps.specs.Trail.{cell_at}
use Rattle.raster_sweeps.proofs.Trails.{first_waits}
use Rattle.raster_sweeps.proofs.trail.Trail.pop.Goals as goal

pub returns-clause-first : goal.returns-clause-first
returns-clause-first c =
    let width = c.self.inside.width in
    let numbers = c.self.inside.pixels.items in
    let first = c.self.inside.first in
    let end = c.self.inside.end in
    let n = c.index-number.result.now in
    let some : first < end = omega (arith, c.if-self.false, c.self.invariant.order) in
    let read : n ≡ get_or numbers first 0 =
    c.index-number.ensures ∙ get_or_default numbers first n 0 (omega (arith, some, c.self.invariant.within)) in
    subst (λ old. old.cells ≡ cell_at old.width n ∷ map (cell_at width) (between (first + 1) end numbers))
    c.self.view_is
    (first_waits width numbers first end some c.self.invariant.within
    ∙ ap (λ m. cell_at width m ∷ map (cell_at width) (between (first + 1) end numbers)) (sym read))
