use Rattle.std.proofs.Common.{◌≡◌, ◌<◌, min, get_or, refl, sym, subst, arith}
use Rattle.raster_sweeps.specs.Spans.{IsCell}
use Rattle.raster_sweeps.proofs.open_cells.can_rise.Goals as goal

pub bounds-mask-at : goal.bounds-mask-at
bounds-mask-at c =
    omega (
      arith,
      c.requires.within c.in-Some.place.cell (subst (λ one. IsCell one c.in-Some.place.cell) (sym c.in-Some.is) refl),
      c.requires.same,
    )

pub bounds-cells-at : goal.bounds-cells-at
bounds-cells-at c =
    c.requires.within c.in-Some.place.cell
    (subst (λ one. IsCell one c.in-Some.place.cell) (sym c.in-Some.is) refl)

pub returns-else-cells-at : goal.returns-else-cells-at
returns-else-cells-at c k here lower =
    let same : k ≡ c.in-Some.place.cell = subst (λ one. IsCell one k) c.in-Some.is here in
    let low : get_or c.args.cells.now c.in-Some.place.cell 0
    < min c.args.level (get_or c.args.mask.now c.in-Some.place.cell 0) =
    subst (λ i. get_or c.args.cells.now i 0 < min c.args.level (get_or c.args.mask.now i 0)) same lower in
    absurd (omega (arith, low, c.if-cells-at.false, c.min.ensures))

pub returns-in_default : goal.returns-in_default
returns-in_default c k here = absurd (subst (λ one. IsCell one k) c.in_default.is here)
