use Rattle.std.proofs.Common.{◌+◌, arith, refl}
use Rattle.grid_core.specs.declared.pixel.Pixel.{Pixel}
use Rattle.grid_core.proofs.Pixels.{same_pixel}
use Rattle.raster_sweeps.proofs.Beside.{can_join, on_none, on_one, stands_within}
use Rattle.raster_sweeps.proofs.raising.raise_below.Goals as goal

pub overflow_add-cell : goal.overflow_add-cell
overflow_add-cell c =
    let stands = c.requires.at in
    omega (
      arith,
      c.requires.width,
      stands_within stands,
      stands.has.width_within,
    )

pub raise_on-requires : goal.raise_on-requires
raise_on-requires c =
    let stands = c.requires.at in
    let q : Pixel = record { x = c.args.p.x; y = c.args.p.y + 1 } in
    can_join stands q (stands.inside.0, stands.inside.1, omega (arith, stands.inside.2), c.if-p-rect.true)
    (omega (arith, stands.place, c.requires.width)) (omega arith)

pub returns-then-p-rect : goal.returns-then-p-rect
returns-then-p-rect c =
    let stands = c.requires.at in
    let q : Pixel = record { x = c.args.p.x; y = c.args.p.y + 1 } in
    on_one c.args.rect c.args.trail.now.width q c.raise_on.ensures
    (stands.inside.0, stands.inside.1, omega (arith, stands.inside.2), c.if-p-rect.true) (refl, refl)
    (λ r is. same_pixel r q is.0 is.1) (omega (arith, stands.place, c.requires.width))

pub returns-else-p-rect : goal.returns-else-p-rect
returns-else-p-rect c =
    on_none c.args.image.now c.args.trail.now (λ k at. omega (arith, at.1.3, at.2.1, c.if-p-rect.false))
