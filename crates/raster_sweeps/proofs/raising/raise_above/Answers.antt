use Rattle.std.proofs.Common.{◌-◌, arith, refl}
use Rattle.grid_core.specs.declared.pixel.Pixel.{Pixel}
use Rattle.grid_core.proofs.Pixels.{same_pixel}
use Rattle.raster_sweeps.proofs.Beside.{can_join, on_none, on_one, row_above}
use Rattle.raster_sweeps.proofs.raising.raise_above.Goals as goal

pub overflow_sub-cell : goal.overflow_sub-cell
overflow_sub-cell c =
    omega (
      arith,
      c.requires.width,
      c.requires.at.place,
      row_above c.args.p.y c.args.trail.now.width (omega (arith, c.if-p-rect.true)),
    )

pub raise_on-requires : goal.raise_on-requires
raise_on-requires c =
    let stands = c.requires.at in
    let q : Pixel = record { x = c.args.p.x; y = c.args.p.y - 1 } in
    let start = row_above c.args.p.y c.args.trail.now.width (omega (arith, c.if-p-rect.true)) in
    can_join stands q
    (stands.inside.0, stands.inside.1, omega (arith, c.if-p-rect.true), omega (arith, stands.inside.3))
    (omega (arith, stands.place, start, c.requires.width)) (omega arith)

pub returns-then-p-rect : goal.returns-then-p-rect
returns-then-p-rect c =
    let stands = c.requires.at in
    let q : Pixel = record { x = c.args.p.x; y = c.args.p.y - 1 } in
    let start = row_above c.args.p.y c.args.trail.now.width (omega (arith, c.if-p-rect.true)) in
    on_one c.args.rect c.args.trail.now.width q c.raise_on.ensures
    (stands.inside.0, stands.inside.1, omega (arith, c.if-p-rect.true), omega (arith, stands.inside.3))
    (refl, omega (arith, c.if-p-rect.true)) (λ r is. same_pixel r q is.0 (omega (arith, is.1)))
    (omega (arith, stands.place, start, c.requires.width))

pub returns-else-p-rect : goal.returns-else-p-rect
returns-else-p-rect c =
    on_none c.args.image.now c.args.trail.now (λ k at. omega (arith, at.1.2, at.2.1, c.if-p-rect.false))
