use Rattle.std.proofs.Common.{◌-◌, arith, refl}
use Rattle.grid_core.specs.declared.pixel.Pixel.{Pixel}
use Rattle.grid_core.proofs.Pixels.{same_pixel}
use Rattle.raster_sweeps.proofs.Beside.{can_join, on_none, on_one}
use Rattle.raster_sweeps.proofs.raising.raise_left.Goals as goal

pub raise_on-requires : goal.raise_on-requires
raise_on-requires c =
    let stands = c.requires in
    let q : Pixel = record { x = c.args.p.x - 1; y = c.args.p.y } in
    can_join stands q
    (omega (arith, c.if-p-rect.true), omega (arith, stands.inside.1), stands.inside.2, stands.inside.3)
    (omega (arith, stands.place, c.if-p-rect.true)) (omega arith)

pub returns-then-p-rect : goal.returns-then-p-rect
returns-then-p-rect c =
    let stands = c.requires in
    let q : Pixel = record { x = c.args.p.x - 1; y = c.args.p.y } in
    on_one c.args.rect c.args.trail.now.width q c.raise_on.ensures
    (omega (arith, c.if-p-rect.true), omega (arith, stands.inside.1), stands.inside.2, stands.inside.3)
    (omega (arith, c.if-p-rect.true), refl) (λ r is. same_pixel r q (omega (arith, is.0)) is.1)
    (omega (arith, stands.place, c.if-p-rect.true))

pub returns-else-p-rect : goal.returns-else-p-rect
returns-else-p-rect c =
    on_none c.args.image.now c.args.trail.now (λ k at. omega (arith, at.1.0, at.2.0, c.if-p-rect.false))
