use Rattle.std.proofs.Common.{◌+◌, arith}
use Rattle.grid_core.specs.declared.pixel.Pixel.{Pixel}
use Rattle.raster_sweeps.proofs.Beside.{on_none, stands_there, stands_within}
use Rattle.raster_sweeps.proofs.raising.raise_three_below.Goals as goal

pub overflow_add-cell : goal.overflow_add-cell
overflow_add-cell c =
    let stands = c.requires.at in
    omega (arith, c.requires.width, stands_within stands, stands.has.width_within)

pub raise_three-requires : goal.raise_three-requires
raise_three-requires c =
    let stands = c.requires.at in
    let q : Pixel = record { x = c.args.p.x; y = c.args.p.y + 1 } in
    stands_there stands q 3 (stands.inside.0, stands.inside.1, omega (arith, stands.inside.2), c.if-p-rect.true)
    (omega (arith, stands.place, c.requires.width)) (omega arith)

pub returns-then-p-rect : goal.returns-then-p-rect
returns-then-p-rect c = c.raise_three.ensures

pub returns-else-p-rect : goal.returns-else-p-rect
returns-else-p-rect c =
    on_none c.args.image.now c.args.trail.now (λ k at. omega (arith, at.1.3, at.2.1, c.if-p-rect.false))
