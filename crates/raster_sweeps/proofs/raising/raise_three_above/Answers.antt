use Rattle.std.proofs.Common.{◌-◌, arith}
use Rattle.grid_core.specs.declared.pixel.Pixel.{Pixel}
use Rattle.raster_sweeps.proofs.Beside.{on_kind, on_none, row_above, stands_there}
use Rattle.raster_sweeps.proofs.raising.raise_three_above.Goals as goal

pub overflow_sub-cell : goal.overflow_sub-cell
overflow_sub-cell c =
    omega (
      arith,
      c.requires.width,
      c.requires.at.place,
      row_above c.args.p.y c.args.trail.now.width (omega (arith, c.if-p-rect.true)),
    )

pub raise_three-requires : goal.raise_three-requires
raise_three-requires c =
    let stands = c.requires.at in
    let q : Pixel = record { x = c.args.p.x; y = c.args.p.y - 1 } in
    let start = row_above c.args.p.y c.args.trail.now.width (omega (arith, c.if-p-rect.true)) in
    stands_there stands q 3
    (stands.inside.0, stands.inside.1, omega (arith, c.if-p-rect.true), omega (arith, stands.inside.3))
    (omega (arith, stands.place, start, c.requires.width)) (omega arith)

pub returns-then-p-rect : goal.returns-then-p-rect
returns-then-p-rect c =
    on_kind c.args.rect c.args.trail.now.width c.raise_three.ensures
    (λ r is. (is.0, omega (arith, is.1, c.if-p-rect.true))) (λ r is. (is.0, omega (arith, is.1)))

pub returns-else-p-rect : goal.returns-else-p-rect
returns-else-p-rect c =
    on_none c.args.image.now c.args.trail.now (λ k at. omega (arith, at.1.2, at.2.1, c.if-p-rect.false))
