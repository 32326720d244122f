use Rattle.std.proofs.Common.{arith}
use Rattle.raster_sweeps.proofs.Ways.{way_down, way_up}
use Rattle.raster_sweeps.proofs.corridors.rows_around.Goals as goal

pub returns-clause-down : goal.returns-clause-down
returns-clause-down c =
    way_down c.args.rect c.args.width c.args.cell c.requires.inside.0 c.requires.columns c.requires.inside.1
    c.requires.inside.2 (omega (arith, c.if-x-rect.false)) (omega (arith, c.if-x-rect-2.false))
    (omega (arith, c.if-y-rect.false)) (omega (arith, c.if-y-end.false))

pub returns-clause-up : goal.returns-clause-up
returns-clause-up c =
    way_up c.args.rect c.args.width c.args.cell c.requires.inside.0 c.requires.columns c.requires.inside.1
    c.requires.inside.2 (omega (arith, c.if-x-rect.false)) (omega (arith, c.if-x-rect-2.false))
    (omega (arith, c.if-y-rect.false)) (omega (arith, c.if-y-end.false))
