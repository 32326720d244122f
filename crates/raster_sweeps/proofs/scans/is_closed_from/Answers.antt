use Rattle.std.proofs.Common.{arith}
use Rattle.grid_core.specs.Rects.{domain_in}
use Rattle.raster_sweeps.proofs.ImageRows.{beside_closed}
use Rattle.raster_sweeps.proofs.scans.is_closed_from.Goals as goal

pub returns : goal.returns
returns c closed p q raises rows =
    let rect = c.args.rect in
    omega (
      arith,
      raises.lower,
      beside_closed (domain_in rect c.args.conn)
          c.row_in-raising.ensures c.row_in-limits.ensures c.row_in.ensures c.requires.touch
          (c.is_closed_to.ensures.0 closed) p q raises.from_inside raises.to_inside raises.beside rows.0 rows.1,
    )
