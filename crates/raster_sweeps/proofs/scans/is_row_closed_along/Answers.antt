use Rattle.std.proofs.Common.{refl, arith}
use Rattle.grid_core.specs.Rects.{domain_in}
use Rattle.raster_sweeps.proofs.ImageRows.{aside_closed}
use Rattle.raster_sweeps.proofs.scans.is_row_closed_along.Goals as goal

pub returns : goal.returns
returns c conn closed p q raises rows =
    let rect = c.args.rect in
    omega (
      arith,
      raises.lower,
      aside_closed (domain_in rect conn)
          c.row_in.ensures c.row_in-2.ensures c.row_in.ensures refl (c.is_closed_along.ensures.0 closed) p q
          raises.from_inside raises.to_inside raises.beside rows.0 rows.1,
    )
