use Rattle.std.proofs.Common.{◌≡◌, ◌+◌, ◌-◌, arith}
use Rattle.raster_sweeps.proofs.RowGrowth.{grown_from_left, none_open_to_right, start_of}
use Rattle.raster_sweeps.proofs.scans.raise_row_from_left.Goals as goal

pub returns : goal.returns
returns c =
    let start = start_of c.args.rect c.args.size.w c.args.y in
    let long : start + c.args.rect.w - start ≡ c.args.rect.w = omega arith in
    record {
      grown = λ conn. grown_from_left c.requires c.row_in-limits.ensures long c.raise_from_left.ensures;
      closed = λ conn. none_open_to_right c.requires c.row_in-limits.ensures long c.raise_from_left.ensures;
    }
