use Rattle.std.proofs.Common.{◌-◌}
use Rattle.grid_core.specs.declared.conn.Conn.{Conn}
use Rattle.raster_sweeps.specs.{Corridors.IsBehind, Corridors.IsFollowed, Corridors.IsWay, Growth.rows_of}
use Rattle.raster_sweeps.proofs.corridors.follow_column.Given as goal

abbrev pub invariant-loop : goal.invariant-loop
invariant-loop l = record {
  followed : (conn : Conn) → IsFollowed conn l.rect (rows_of l.size l.mask) (rows_of l.size l.fn.image)
      (rows_of l.size l.image) l.cell l.at;
  way : IsWay l.rect l.size.w l.last l.at (l.count - l.counter);
  behind : IsBehind (rows_of l.size l.mask) (rows_of l.size l.image) l.last l.at;
}
