use Rattle.std.proofs.Common.{◌<◌, ◌≤◌, length}
use Rattle.grid_core.specs.Tiles.{rows_of}
use Rattle.reset_core.specs.BandParts.{AreBandsCut}
use Rattle.reset_core.proofs.replica.cutting.cut_into.Given as goal

-- the bands so far are cut out, and at most as many as cuts were looked at
abbrev pub invariant-loop-below : goal.invariant-loop-below
invariant-loop-below l = record {
  cut : AreBandsCut l.tiling l.conn l.limit l.work l.bounds 0 l.bands.items l.above;
  within : l.above < rows_of l.tiling;
  few : length l.bands.items ≤ l.below-index;
}
