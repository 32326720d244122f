-- What the loop of `count_without` keeps.
use Rattle.std.proofs.Common.{◌≡◌, ◌-◌, ◌≤◌, max}
use Rattle.tile_work.specs.{Counts.count_from, TileSet.is_without}
use Rattle.tile_work.proofs.tile_set.TileSet.count_without.Given as goal

-- the tiles so far are counted
abbrev pub invariant-loop-from : goal.invariant-loop-from
invariant-loop-from l = record {
  later : l.start ≤ l.from;
  within : l.from ≤ max l.start l.end;
  counted : l.total ≡ count_from (is_without l.self l.other) l.start (l.from - l.start);
}

abbrev pub decreases-loop-from : goal.decreases-loop-from
decreases-loop-from l = l.end - l.from
