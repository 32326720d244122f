-- What the loop of `dirty_tiles` keeps.
use Rattle.std.proofs.Common.{◌≡◌, ◌-◌, ◌++◌, false, length, replicate, take}
use Rattle.tile_work.specs.WorkTable.{dirty_bits, works_of}
use Rattle.tile_work.proofs.work_table.cutting.dirty_tiles.Given as goal

-- the set says what the rows so far say, and has no tile behind them
abbrev pub invariant-loop-tile : goal.invariant-loop-tile
invariant-loop-tile l =
    l.set ≡ dirty_bits (works_of (take l.tile l.rows)) ++ replicate (length l.rows - l.tile) false
