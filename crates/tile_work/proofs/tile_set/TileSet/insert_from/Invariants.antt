-- What the loop of `insert_from` keeps.
use Rattle.std.proofs.Common.{◌-◌, length}
use Rattle.tile_work.specs.TileSet.{HasGained}
use Rattle.tile_work.proofs.TileSetShifts.{IsMovedBefore}
use Rattle.tile_work.proofs.tile_set.TileSet.insert_from.Given as goal

abbrev pub invariant-loop-tile : goal.invariant-loop-tile
invariant-loop-tile l = HasGained l.fn.self (IsMovedBefore l.first l.other l.next) l.self

abbrev pub decreases-loop-tile : goal.decreases-loop-tile
decreases-loop-tile l = length l.other - l.next
