-- What the loop of `first_without_both` keeps.
use Rattle.std.proofs.Common.{◌+◌, ◌-◌, ◌≤◌, length}
use Rattle.tile_work.proofs.TileSetPairs.{AreNoneUntil}
use Rattle.tile_work.proofs.tile_set.TileSet.first_without_both.Given as goal

-- no tile so far is in the first set alone
abbrev pub invariant-loop-tile : goal.invariant-loop-tile
invariant-loop-tile l = (l.start ≤ l.from) × AreNoneUntil l.self l.other l.third l.start l.from

abbrev pub decreases-loop-tile : goal.decreases-loop-tile
decreases-loop-tile l = length l.self + 64 - l.from
