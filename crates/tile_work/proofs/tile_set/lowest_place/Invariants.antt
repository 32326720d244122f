-- What the loop of `lowest_place` keeps.
use Rattle.std.proofs.Common.{◌≡◌, ℕ, ◌/◌, ◌<◌, ◌≤◌}
use Rattle.tile_work.specs.TileSet.{bit_of}
use Rattle.tile_work.proofs.tile_set.lowest_place.Given as goal

abbrev pub invariant-loop-next : goal.invariant-loop-next
invariant-loop-next l = (place : ℕ) → l.start ≤ place → place / 64 < l.next → bit_of l.words place ≡ 0
