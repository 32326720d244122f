-- What the loop of `is_one_spent` keeps.
use Rattle.std.proofs.Common.{◌≡◌, ℕ, ◌+◌, ◌-◌, ◌<◌, length, slice_index_or}
use Rattle.tile_generations.specs.Generations.{max_generation}
use Rattle.border_queues.specs.TileWork.{idle}
use Rattle.tile_work.specs.TileSet.{Has}
use Rattle.tile_work.proofs.hits.is_one_spent.Given as goal

-- none of the tiles so far has
abbrev pub invariant-loop-tile : goal.invariant-loop-tile
invariant-loop-tile l =
    (t : ℕ) → t < l.start → Has l.marks t → (slice_index_or l.work t idle).generation ≡ max_generation → ⊥

abbrev pub decreases-loop-tile : goal.decreases-loop-tile
decreases-loop-tile l = length l.marks + 1 - l.start
