use Rattle.std.proofs.Common.{◌≡◌, ℕ, ◌<◌, slice_index, IsTrue}
use Rattle.tile_generations.specs.Generations.{max_generation, is_marked}
use Rattle.tile_generations.proofs.generations.is_spent.Given as goal

abbrev pub invariant-loop-tile : goal.invariant-loop-tile
invariant-loop-tile l = record {
  so_far :
      (t : ℕ) → t < l.tile → IsTrue (is_marked l.marks t) → slice_index l.generations t ≡ max_generation → ⊥;
}
