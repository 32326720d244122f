use Rattle.std.proofs.Common.{◌≡◌, ℕ, ◌+◌, ◌<◌, ◌≤◌, length, slice_index, if◌then◌else◌}
use Rattle.tile_generations.specs.Generations.{is_marked}
use Rattle.tile_generations.proofs.generations.raise_marked.Given as goal

abbrev pub invariant-loop-tile : goal.invariant-loop-tile
invariant-loop-tile l =
    let old = l.fn.generations in
    record {
      count : length l.generations ≡ length old;
      done : (t : ℕ) → t < l.tile
          → slice_index l.generations t ≡ (if is_marked l.marks t then slice_index old t + 1 else slice_index old t);
      left : (t : ℕ) → l.tile ≤ t → slice_index l.generations t ≡ slice_index old t;
    }
