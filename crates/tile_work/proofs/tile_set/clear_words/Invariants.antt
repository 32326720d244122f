-- What the loop of `clear_words` keeps.
use Rattle.std.proofs.Common.{◌≡◌, ℕ, ◌*◌, ◌-◌, ◌/◌, ◌≤◌, length}
use Rattle.tile_work.specs.TileSet.{bit_of}
use Rattle.tile_work.proofs.tile_set.clear_words.Given as goal

abbrev pub invariant-loop-word : goal.invariant-loop-word
invariant-loop-word l =
    (length l.words ≡ length l.fn.words)
    × ((place : ℕ) → bit_of l.words place ≡ 1 → (l.from ≤ place / 64) × (bit_of l.summary (place / 64) ≡ 1))

abbrev pub decreases-loop-word : goal.decreases-loop-word
decreases-loop-word l = 64 * length l.summary - l.from
