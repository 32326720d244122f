-- What the loop of `make_room` keeps.
use Rattle.std.proofs.Common.{◌≡◌, ℕ, ◌<◌, ◌≤◌, slice_index}
use Rattle.tile_work.specs.WorkTable.{works_of, rooms_of}
use Rattle.tile_work.proofs.work_table.delivery.make_room.Given as goal

abbrev pub invariant-loop-place : goal.invariant-loop-place
invariant-loop-place l = record {
  works : works_of l.rows ≡ works_of l.fn.rows;
  room : (k : ℕ) → k < l.place → slice_index l.counts k ≤ slice_index (rooms_of l.rows) (slice_index l.tiles k);
}
