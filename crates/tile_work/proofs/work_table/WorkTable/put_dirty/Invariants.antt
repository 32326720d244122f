-- What the loop of `put_dirty` keeps.
use Rattle.std.proofs.Common.{◌≡◌, take}
use Rattle.tile_work.specs.Cutting.{with_part}
use Rattle.tile_work.proofs.work_table.WorkTable.put_dirty.Given as goal

-- the tiles so far are marked as the band's
abbrev pub invariant-loop-place : goal.invariant-loop-place
invariant-loop-place l = l.self ≡ with_part l.first (take l.place l.band) l.fn.self
