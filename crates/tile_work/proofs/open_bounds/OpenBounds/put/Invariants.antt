-- What the loop of `put` keeps.
use Rattle.std.proofs.Common.{◌≡◌, map, take}
use Rattle.tile_work.specs.Cutting.{in_whole, with_part}
use Rattle.tile_work.proofs.open_bounds.OpenBounds.put.Given as goal

abbrev pub invariant-loop-place : goal.invariant-loop-place
invariant-loop-place l = l.self ≡ with_part l.first (map (in_whole l.rows) (take l.place l.band)) l.fn.self
