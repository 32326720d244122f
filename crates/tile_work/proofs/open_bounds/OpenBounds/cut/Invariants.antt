-- What the loop of `cut` keeps.
use Rattle.std.proofs.Common.{◌≡◌, map, take}
use Rattle.tile_work.specs.Cutting.{in_band}
use Rattle.tile_work.proofs.open_bounds.OpenBounds.cut.Given as goal

abbrev pub invariant-loop-bounds : goal.invariant-loop-bounds
invariant-loop-bounds l = l.tiles.items ≡ map (in_band l.rows) (take l.bounds-index l.bounds-items)
