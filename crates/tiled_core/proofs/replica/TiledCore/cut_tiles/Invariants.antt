-- What the loop of `cut_tiles` keeps.
use Rattle.std.proofs.Common.{◌≡◌}
use Rattle.tiled_core.proofs.replica.TiledCore.cut_tiles.Given as goal

abbrev pub invariant-loop-tile : goal.invariant-loop-tile
invariant-loop-tile l = l.self ≡ l.fn.self
