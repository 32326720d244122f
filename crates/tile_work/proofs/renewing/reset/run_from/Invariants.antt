-- What the loop of `run_from` keeps.
use Rattle.std.proofs.Common.{◌≡◌}
use Rattle.tile_work.specs.Renewing.{IsRun}
use Rattle.tile_work.proofs.renewing.reset.run_from.Given as goal

-- the tiles up to this one stand side by side
abbrev pub invariant-loop-tile : goal.invariant-loop-tile
invariant-loop-tile l = (l.end ≡ l.tile) × IsRun l.tiling l.set l.first l.rect l.end
