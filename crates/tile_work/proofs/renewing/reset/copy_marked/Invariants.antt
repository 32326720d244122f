-- What the loop of `copy_marked` keeps.
use Rattle.std.proofs.Common.{◌-◌, length}
use Rattle.tile_work.specs.Renewing.{AreCopiedIn}
use Rattle.tile_work.proofs.RenewingResets.{IsMarkedBefore}
use Rattle.tile_work.proofs.renewing.reset.copy_marked.Given as goal

-- the marked tiles before this one are copied
abbrev pub invariant-loop-tile : goal.invariant-loop-tile
invariant-loop-tile l = AreCopiedIn l.tiling (IsMarkedBefore l.marks l.from) l.marker l.fn.image l.image

-- the tiles that are left to look at
abbrev pub decreases-loop-tile : goal.decreases-loop-tile
decreases-loop-tile l = length l.marks - l.from
