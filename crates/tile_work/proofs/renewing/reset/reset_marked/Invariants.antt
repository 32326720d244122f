-- What the loop of `reset_marked` keeps.
use Rattle.std.proofs.Common.{◌≡◌, ◌-◌, length}
use Rattle.tile_work.specs.Renewing.{AreReset, AreResetsWithin}
use Rattle.tile_work.proofs.RenewingResets.{IsMarkedBefore}
use Rattle.tile_work.proofs.renewing.reset.reset_marked.Given as goal

-- the work of the marked tiles before this one is reset
abbrev pub invariant-loop-tile : goal.invariant-loop-tile
invariant-loop-tile l =
    (length l.work ≡ length l.fn.work)
    × AreReset l.tiling (IsMarkedBefore l.marks l.from) l.marker l.image l.image l.fn.work l.work
    × AreResetsWithin l.tiling (IsMarkedBefore l.marks l.from) l.fn.bounds l.bounds

-- the tiles that are left to look at
abbrev pub decreases-loop-tile : goal.decreases-loop-tile
decreases-loop-tile l = length l.marks - l.from
