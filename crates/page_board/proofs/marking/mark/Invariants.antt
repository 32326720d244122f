use Rattle.std.proofs.Common.{◌-◌, length}
use Rattle.page_board.specs.Marking.{AreMarkedWhere}
use Rattle.page_board.proofs.Marked.{IsBefore}
use Rattle.page_board.proofs.marking.mark.Given as goal

-- the tiles of the set before this one are marked
abbrev pub invariant-loop-tile : goal.invariant-loop-tile
invariant-loop-tile l = AreMarkedWhere (IsBefore l.tiles l.from) l.step l.fn.shown l.shown

-- the tiles that are left to look at
abbrev pub decreases-loop-tile : goal.decreases-loop-tile
decreases-loop-tile l = length l.tiles - l.from
