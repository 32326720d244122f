use Rattle.page_board.specs.Strips.{AreStripsTo}
use Rattle.page_board.proofs.strips.strips_since.Given as goal

-- the tiles before this one are covered
abbrev pub invariant-loop-tile : goal.invariant-loop-tile
invariant-loop-tile l = AreStripsTo l.tiling l.shown l.since l.tile l.rects.items
