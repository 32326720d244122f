use Rattle.std.proofs.Common.{◌≡◌, ◌≤◌, take}
use Rattle.border_queues.specs.TileWork.{dirty_count}
use Rattle.page_board.proofs.board.PageBoard.dirty_count.Given as goal

-- the dirty tiles before this one are counted
abbrev pub invariant-loop-tile : goal.invariant-loop-tile
invariant-loop-tile l = (l.count ≡ dirty_count (take l.tile l.self-inside.core.tiles)) × (l.count ≤ l.tile)
