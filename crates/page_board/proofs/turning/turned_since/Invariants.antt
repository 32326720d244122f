use Rattle.std.proofs.Common.{take}
use Rattle.page_board.proofs.Turned.{HasTurnedTags}
use Rattle.page_board.proofs.turning.turned_since.Given as goal

-- the tags of the news so far are there
abbrev pub invariant-loop-told : goal.invariant-loop-told
invariant-loop-told l = HasTurnedTags (take l.told-index l.news) l.since l.tags.items
