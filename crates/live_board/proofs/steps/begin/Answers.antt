use Rattle.live_board.proofs.{Boards.has_word_0, Stepping.begins}
use Rattle.live_board.proofs.steps.begin.Goals as goal

pub fetch_add-requires : goal.fetch_add-requires
fetch_add-requires g c = (
  c.requires.seat.table_is,
  has_word_0 c.args.board.now,
  begins _ _ _ c.args.seat.now.me g.J.Brings.marker c.requires.keeper c.requires.room,
)
