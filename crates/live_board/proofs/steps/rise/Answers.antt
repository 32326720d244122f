use Rattle.live_board.proofs.{Boards.has_word_0, Stepping.rises}
use Rattle.live_board.proofs.steps.rise.Goals as goal

pub fetch_add-requires : goal.fetch_add-requires
fetch_add-requires g c = (
  c.requires.seat.table_is,
  has_word_0 c.args.board.now,
  rw (c.args.board.now.about, c.requires.brings)
      (rises _ _ _ c.args.seat.now.me c.args.marker.now c.requires.keeper c.requires.above),
)
