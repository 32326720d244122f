use Rattle.live_board.proofs.{Boards.has_word_0, Stepping.learns}
use Rattle.live_board.proofs.steps.learn.Goals as goal

pub load-requires : goal.load-requires
load-requires c =
    (c.requires.seat.table_is, has_word_0 c.args.board.now, learns _ _ _ c.args.seat.now.me)
