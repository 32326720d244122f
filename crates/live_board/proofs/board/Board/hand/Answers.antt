use Rattle.live_board.proofs.{Boards.has_word_0, Stepping.enters}
use Rattle.live_board.proofs.board.Board.hand.Goals as goal

pub load_new_seat-word-requires : goal.load_new_seat-word-requires
load_new_seat-word-requires c = (has_word_0 c.args.self.now, enters _ _)
