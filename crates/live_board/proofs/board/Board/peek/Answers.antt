use Rattle.live_board.proofs.{Boards.has_word_0, Stepping.enters}
use Rattle.live_board.proofs.board.Board.peek.Goals as goal

pub load_new_seat-seat-requires : goal.load_new_seat-seat-requires
load_new_seat-seat-requires c = (has_word_0 c.args.self.now, enters _ _)
