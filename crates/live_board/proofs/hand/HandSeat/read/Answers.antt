use Rattle.live_board.proofs.Telling.{read_is}
use Rattle.live_board.specs.Seats.{ground_of, hand_view}
use Rattle.live_board.proofs.hand.HandSeat.read.Goals as goal

pub returns-clause-read : goal.returns-clause-read
returns-clause-read c = read_is (ground_of c.args.board.now) (hand_view c.args.self.now) c.load-word.new.seat.me.0
    c.args.pixel c.load-word.result c.args.self.now.generation c.of.result c.load-word.ensures.view
    c.load-word.ensures.highest c.args.self.now.same c.of.ensures
