use Rattle.live_board.proofs.Telling.{peek_is}
use Rattle.live_board.specs.Seats.{ground_of, peek_view}
use Rattle.live_board.proofs.peek.PeekSeat.peek.Goals as goal

pub returns-clause-peeked : goal.returns-clause-peeked
returns-clause-peeked c =
    let learnt = c.learn-generation.ensures.view in
    peek_is (ground_of c.args.board.now) (peek_view c.args.self.now) c.load-word.new.seat.me.0
    c.learn-generation.new.seat.me.0 c.args.pixel c.load-word.result learnt.0 c.learn-generation.result c.of.result
    c.load-word.ensures.view c.load-word.ensures.highest learnt.1 learnt.2 c.of.ensures
