use Rattle.live_board.proofs.Telling.{started_is}
use Rattle.live_board.specs.Seats.{hand_view}
use Rattle.live_board.proofs.hand.HandSeat.start.Goals as goal

pub returns-clause-started : goal.returns-clause-started
returns-clause-started c =
    let learnt = c.learn-self.ensures.view in
    started_is (hand_view c.args.self.now) c.learn-self.new.seat.me.0 learnt.0 learnt.1
