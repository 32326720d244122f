use Rattle.live_board.proofs.Rounds.{all_rows}
use Rattle.live_board.specs.Seats.{ground_of, hand_view}
use Rattle.live_board.proofs.hand.HandSeat.round.Goals as goal

pub returns-clause-round : goal.returns-clause-round
returns-clause-round c = record {
  started = hand_view c.start.new.self;
  start = c.start.ensures.started;
  goes = all_rows (ground_of c.args.board.now) c.height.result c.go_through.result (hand_view c.start.new.self)
      (hand_view c.go_through.new.self) c.height.ensures.value c.go_through.ensures.goes;
}
