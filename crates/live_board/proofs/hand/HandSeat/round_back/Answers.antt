use Rattle.std.proofs.Common.{◌-◌, subst, true, ℕ}
use Rattle.live_board.specs.{Rounds.GoesThrough, Rounds.nth, Seats.ground_of, Seats.hand_view}
use Rattle.live_board.proofs.hand.HandSeat.round_back.Goals as goal

pub returns-clause-round : goal.returns-clause-round
returns-clause-round c = record {
  started = hand_view c.start.new.self;
  start = c.start.ensures.started;
  goes = subst (λ (h : ℕ). GoesThrough (ground_of c.args.board.now) (nth 0 h true) true (h - 0) c.go_through.result
      (hand_view c.start.new.self) (hand_view c.go_through.new.self)) c.height.ensures.value c.go_through.ensures.goes;
}
