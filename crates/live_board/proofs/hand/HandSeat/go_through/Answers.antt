use Rattle.std.proofs.Common.{arith}
use Rattle.live_board.proofs.Rounds.{through_more}
use Rattle.live_board.specs.{Rounds.nth, Seats.ground_of, Seats.hand_view}
use Rattle.live_board.proofs.hand.HandSeat.go_through.Goals as goal

pub loop-row-preserved : goal.loop-row-preserved
loop-row-preserved c =
    let kept = c.loop-row.invariant in (
      c.go_along-rose.ensures.hand,
      omega (arith, kept.1, c.go_along-rose.ensures.few),
      through_more (ground_of c.args.board.now) (nth c.args.first c.args.end c.args.back) c.args.back c.loop-row.row
          c.nth.result c.loop-row.rose c.go_along-rose.result (hand_view c.args.self.now) (hand_view c.loop-row.self)
          (hand_view c.go_along-rose.new.self) c.nth.ensures.value kept.2 c.go_along-rose.ensures.goes,
    )
