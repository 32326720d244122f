use Rattle.std.proofs.Common.{arith}
use Rattle.live_board.proofs.Rounds.{along_more}
use Rattle.live_board.specs.{Seats.ground_of, Seats.hand_view}
use Rattle.live_board.proofs.hand.HandSeat.go_along.Goals as goal

pub loop-column-preserved : goal.loop-column-preserved
loop-column-preserved c =
    let kept = c.loop-column.invariant in (
      c.visit-rose.ensures.hand,
      omega (arith, kept.1, c.visit-rose.ensures.few),
      along_more (ground_of c.args.board.now) c.args.y c.width-width.result c.args.back c.loop-column.column
          c.nth-x.result c.loop-column.rose c.visit-rose.result (hand_view c.args.self.now)
          (hand_view c.loop-column.self) (hand_view c.visit-rose.new.self) c.width-width.ensures.value
          c.nth-x.ensures.value kept.2 c.visit-rose.ensures.visits,
    )
