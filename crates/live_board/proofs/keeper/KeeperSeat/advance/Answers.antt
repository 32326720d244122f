use Rattle.std.proofs.Common.{◌+◌}
use Rattle.live_board.proofs.Telling.{begun_is}
use Rattle.live_board.specs.{Seats.keeper_view, declared.rule.SeatView.SeatView}
use Rattle.live_board.proofs.keeper.KeeperSeat.advance.Goals as goal

pub returns-clause-advanced : goal.returns-clause-advanced
returns-clause-advanced c =
    let v : SeatView = keeper_view c.args.self.now in
    let begins = c.begin.ensures.view in
    begun_is v c.begin.new.seat.me.0 begins.0 (v.generation + 1) c.args.marker begins.1
