use Rattle.live_board.proofs.Telling.{begun_is}
use Rattle.live_board.specs.{Seats.keeper_view, declared.rule.SeatView.SeatView}
use Rattle.live_board.proofs.keeper.KeeperSeat.exchange.Goals as goal

pub returns-clause-risen : goal.returns-clause-risen
returns-clause-risen c =
    let v : SeatView = keeper_view c.args.self.now in
    let rises = c.rise.ensures.view in
    begun_is v c.rise.new.seat.me.0 rises.0 v.generation c.args.marker rises.1
