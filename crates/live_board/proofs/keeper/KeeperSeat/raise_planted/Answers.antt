use Rattle.live_board.proofs.Planted.{image_known, marker_known}
use Rattle.live_board.specs.Seats.{ground_of, keeper_view}
use Rattle.live_board.proofs.keeper.KeeperSeat.raise_planted.Goals as goal

pub plant_risen-requires-clause-known : goal.plant_risen-requires-clause-known
plant_risen-requires-clause-known c =
    let v = keeper_view c.args.self.now in
    image_known (ground_of c.args.board.now) v (keeper_view c.exchange-before.new.self) c.exchange-before.result
    c.requires.keeper.below (marker_known c.args.self.now.is_planted v c.args.self.now.known c.if-was_planted.true)
    c.exchange-before.ensures.before c.exchange-before.ensures.risen.facts
    c.exchange-before.ensures.risen.generation_is
