use Rattle.live_board.proofs.Rounds.{if_there}
use Rattle.live_board.proofs.hand.HandSeat.raise_if.Goals as goal

pub raise-requires-clause-pixel : goal.raise-requires-clause-pixel
raise-requires-clause-pixel c = c.requires.beside (record { x = c.args.x; y = c.args.y })
    (if_there c.args.is_there c.args.x c.args.y c.if-not-is_there.false)
