use Rattle.live_board.proofs.Settled.{spread_is_grown, spread_lasts}
use Rattle.live_board.proofs.laws.spread_is_grown.Goals as goal

pub returns-clause-grown : goal.returns-clause-grown
returns-clause-grown c = spread_is_grown

pub returns-clause-lasts : goal.returns-clause-lasts
returns-clause-lasts c = spread_lasts
