use Rattle.live_board.proofs.Settled.{flooded_is_grown}
use Rattle.live_board.proofs.laws.flooded_is_grown.Goals as goal

pub returns : goal.returns
returns c = flooded_is_grown
