use Rattle.page_board.proofs.Keeping.{same_state_is_kept}
use Rattle.page_board.proofs.laws.same_state_is_kept.Goals as goal

pub returns : goal.returns
returns c = same_state_is_kept
