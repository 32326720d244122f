use Rattle.page_board.proofs.Keeping.{all_is_kept}
use Rattle.page_board.proofs.laws.all_is_kept.Goals as goal

pub returns : goal.returns
returns c = all_is_kept
