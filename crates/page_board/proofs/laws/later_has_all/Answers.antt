use Rattle.page_board.proofs.Keeping.{later_has_all}
use Rattle.page_board.proofs.laws.later_has_all.Goals as goal

pub returns : goal.returns
returns c = later_has_all
