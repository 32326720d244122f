use Rattle.page_board.proofs.Later.{later_goes_on}
use Rattle.page_board.proofs.laws.later_goes_on.Goals as goal

pub returns : goal.returns
returns c = later_goes_on
