use Rattle.page_board.proofs.Later.{each_is_later}
use Rattle.page_board.proofs.laws.each_is_later.Goals as goal

pub returns : goal.returns
returns c = each_is_later
