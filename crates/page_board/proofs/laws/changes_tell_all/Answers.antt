use Rattle.page_board.proofs.Told.{changes_tell_all}
use Rattle.page_board.proofs.laws.changes_tell_all.Goals as goal

pub returns : goal.returns
returns c = changes_tell_all c.each_pixel_in_one_tile.ensures
