use Rattle.page_board.proofs.Told.{all_pixels, all_strokes}
use Rattle.page_board.proofs.laws.another_run_is_told_all.Goals as goal

pub returns : goal.returns
returns c = λ b run since text whole other changes. (
  all_pixels c.each_pixel_in_one_tile.ensures b run since text whole other changes,
  all_strokes c.each_pixel_in_one_tile.ensures b run since text whole other changes,
)
