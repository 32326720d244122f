use Rattle.grid_core.proofs.Rectangles.{rect_pixels_lie_in_rect}
use Rattle.grid_core.proofs.laws.rect_pixels_lie_in_rect.Goals as goal

pub returns : goal.returns
returns c = rect_pixels_lie_in_rect
