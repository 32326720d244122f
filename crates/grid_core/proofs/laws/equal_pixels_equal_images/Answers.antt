use Rattle.grid_core.proofs.Cells.{equal_images}
use Rattle.grid_core.proofs.laws.equal_pixels_equal_images.Goals as goal

pub returns : goal.returns
returns c = equal_images
