use Rattle.grid_core.proofs.Tilings.{each_pixel_in_one_tile}
use Rattle.grid_core.proofs.laws.each_pixel_in_one_tile.Goals as goal

pub returns : goal.returns
returns c = each_pixel_in_one_tile
