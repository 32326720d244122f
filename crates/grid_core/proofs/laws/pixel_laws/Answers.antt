use Rattle.grid_core.proofs.Cells.{set_is_read, set_keeps_others, below_at_each_pixel, each_pixel_below}
use Rattle.grid_core.proofs.laws.pixel_laws.Goals as goal

pub returns : goal.returns
returns c = record {
  set_is_read = set_is_read;
  set_keeps_others = set_keeps_others;
  below_at_each_pixel = below_at_each_pixel;
  each_pixel_below = each_pixel_below;
}
