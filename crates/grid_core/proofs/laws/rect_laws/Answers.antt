use Rattle.std.proofs.Common.{rules}
use Rattle.grid_core.proofs.Tilings.{tile_pixels}
use Rattle.grid_core.proofs.laws.rect_laws.Goals as goal

pub returns : goal.returns
returns c = record {
  rect_pixels_lie_inside = λ width height rect p fits inside. search rules;
  tile_pixels = tile_pixels;
  neighbours_in_rect = λ rect conn p q. search rules;
}
