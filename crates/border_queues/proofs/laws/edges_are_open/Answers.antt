use Rattle.border_queues.proofs.EdgesOpen.{edges_are_open}
use Rattle.border_queues.proofs.laws.edges_are_open.Goals as goal

pub returns : goal.returns
returns c = edges_are_open c.each_pixel_in_one_tile.ensures c.neighbours_by_rows.ensures c.tiles_lie_inside.ensures
