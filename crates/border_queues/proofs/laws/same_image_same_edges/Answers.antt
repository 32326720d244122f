use Rattle.border_queues.proofs.SameEdges.{same_image_same_edges}
use Rattle.border_queues.proofs.laws.same_image_same_edges.Goals as goal

pub returns : goal.returns
returns c =
    same_image_same_edges c.each_pixel_in_one_tile.ensures c.neighbours_by_rows.ensures c.tiles_lie_inside.ensures
