use Rattle.std.proofs.Common.{sym, subst}
use Rattle.border_queues.specs.OpenEdges.{EdgesBeginIn}
use Rattle.border_queues.proofs.Bounded.{tile_has_edges}
use Rattle.border_queues.proofs.laws.edges_begin_in_tile.Goals as goal

pub returns : goal.returns
returns c = λ s bounds tiled within same. subst (EdgesBeginIn s) (sym same)
    (tile_has_edges c.each_pixel_in_one_tile.ensures s tiled within)
