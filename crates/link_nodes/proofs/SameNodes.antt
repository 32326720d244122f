-- Nodes that stay of one image and one studio.
use Rattle.std.proofs.Common.{refl, ◌∙◌}
use Rattle.core_dispatch.proofs.Rings.{desk_stays, desk_through}
use Rattle.link_nodes.specs.{declared.node.Node.Node, Nodes.pen_of, Nodes.IsSameNode}

-- a node is the same as itself
pub same_node : (node : Node) → IsSameNode node node
same_node node = record {
  conn = refl;
  print = refl;
  desk = desk_stays (pen_of node);
  studio = refl;
}

pub same_node_through : (a b c : Node) → IsSameNode a b → IsSameNode b c → IsSameNode a c
same_node_through a b c first second = record {
  conn = second.conn ∙ first.conn;
  print = second.print ∙ first.print;
  desk = desk_through (pen_of a) (pen_of b) (pen_of c) first.desk second.desk;
  studio = second.studio ∙ first.studio;
}
