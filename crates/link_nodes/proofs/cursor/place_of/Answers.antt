use Rattle.std.proofs.Common.{◌∙◌}
use Rattle.link_nodes.proofs.cursor.place_of.Goals as goal

pub is_of-requires : goal.is_of-requires
is_of-requires c = λ cursor is. c.requires cursor (c.in-Some.is ∙ is)
