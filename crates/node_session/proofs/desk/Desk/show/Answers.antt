use Rattle.std.proofs.Common.{refl, sym, ap, ◌∙◌}
use Rattle.core_dispatch.specs.{declared.pen.Pen.Pen, Pens.submitted}
use Rattle.link_nodes.proofs.SameNodes.{same_node}
use Rattle.node_session.proofs.Desks.{stays_over}
use Rattle.node_session.proofs.desk.Desk.show.Goals as goal

-- the receipt is of the keeper's studio, which is the node's
pub learn-requires : goal.learn-requires
learn-requires g c = record { studio = c.in-Ok.ensures.told_studio ∙ sym c.requires }

pub returns-in-Ok-clause-silent : goal.returns-in-Ok-clause-silent
returns-in-Ok-clause-silent g c = (
  stays_over _ _ c.in-Ok.ensures.books c.in-Ok.ensures.studio c.learn.ensures.same,
  ap (λ (pen : Pen). submitted pen) c.learn.ensures.pen,
)

pub returns-in_default-clause-silent : goal.returns-in_default-clause-silent
returns-in_default-clause-silent g c =
    (stays_over _ _ c.in_default.ensures.books c.in_default.ensures.studio (same_node _), refl)

pub returns-in-Ok-clause-books : goal.returns-in-Ok-clause-books
returns-in-Ok-clause-books g c = c.in-Ok.ensures.books

pub returns-in_default-clause-books : goal.returns-in_default-clause-books
returns-in_default-clause-books g c = c.in_default.ensures.books
