use Rattle.std.proofs.Common.{refl}
use Rattle.link_nodes.proofs.SameNodes.{same_node}
use Rattle.node_session.proofs.desk.Desk.turn.Goals as goal

pub returns-clause-silent : goal.returns-clause-silent
returns-clause-silent c =
    let did = c.turn-turned.ensures in (
      record {
        opening = did.turn.opening;
        grows = did.turn.grows;
        company = record { pens = did.pens; studio = did.untouched.studio };
        node = same_node c.args.self.now.node;
      },
      refl,
    )

pub returns-clause-turn : goal.returns-clause-turn
returns-clause-turn c = record {
  turned = c.turn-turned.result;
  takes = c.turn-turned.ensures.turn;
  says = c.is_busy.ensures;
}
