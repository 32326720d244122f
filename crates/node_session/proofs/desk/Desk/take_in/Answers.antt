use Rattle.std.proofs.Common.{refl}
use Rattle.link_nodes.proofs.SameNodes.{same_node}
use Rattle.node_session.proofs.desk.Desk.take_in.Goals as goal

pub returns-clause-silent : goal.returns-clause-silent
returns-clause-silent c =
    let did = c.take_in-taken.ensures in (
      record {
        opening = did.taken.opening;
        grows = did.taken.grows;
        company = record { pens = did.pens; studio = did.untouched.studio };
        node = same_node c.args.self.now.node;
      },
      refl,
    )
