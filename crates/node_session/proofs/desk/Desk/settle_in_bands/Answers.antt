-- What the tactics leave open of `settle_in_bands`.
use Rattle.std.proofs.Common.{refl}
use Rattle.link_nodes.proofs.SameNodes.{same_node}
use Rattle.node_session.proofs.Desks.{settled_stays}
use Rattle.node_session.proofs.desk.Desk.settle_in_bands.Goals as goal

pub returns-clause-silent : goal.returns-clause-silent
returns-clause-silent g c =
    let did = c.settle_in_bands-slice.ensures in (
      settled_stays c.args.jobs _ _ (did.rest, (c.settle_in_bands-slice.result, did.settled)) did.untouched.studio
          (same_node _),
      refl,
    )
