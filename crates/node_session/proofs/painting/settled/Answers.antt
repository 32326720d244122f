use Rattle.std.proofs.Common.{◌∙◌}
use Rattle.node_session.proofs.Settled.{settled_keeps}
use Rattle.node_session.proofs.painting.settled.Goals as goal

pub returns-in-Ok-clause-quiet : goal.returns-in-Ok-clause-quiet
returns-in-Ok-clause-quiet g c = c.in-Ok.ensures.settled.settled.1.quiet

pub returns-in-Ok-clause-same : goal.returns-in-Ok-clause-same
returns-in-Ok-clause-same g c =
    let first = c.settle_in_threads.ensures in
    let keeps = settled_keeps _ c.in-Ok.ensures.settled.settled.0 _ c.in-Ok.ensures.settled.settled.1 in
    record {
      mask_is = keeps.mask ∙ first.mask_is;
      conn_is = keeps.conn ∙ first.conn_is;
      state_is = keeps.state ∙ first.state_is;
    }
