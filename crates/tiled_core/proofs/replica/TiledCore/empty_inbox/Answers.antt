-- What the tactics leave open of `empty_inbox`.
use Rattle.tiled_core.proofs.replica.TiledCore.empty_inbox.Goals as goal

pub invariant_of-self : goal.invariant_of-self
invariant_of-self c = rw c.lend_inbox.ensures.same c.self.invariant

pub returns-clause-same : goal.returns-clause-same
returns-clause-same c = rw c.lend_inbox.ensures.same c.self.view_is
