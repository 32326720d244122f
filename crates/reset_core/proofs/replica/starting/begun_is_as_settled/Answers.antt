-- The law `begun_is_as_settled`, by its lemma.
use Rattle.reset_core.proofs.Starting.{begun_is_as_settled}
use Rattle.reset_core.proofs.replica.starting.begun_is_as_settled.Goals as goal

pub returns : goal.returns
returns c = begun_is_as_settled c.edges_are_open.ensures
