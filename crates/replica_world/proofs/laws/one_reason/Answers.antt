use Rattle.replica_world.proofs.Outcomes.{one_reason}
use Rattle.replica_world.proofs.laws.one_reason.Goals as goal

pub returns : goal.returns
returns c = one_reason c.at_most_one_frame.ensures c.one_refusal.ensures
