use Rattle.std.proofs.lemmas.Result.{IfOk-from_err}
use Rattle.replica_world.proofs.replica.Replica.give_back.Goals as goal

pub returns-in_err-copy-clause-given : goal.returns-in_err-copy-clause-given
returns-in_err-copy-clause-given c = IfOk-from_err _ _ c.from_residual.ensures.0
