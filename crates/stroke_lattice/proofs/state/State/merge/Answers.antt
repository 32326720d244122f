use Rattle.stroke_lattice.proofs.Refusing.{conflict_is_least, memory_is_no_conflict}
use Rattle.stroke_lattice.proofs.state.State.merge.Goals as goal

pub returns-in_err-join-in-None-clause-conflict : goal.returns-in_err-join-in-None-clause-conflict
returns-in_err-join-in-None-clause-conflict c = memory_is_no_conflict c.from_residual.result
    c.args.self.now c.args.delta.now c.in-None.ensures c.from_residual.ensures.1

pub returns-in-Some-clause-conflict : goal.returns-in-Some-clause-conflict
returns-in-Some-clause-conflict c = conflict_is_least c.args.self.now c.args.delta.now c.in-Some.tag c.in-Some.ensures
