use Rattle.std.proofs.Common.{arith}
use Rattle.reset_core.specs.Scheduling.{kept_of}
use Rattle.reset_core.proofs.Scheduling.{hint_handed}
use Rattle.reset_core.proofs.replica.Core.run_step.Goals as goal

pub returns-in-Edit-clause-keeps : goal.returns-in-Edit-clause-keeps
returns-in-Edit-clause-keeps c = record {
  few = omega (arith, c.edit.ensures.keeps.abandons);
  room = rw c.in-Edit.is c.edit.ensures.keeps.room;
}

pub returns-in-Take-clause-keeps : goal.returns-in-Take-clause-keeps
returns-in-Take-clause-keeps c = record {
  few = omega (arith, c.take_and_sweep.ensures.keeps.abandons);
  room = rw c.in-Take.is c.take_and_sweep.ensures.keeps.room;
}

pub returns-in-Abandon-clause-keeps : goal.returns-in-Abandon-clause-keeps
returns-in-Abandon-clause-keeps c = record {
  few = c.abandon_job_of.ensures.keeps.few;
  room = rw c.in-Abandon.is c.abandon_job_of.ensures.keeps.room;
}

pub returns-in-Hand-clause-step : goal.returns-in-Hand-clause-step
returns-in-Hand-clause-step c =
    let before = c.args.self.now in
    let after = c.hand-handed.new.self in
    let kept = kept_of c.args.tally.now in
    rw c.in-Hand.is (hint_handed c.args.number c.in-Hand.tile c.in-Hand.place before after kept c.hand-handed.result
    c.hand-handed.ensures)
