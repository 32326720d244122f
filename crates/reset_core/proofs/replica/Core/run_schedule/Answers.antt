use Rattle.std.proofs.Common.{◌+◌, [], ◌∷◌, drop, refl, subst, arith, inl}
use Rattle.std.proofs.lemmas.List.{take_all}
use Rattle.core_rules.specs.Schedule.{edits_of}
use Rattle.reset_core.specs.Scheduling.{kept_of, HasRoom}
use Rattle.reset_core.proofs.Scheduling.{on_err, none_run, one_more_run, all_run, run_stops, run_within_work}
use Rattle.reset_core.proofs.Scheduling.{next_edits, room_for_fewer}
use Rattle.reset_core.proofs.replica.Core.run_schedule.Goals as goal

pub returns-in_err-tally-clause-stopped : goal.returns-in_err-tally-clause-stopped
returns-in_err-tally-clause-stopped c =
    on_err c.from_residual.result (inl (omega (arith, c.in_err-tally.ensures.some, c.count_edits.ensures), refl))

pub loop-i-init : goal.loop-i-init
loop-i-init c =
    let tally = c.in_ok-tally.tally in (
      none_run c.args.self.now c.args.steps.now (kept_of tally) c.in_ok-tally.ensures.empty.0,
      subst (HasRoom tally) c.count_edits.ensures c.in_ok-tally.ensures.empty.1,
    )

pub run_step-requires-clause-few : goal.run_step-requires-clause-few
run_step-requires-clause-few c = omega (arith, c.loop-i.invariant.0.few)

pub run_step-requires-clause-room : goal.run_step-requires-clause-room
run_step-requires-clause-room c =
    let all = c.args.steps.now in
    let i = c.loop-i.i in
    let step = c.index-steps-i.result in
    room_for_fewer c.loop-i.tally (edits_of (drop i all)) (edits_of (step ∷ [])) c.loop-i.invariant.1
    (omega (arith, next_edits all i step (omega arith) c.index-steps-i.is))

pub loop-i-preserved : goal.loop-i-preserved
loop-i-preserved c =
    let all = c.args.steps.now in
    let i = c.loop-i.i in
    let step = c.index-steps-i.result in
    let next = next_edits all i step (omega arith) c.index-steps-i.is in (
      one_more_run c.args.self.now all i c.loop-i.self c.run_step.new.self (kept_of c.loop-i.tally)
          (kept_of c.run_step.new.tally) step c.loop-i.invariant.0 (omega arith) c.index-steps-i.is
          c.in_ok-run_step.ensures.step c.run_step.ensures.keeps.few,
      c.run_step.ensures.keeps.room (edits_of (drop (i + 1) all)) (rw next at c.loop-i.invariant.1),
    )

pub returns-in_err-run_step-clause-stopped : goal.returns-in_err-run_step-clause-stopped
returns-in_err-run_step-clause-stopped c =
    on_err c.from_residual-in_err-run_step.result
    (run_stops c.args.self.now c.args.steps.now c.loop-i.i c.loop-i.self c.run_step.new.self (kept_of c.loop-i.tally)
    c.index-steps-i.result c.loop-i.invariant.0 (omega arith) c.index-steps-i.is c.in_err-run_step.ensures.err)

pub returns-clause-ran : goal.returns-clause-ran
returns-clause-ran c =
    all_run c.args.self.now c.args.steps.now c.loop-i.i c.loop-i.self (kept_of c.loop-i.tally) c.into_ran.result
    c.loop-i.invariant.0 (take_all c.loop-i.i c.args.steps.now (omega arith)) c.into_ran.ensures

pub returns-clause-bound : goal.returns-clause-bound
returns-clause-bound c =
    run_within_work c.schedule_is_within_work.ensures c.args.self.now c.loop-i.self c.args.steps.now c.into_ran.result
    c.soundness.ensures
    (all_run c.args.self.now c.args.steps.now c.loop-i.i c.loop-i.self (kept_of c.loop-i.tally) c.into_ran.result
    c.loop-i.invariant.0 (take_all c.loop-i.i c.args.steps.now (omega arith)) c.into_ran.ensures)
