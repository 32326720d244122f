use Rattle.std.proofs.Common.{◌∙◌}
use Rattle.reset_core.proofs.Scheduling.{on_err}
use Rattle.reset_core.proofs.Settling.{cut_before_sweeps, some_work_before, settled_by, settled_within_work}
use Rattle.reset_core.proofs.replica.Core.settle.Goals as goal

pub sweep_all-requires : goal.sweep_all-requires
sweep_all-requires c = record {
  none_out = c.hand_all.ensures.handed.none_out;
  no_hints = c.hand_all.ensures.no_hints;
}

pub returns-in_err-jobs-clause-cut_short : goal.returns-in_err-jobs-clause-cut_short
returns-in_err-jobs-clause-cut_short c =
    let cleared = c.abandon_all-abandons in
    let failed = c.in_err-jobs.ensures in
    let (log, cut, none_taken) =
    cut_before_sweeps c.args.self.now cleared.new.self c.hand_all.new.self cleared.ensures.clears
    c.hand_all.ensures.handed c.sweep_all.new.self failed.dirty failed.err in
    on_err c.from_residual.result (log, cut)

pub returns-in_err-jobs-clause-some_work : goal.returns-in_err-jobs-clause-some_work
returns-in_err-jobs-clause-some_work c =
    let cleared = c.abandon_all-abandons in
    on_err c.from_residual.result
    (some_work_before c.args.self.now cleared.new.self c.hand_all.new.self cleared.ensures.clears
    c.hand_all.ensures.handed c.in_err-jobs.ensures.dirty)

pub returns-clause-settled : goal.returns-clause-settled
returns-clause-settled c =
    let cleared = c.abandon_all-abandons in
    let worked = c.in_ok-jobs in
    let settled =
    settled_by c.args.self.now cleared.new.self c.hand_all.new.self cleared.ensures.clears c.hand_all.ensures.handed
    c.sweep_all.new.self worked.jobs cleared.result cleared.ensures.count worked.ensures.works.works
    worked.ensures.works.quiet in
    let within =
    settled_within_work c.settling_is_within_work.ensures c.args.self.now c.sweep_all.new.self worked.jobs
    cleared.result c.soundness.ensures settled in
    record {
      settled = settled;
      bound = within.0;
      owes_nothing = within.1;
      abandons_are = cleared.ensures.count ∙ c.one_job_out_a_tile.ensures c.args.self.now;
    }
