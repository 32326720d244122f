use Rattle.std.proofs.Common.{sym, ◌∙◌}
use Rattle.core_rules.specs.Runs.{tickets_out}
use Rattle.core_rules.proofs.Leaving.{abandoned_count}
use Rattle.reset_core.specs.Answers.{IsSlice, IsSliceCutShort}
use Rattle.reset_core.proofs.Scheduling.{on_err}
use Rattle.reset_core.proofs.Settling.{slice_by, slice_shows, cut_short_shows, slice_cut_short, some_work_before}
use Rattle.reset_core.proofs.replica.Core.settle_within.Goals as goal

pub sweep_within-requires-clause-left : goal.sweep_within-requires-clause-left
sweep_within-requires-clause-left c = record {
  none_out = c.hand_all.ensures.handed.none_out;
  no_hints = c.hand_all.ensures.no_hints;
}

pub sweep_within-requires-clause-count : goal.sweep_within-requires-clause-count
sweep_within-requires-clause-count c =
    let cleared = c.abandon_all-abandons in
    c.requires ∙ sym (c.hand_all.ensures.handed.count
    ∙ abandoned_count c.args.self.now cleared.new.self (tickets_out 0 c.args.self.now.tiles) cleared.ensures.clears)

-- ---- where memory was wanting

cut_short : (c : goal.After-from_residual)
    → IsSliceCutShort c.args.self.now c.args.swept.now c.sweep_within.new.self c.sweep_within.new.swept
cut_short c =
    let cleared = c.abandon_all-abandons in
    let failed = c.in_err-jobs.ensures in
    slice_cut_short c.args.self.now cleared.new.self c.hand_all.new.self cleared.ensures.clears
    c.hand_all.ensures.handed c.sweep_within.new.self c.args.swept.now c.sweep_within.new.swept failed.dirty.0
    failed.err.0 failed.err.1

pub returns-in_err-jobs-clause-cut_short : goal.returns-in_err-jobs-clause-cut_short
returns-in_err-jobs-clause-cut_short c = on_err c.from_residual.result (cut_short c)

pub returns-in_err-jobs-clause-some_work : goal.returns-in_err-jobs-clause-some_work
returns-in_err-jobs-clause-some_work c =
    let cleared = c.abandon_all-abandons in
    let failed = c.in_err-jobs.ensures in
    on_err c.from_residual.result (
      some_work_before c.args.self.now cleared.new.self c.hand_all.new.self cleared.ensures.clears
          c.hand_all.ensures.handed failed.dirty.0,
      failed.dirty.1,
    )

pub returns-in_err-jobs-clause-none_out : goal.returns-in_err-jobs-clause-none_out
returns-in_err-jobs-clause-none_out c = rw c.in_err-jobs.ensures.err.0 c.hand_all.ensures.handed.none_out

pub returns-in_err-jobs-clause-unchanged : goal.returns-in_err-jobs-clause-unchanged
returns-in_err-jobs-clause-unchanged c =
    cut_short_shows c.settling_changes_few_tiles.ensures.cut_short c.args.self.now c.sweep_within.new.self
    c.args.swept.now c.sweep_within.new.swept c.soundness.ensures (cut_short c)

-- ---- where none was

slice : (c : goal.After-is_quiet-is_quiet) → IsSlice c.args.self.now c.args.swept.now c.args.jobs (record {
  count = record { jobs = c.in_ok-jobs.jobs; abandons = c.abandon_all-abandons.result };
  is_quiet = c.is_quiet-is_quiet.result;
}) c.sweep_within.new.self c.sweep_within.new.swept
slice c =
    let cleared = c.abandon_all-abandons in
    slice_by c.args.self.now cleared.new.self c.hand_all.new.self cleared.ensures.clears c.hand_all.ensures.handed
    c.settling_so_far_is_within_work.ensures c.one_job_out_a_tile.ensures c.sweep_within.new.self c.args.swept.now
    c.sweep_within.new.swept c.args.jobs c.in_ok-jobs.jobs cleared.result c.is_quiet-is_quiet.result c.soundness.ensures
    cleared.ensures.count c.in_ok-jobs.ensures.works c.is_quiet-is_quiet.ensures

pub returns-clause-slice : goal.returns-clause-slice
returns-clause-slice c = slice c

pub returns-clause-none_out : goal.returns-clause-none_out
returns-clause-none_out c = c.in_ok-jobs.ensures.works.off.none_out

pub returns-clause-unchanged : goal.returns-clause-unchanged
returns-clause-unchanged c =
    let done = slice c in
    slice_shows c.settling_changes_few_tiles.ensures.settling c.args.self.now c.sweep_within.new.self
    c.args.swept.now c.sweep_within.new.swept done.log c.soundness.ensures done.settling done.swept
