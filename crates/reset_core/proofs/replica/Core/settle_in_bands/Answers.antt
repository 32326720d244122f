use Rattle.std.proofs.Common.{ℕ, ◌+◌, ◌-◌, ◌∙◌, sym, subst, inl, inr, arith}
use Rattle.core_rules.specs.{Work.Core, Runs.IsDirty, Runs.abandoned, Runs.tickets_out}
use Rattle.core_rules.proofs.{Leaving.abandoned_count, Running.run_keeps_sound}
use Rattle.reset_core.proofs.Scheduling.{on_err}
use Rattle.reset_core.proofs.Settling.{some_work_before}
use Rattle.reset_core.proofs.Bands.Settling.{bands_cut_short, run_in_bands, run_of_rest, run_shows, slice_in_bands}
use Rattle.reset_core.proofs.replica.Core.settle_in_bands.Goals as goal

pub sweep_in_bands-in_bands-requires-clause-left : goal.sweep_in_bands-in_bands-requires-clause-left
sweep_in_bands-in_bands-requires-clause-left g c _ _ = record {
  none_out = c.hand_all.ensures.handed.none_out;
  no_hints = c.hand_all.ensures.no_hints;
}

pub sweep_in_bands-in_bands-requires-clause-count : goal.sweep_in_bands-in_bands-requires-clause-count
sweep_in_bands-in_bands-requires-clause-count g c _ _ =
    let cleared = c.abandon_all-abandons in
    c.requires ∙ sym (c.hand_all.ensures.handed.count
    ∙ abandoned_count c.args.self.now cleared.new.self (tickets_out 0 c.args.self.now.tiles) cleared.ensures.clears)

pub sweep_within-requires-clause-left : goal.sweep_within-requires-clause-left
sweep_within-requires-clause-left g c = c.sweep_in_bands-in_bands.ensures.swept.swept.left

pub sweep_within-requires-clause-count : goal.sweep_within-requires-clause-count
sweep_within-requires-clause-count g c =
    let cleared = c.abandon_all-abandons in
    let bands = c.sweep_in_bands-in_bands.ensures.swept in
    bands.gained.count ∙ c.requires ∙ sym (bands.swept.count ∙ c.hand_all.ensures.handed.count
    ∙ abandoned_count c.args.self.now cleared.new.self (tickets_out 0 c.args.self.now.tiles) cleared.ensures.clears)

-- ---- where memory was wanting

pub returns-in_err-rest-clause-cut_short : goal.returns-in_err-rest-clause-cut_short
returns-in_err-rest-clause-cut_short g c =
    let cleared = c.abandon_all-abandons in
    let banded = c.sweep_in_bands-in_bands in
    let failed = c.in_err-rest.ensures in
    on_err c.from_residual.result
    (bands_cut_short c.args.self.now cleared.new.self c.hand_all.new.self banded.new.self c.args.swept.now
    banded.new.swept banded.result cleared.ensures.clears c.hand_all.ensures.handed banded.ensures.swept
    c.sweep_within.new.self c.sweep_within.new.swept failed.dirty.0 failed.err.0 failed.err.1)

pub returns-in_err-rest-clause-some_work : goal.returns-in_err-rest-clause-some_work
returns-in_err-rest-clause-some_work g c =
    let cleared = c.abandon_all-abandons in
    let banded = c.sweep_in_bands-in_bands in
    let failed = c.in_err-rest.ensures in
    let dirty : (t : ℕ) × IsDirty c.hand_all.new.self t = elim banded.ensures.some_dirty [
      | inl same ↦ subst (λ (core : Core). (t : ℕ) × IsDirty core t) same failed.dirty.0
      | inr some ↦ some
    ] in
    on_err c.from_residual.result (
      some_work_before c.args.self.now cleared.new.self c.hand_all.new.self cleared.ensures.clears
          c.hand_all.ensures.handed dirty,
      omega (arith, failed.dirty.1),
    )

pub returns-in_err-rest-clause-none_out : goal.returns-in_err-rest-clause-none_out
returns-in_err-rest-clause-none_out g c =
    rw c.in_err-rest.ensures.err.0 c.sweep_in_bands-in_bands.ensures.swept.swept.left.none_out

pub returns-in_err-rest-clause-unchanged : goal.returns-in_err-rest-clause-unchanged
returns-in_err-rest-clause-unchanged g c =
    let cleared = c.abandon_all-abandons in
    let banded = c.sweep_in_bands-in_bands in
    let failed = c.in_err-rest.ensures in
    rw (failed.err.0, failed.err.1)
    (run_shows c.run_changes_few_tiles.ensures c.args.self.now cleared.new.self banded.new.self c.args.swept.now
    banded.new.swept banded.result 0
    (run_keeps_sound c.edges_are_open.ensures c.args.self.now cleared.new.self
    (abandoned (tickets_out 0 c.args.self.now.tiles)) c.soundness.ensures cleared.ensures.clears)
    cleared.ensures.none_out cleared.ensures.clears
    (run_in_bands c.args.self.now cleared.new.self c.hand_all.new.self banded.new.self c.args.swept.now
    banded.new.swept banded.result cleared.ensures.clears c.hand_all.ensures.handed banded.ensures.swept))

-- ---- where none was

pub returns-clause-slice : goal.returns-clause-slice
returns-clause-slice g c =
    let cleared = c.abandon_all-abandons in
    let banded = c.sweep_in_bands-in_bands in
    slice_in_bands c.args.self.now cleared.new.self c.hand_all.new.self banded.new.self c.args.swept.now
    banded.new.swept banded.result cleared.ensures.clears c.hand_all.ensures.handed banded.ensures.swept
    c.edges_are_open.ensures c.one_job_out_a_tile.ensures c.sweep_within.new.self c.sweep_within.new.swept c.args.jobs
    c.in_ok-rest.rest cleared.result c.is_quiet-is_quiet.result c.soundness.ensures cleared.ensures.count
    banded.ensures.at_most c.in_ok-rest.ensures.works c.is_quiet-is_quiet.ensures

pub returns-clause-none_out : goal.returns-clause-none_out
returns-clause-none_out g c = c.in_ok-rest.ensures.works.off.none_out

pub returns-clause-unchanged : goal.returns-clause-unchanged
returns-clause-unchanged g c =
    let cleared = c.abandon_all-abandons in
    let banded = c.sweep_in_bands-in_bands in
    run_shows c.run_changes_few_tiles.ensures c.args.self.now cleared.new.self c.sweep_within.new.self
    c.args.swept.now c.sweep_within.new.swept (banded.result + c.in_ok-rest.rest) 0
    (run_keeps_sound c.edges_are_open.ensures c.args.self.now cleared.new.self
    (abandoned (tickets_out 0 c.args.self.now.tiles)) c.soundness.ensures cleared.ensures.clears)
    cleared.ensures.none_out cleared.ensures.clears
    (run_of_rest c.args.self.now cleared.new.self c.hand_all.new.self banded.new.self c.args.swept.now
    banded.new.swept banded.result cleared.ensures.clears c.hand_all.ensures.handed banded.ensures.swept
    c.sweep_within.new.self c.sweep_within.new.swept (c.args.jobs - banded.result) c.in_ok-rest.rest
    c.in_ok-rest.ensures.works)
