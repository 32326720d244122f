use Rattle.std.proofs.Common.{◌∙◌, sym, arith}
use Rattle.reset_core.proofs.Bands.Settling.{none_swept_in_bands, swept_in_both}
use Rattle.reset_core.proofs.replica.Core.sweep_many.Goals as goal

pub returns-clause-swept : goal.returns-clause-swept
returns-clause-swept g c =
    let first = c.round-first in
    let second = c.round in
    swept_in_both c.args.self.now first.new.self second.new.self c.args.swept.now first.new.swept second.new.swept
    first.result second.result first.ensures.swept second.ensures.swept

pub returns-then-count_dirty-lt-SHARED_TILES-clause-swept : goal.returns-then-count_dirty-lt-SHARED_TILES-clause-swept
returns-then-count_dirty-lt-SHARED_TILES-clause-swept g c =
    none_swept_in_bands c.args.self.now c.args.swept.now c.requires.left

pub overflow_sub-jobs : goal.overflow_sub-jobs
overflow_sub-jobs g c = c.round-first.ensures.at_most

pub round-requires-clause-left : goal.round-requires-clause-left
round-requires-clause-left g c κs within = c.round-first.ensures.swept.swept.left

pub round-requires-clause-count : goal.round-requires-clause-count
round-requires-clause-count g c κs within =
    let first = c.round-first.ensures.swept in
    first.gained.count ∙ c.requires.count ∙ sym first.swept.count

pub overflow_add-result : goal.overflow_add-result
overflow_add-result g c =
    omega (arith, c.ranges.jobs.fits, c.round-first.ensures.at_most, c.round.ensures.at_most)

pub returns-clause-at_most : goal.returns-clause-at_most
returns-clause-at_most g c = omega (arith, c.round-first.ensures.at_most, c.round.ensures.at_most)
