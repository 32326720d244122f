use Rattle.std.proofs.Common.{◌+◌, ◌∙◌, sym, inr, arith}
use Rattle.reset_core.proofs.Bands.Settling.{none_swept_in_bands, swept_in_both}
use Rattle.reset_core.proofs.replica.Core.sweep_in_bands.Goals as goal

-- ---- where there is nothing to share

pub returns-then-bands-lt2-clause-swept : goal.returns-then-bands-lt2-clause-swept
returns-then-bands-lt2-clause-swept g c = none_swept_in_bands c.args.self.now c.args.swept.now c.requires.left

pub returns-in_default-clause-swept : goal.returns-in_default-clause-swept
returns-in_default-clause-swept g c = none_swept_in_bands c.args.self.now c.args.swept.now c.requires.left

pub returns-in_default-new-clause-swept : goal.returns-in_default-new-clause-swept
returns-in_default-new-clause-swept g c = none_swept_in_bands c.args.self.now c.args.swept.now c.requires.left

-- ---- what the calls require

pub overflow_sub-bands : goal.overflow_sub-bands
overflow_sub-bands g c = omega (arith, c.if-bands-lt2.false)

pub overflow_sub-jobs : goal.overflow_sub-jobs
overflow_sub-jobs g c = c.sweep_many-many.ensures.at_most

pub sweep_few-few-requires-clause-left : goal.sweep_few-few-requires-clause-left
sweep_few-few-requires-clause-left g c = c.sweep_many-many.ensures.swept.swept.left

pub sweep_few-few-requires-clause-count : goal.sweep_few-few-requires-clause-count
sweep_few-few-requires-clause-count g c =
    let many = c.sweep_many-many.ensures.swept in
    many.gained.count ∙ c.requires.count ∙ sym many.swept.count

pub overflow_sub-jobs-2 : goal.overflow_sub-jobs-2
overflow_sub-jobs-2 g c = c.sweep_many-many.ensures.at_most

pub overflow_sub-jobs-3 : goal.overflow_sub-jobs-3
overflow_sub-jobs-3 g c = c.sweep_few-few.ensures.at_most

pub sweep_rounds-rest-requires-clause-left : goal.sweep_rounds-rest-requires-clause-left
sweep_rounds-rest-requires-clause-left g c κs within = c.sweep_few-few.ensures.swept.swept.left

pub sweep_rounds-rest-requires-clause-count : goal.sweep_rounds-rest-requires-clause-count
sweep_rounds-rest-requires-clause-count g c κs within =
    let many = c.sweep_many-many.ensures.swept in
    let few = c.sweep_few-few.ensures.swept in
    few.gained.count ∙ many.gained.count ∙ c.requires.count ∙ sym many.swept.count ∙ sym few.swept.count

-- ---- what was swept

pub overflow_add-result : goal.overflow_add-result
overflow_add-result g c =
    omega (arith, c.ranges.jobs.fits, c.sweep_many-many.ensures.at_most, c.sweep_few-few.ensures.at_most)

pub overflow_add-result-2 : goal.overflow_add-result-2
overflow_add-result-2 g c =
    omega (
      arith,
      c.ranges.jobs.fits,
      c.sweep_many-many.ensures.at_most,
      c.sweep_few-few.ensures.at_most,
      c.sweep_rounds-rest.ensures.at_most,
    )

pub returns-clause-swept : goal.returns-clause-swept
returns-clause-swept g c =
    let many = c.sweep_many-many in
    let few = c.sweep_few-few in
    let rest = c.sweep_rounds-rest in
    swept_in_both c.args.self.now few.new.self rest.new.self c.args.swept.now few.new.swept rest.new.swept
    (many.result + few.result) rest.result
    (swept_in_both c.args.self.now many.new.self few.new.self c.args.swept.now many.new.swept few.new.swept
    many.result few.result many.ensures.swept few.ensures.swept) rest.ensures.swept

pub returns-clause-at_most : goal.returns-clause-at_most
returns-clause-at_most g c =
    omega (
      arith,
      c.sweep_many-many.ensures.at_most,
      c.sweep_few-few.ensures.at_most,
      c.sweep_rounds-rest.ensures.at_most,
    )

pub returns-clause-some_dirty : goal.returns-clause-some_dirty
returns-clause-some_dirty g c =
    let ready = c.in-Some.ensures.0.1 in
    inr (c.in-Some._first, (ready.is_tile, ready.dirty))
