use Rattle.std.proofs.Common.{◌∙◌, sym, subst, arith}
use Rattle.reset_core.specs.BandParts.{AreReady}
use Rattle.reset_core.proofs.Bands.Parts.{few_rows, first_somewhere, rest_somewhere, first_within, swept_parts}
use Rattle.reset_core.proofs.replica.bands.+bands.Goals as goal

pub sweep_downwards-overflow_add-below : goal.sweep_downwards-overflow_add-below
sweep_downwards-overflow_add-below g t c =
    let few =
    few_rows c.args.whole.now c.args.above c.args.mask.now c.args.image.now c.args.bands.now c.in-Some.band.now
    c.in-Some.rest.now c.in-Some.ensures.cases.0 c.requires.somewhere in
    omega (arith, few, c.rows_of.ensures)

pub sweep_downwards-split_at-requires : goal.sweep_downwards-split_at-requires
sweep_downwards-split_at-requires g t c =
    let within =
    first_within c.args.whole.now c.args.above c.args.mask.now c.args.image.now c.args.bands.now c.in-Some.band.now
    c.in-Some.rest.now c.in-Some.ensures.cases.0 c.requires.somewhere in
    omega (arith, within, c.cells-cells.ensures, c.requires.sized)

pub sweep_downwards-split_at_mut-here-requires : goal.sweep_downwards-split_at_mut-here-requires
sweep_downwards-split_at_mut-here-requires g t c =
    let within =
    first_within c.args.whole.now c.args.above c.args.mask.now c.args.image.now c.args.bands.now c.in-Some.band.now
    c.in-Some.rest.now c.in-Some.ensures.cases.0 c.requires.somewhere in
    omega (arith, within, c.cells-cells.ensures)

-- ---- what the calls require

pub sweep_downwards-sweep_both-requires-clause-here : goal.sweep_downwards-sweep_both-requires-clause-here
sweep_downwards-sweep_both-requires-clause-here g t c κs within =
    first_somewhere c.args.whole.now c.args.above c.args.mask.now c.args.image.now c.args.bands.now c.in-Some.band.now
    c.in-Some.rest.now c.cells-cells.result c.split_at.result.0.now c.split_at_mut-here.result.0.now
    c.in-Some.ensures.cases.0 c.cells-cells.ensures c.split_at.ensures.front c.split_at_mut-here.ensures.front
    c.requires.somewhere

pub sweep_downwards-sweep_both-requires-clause-sized : goal.sweep_downwards-sweep_both-requires-clause-sized
sweep_downwards-sweep_both-requires-clause-sized g t c κs within =
    c.split_at.ensures.front_len ∙ sym c.split_at_mut-here.ensures.front_len

pub sweep_downwards-sweep_both-requires-clause-ready : goal.sweep_downwards-sweep_both-requires-clause-ready
sweep_downwards-sweep_both-requires-clause-ready g t c κs within =
    (subst AreReady c.in-Some.ensures.cases.0 c.requires.ready).0

pub sweep_downwards-sweep_both-requires-clause-somewhere : goal.sweep_downwards-sweep_both-requires-clause-somewhere
sweep_downwards-sweep_both-requires-clause-somewhere g t c κs within =
    rest_somewhere c.args.whole.now c.args.above c.args.mask.now c.args.image.now c.args.bands.now c.in-Some.band.now
    c.in-Some.rest.now c.cells-cells.result c.rows_of.result c.split_at.result.1.now c.split_at_mut-here.result.1.now
    c.in-Some.ensures.cases.0 c.cells-cells.ensures c.rows_of.ensures c.split_at.ensures.back
    c.split_at_mut-here.ensures.back c.requires.somewhere

pub sweep_downwards-sweep_both-requires-clause-sized_below : goal.sweep_downwards-sweep_both-requires-clause-sized_below
sweep_downwards-sweep_both-requires-clause-sized_below g t c κs within =
    omega (arith, c.split_at.ensures.back_len, c.split_at_mut-here.ensures.back_len, c.requires.sized)

pub sweep_downwards-sweep_both-requires-clause-ready_below : goal.sweep_downwards-sweep_both-requires-clause-ready_below
sweep_downwards-sweep_both-requires-clause-ready_below g t c κs within =
    (subst AreReady c.in-Some.ensures.cases.0 c.requires.ready).1

pub sweep_downwards-sweep-requires-clause-somewhere : goal.sweep_downwards-sweep-requires-clause-somewhere
sweep_downwards-sweep-requires-clause-somewhere g t c =
    first_somewhere c.args.whole.now c.args.above c.args.mask.now c.args.image.now c.args.bands.now c.in-Some.band.now
    c.in-Some.rest.now c.cells-cells.result c.split_at.result.0.now c.split_at_mut-here.result.0.now
    c.in-Some.ensures.cases.0 c.cells-cells.ensures c.split_at.ensures.front c.split_at_mut-here.ensures.front
    c.requires.somewhere

pub sweep_downwards-sweep-requires-clause-sized : goal.sweep_downwards-sweep-requires-clause-sized
sweep_downwards-sweep-requires-clause-sized g t c =
    c.split_at.ensures.front_len ∙ sym c.split_at_mut-here.ensures.front_len

pub sweep_downwards-sweep-requires-clause-ready : goal.sweep_downwards-sweep-requires-clause-ready
sweep_downwards-sweep-requires-clause-ready g t c = (subst AreReady c.in-Some.ensures.cases.0 c.requires.ready).0

pub sweep_downwards-sweep_downwards-requires-clause-somewhere
    : goal.sweep_downwards-sweep_downwards-requires-clause-somewhere
sweep_downwards-sweep_downwards-requires-clause-somewhere g t c κs within =
    rest_somewhere c.args.whole.now c.args.above c.args.mask.now c.args.image.now c.args.bands.now c.in-Some.band.now
    c.in-Some.rest.now c.cells-cells.result c.rows_of.result c.split_at.result.1.now c.split_at_mut-here.result.1.now
    c.in-Some.ensures.cases.0 c.cells-cells.ensures c.rows_of.ensures c.split_at.ensures.back
    c.split_at_mut-here.ensures.back c.requires.somewhere

pub sweep_downwards-sweep_downwards-requires-clause-sized : goal.sweep_downwards-sweep_downwards-requires-clause-sized
sweep_downwards-sweep_downwards-requires-clause-sized g t c κs within =
    omega (arith, c.split_at.ensures.back_len, c.split_at_mut-here.ensures.back_len, c.requires.sized)

pub sweep_downwards-sweep_downwards-requires-clause-ready : goal.sweep_downwards-sweep_downwards-requires-clause-ready
sweep_downwards-sweep_downwards-requires-clause-ready g t c κs within =
    (subst AreReady c.in-Some.ensures.cases.0 c.requires.ready).1

-- ---- what was swept

pub sweep_downwards-returns-then-is_dirty : goal.sweep_downwards-returns-then-is_dirty
sweep_downwards-returns-then-is_dirty g t c =
    swept_parts c.args.whole.now c.args.above c.args.mask.now c.args.image.now c.args.bands.now c.in-Some.band.now
    c.in-Some.rest.now c.cells-cells.result c.rows_of.result c.split_at.result.0.now c.split_at.result.1.now
    c.split_at_mut-here.result.0.now c.split_at_mut-here.result.1.now c.sweep_both.new.image c.sweep_both.new.band
    c.sweep_both.new.image_below c.sweep_both.new.rest c.in-Some.ensures.cases.0 c.cells-cells.ensures
    c.rows_of.ensures c.split_at.ensures.front c.split_at.ensures.back c.split_at_mut-here.ensures.front
    c.split_at_mut-here.ensures.back (c.sweep_both.auto.image ∙ c.split_at_mut-here.ensures.front_len)
    c.sweep_both.ensures.here c.sweep_both.ensures.below

pub sweep_downwards-returns : goal.sweep_downwards-returns
sweep_downwards-returns g t c =
    swept_parts c.args.whole.now c.args.above c.args.mask.now c.args.image.now c.args.bands.now c.in-Some.band.now
    c.in-Some.rest.now c.cells-cells.result c.rows_of.result c.split_at.result.0.now c.split_at.result.1.now
    c.split_at_mut-here.result.0.now c.split_at_mut-here.result.1.now c.sweep.new.image c.sweep.new.self
    c.sweep_downwards.new.image c.sweep_downwards.new.bands c.in-Some.ensures.cases.0 c.cells-cells.ensures
    c.rows_of.ensures c.split_at.ensures.front c.split_at.ensures.back c.split_at_mut-here.ensures.front
    c.split_at_mut-here.ensures.back (c.sweep.auto.image ∙ c.split_at_mut-here.ensures.front_len)
    c.sweep.ensures c.sweep_downwards.ensures
