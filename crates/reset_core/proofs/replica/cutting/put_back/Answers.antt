use Rattle.std.proofs.Common.{◌≡◌, ℕ, ◌+◌, ◌<◌, ◌≤◌, ◌∷◌, List, Bool, length, drop, get_or, sym, ap, ◌∙◌, subst, arith}
use Rattle.std.proofs.lemmas.List.{drop_more, drop_all}
use Rattle.grid_core.specs.Tiles.{Tiles}
use Rattle.grid_core.specs.{declared.bounds.Bounds.Bounds}
use Rattle.border_queues.specs.TileWork.{TileWork}
use Rattle.reset_core.specs.declared.replica.bands.Band.{Band}
use Rattle.reset_core.proofs.Bands.Puts.{IsPutSoFar, IsAllPut, none_put, fits_now, one_more_is, all_put}
use Rattle.reset_core.proofs.replica.cutting.put_back.Goals as goal

-- the next band is the first of those that are left
next_is_first : (tiles : Tiles) (works : List TileWork) (set : List Bool) (bands : List Band) (i above : ℕ)
    (works_now : List TileWork) (table_now : List Bounds) (set_now : List Bool) (jobs : ℕ) (band : Band)
    → i < length bands → band ≡ get_or bands i band
    → IsPutSoFar tiles works set bands (drop i bands) above works_now table_now set_now jobs
    → IsPutSoFar tiles works set bands (band ∷ drop (i + 1) bands) above works_now table_now set_now jobs
next_is_first tiles works set bands i above works_now table_now set_now jobs band within is so_far =
    subst (λ left. IsPutSoFar tiles works set bands left above works_now table_now set_now jobs)
    (drop_more bands i band within ∙ ap (λ b. b ∷ drop (i + 1) bands) (sym is)) so_far

-- no band is left
none_left : (tiles : Tiles) (works : List TileWork) (set : List Bool) (bands : List Band) (i above : ℕ)
    (works_now : List TileWork) (table_now : List Bounds) (set_now : List Bool) (jobs : ℕ) → length bands ≤ i
    → IsPutSoFar tiles works set bands (drop i bands) above works_now table_now set_now jobs
    → IsAllPut tiles set bands works_now table_now set_now jobs
none_left tiles works set bands i above works_now table_now set_now jobs end so_far =
    all_put tiles works set bands above works_now table_now set_now jobs
    (subst (λ left. IsPutSoFar tiles works set bands left above works_now table_now set_now jobs)
    (drop_all i bands end) so_far)

pub loop-band-init : goal.loop-band-init
loop-band-init c =
    none_put c.args.tiling.now c.args.work.now c.args.bounds.now c.args.swept.now c.args.bands.now c.requires.fit
    c.requires.tables

pub put_band-requires-clause-tables : goal.put_band-requires-clause-tables
put_band-requires-clause-tables c = c.loop-band.invariant.can_take

pub overflow_add-jobs : goal.overflow_add-jobs
overflow_add-jobs c =
    let l = c.loop-band in
    let i = l.band-index in
    let next =
    next_is_first c.args.tiling.now c.args.work.now c.args.swept.now c.args.bands.now i l.above l.work l.bounds l.swept
    l.jobs c.band-item.result c.loop-band-test.true c.band-item.is l.invariant in
    omega (arith, next.jobs_put, c.requires.few)

pub put_band-requires-clause-fit : goal.put_band-requires-clause-fit
put_band-requires-clause-fit c =
    let l = c.loop-band in
    let i = l.band-index in
    let band = c.band-item.result in
    fits_now c.args.tiling.now c.args.work.now c.args.swept.now c.args.bands.now band (drop (i + 1) c.args.bands.now)
    l.above l.work l.bounds l.swept l.jobs
    (next_is_first c.args.tiling.now c.args.work.now c.args.swept.now c.args.bands.now i l.above l.work l.bounds l.swept
    l.jobs band c.loop-band-test.true c.band-item.is l.invariant)

pub loop-band-preserved : goal.loop-band-preserved
loop-band-preserved c =
    let l = c.loop-band in
    let i = l.band-index in
    let band = c.band-item.result in
    one_more_is c.args.tiling.now c.args.work.now c.args.swept.now c.args.bands.now band (drop (i + 1) c.args.bands.now)
    l.above l.work l.bounds l.swept l.jobs
    (next_is_first c.args.tiling.now c.args.work.now c.args.swept.now c.args.bands.now i l.above l.work l.bounds l.swept
    l.jobs band c.loop-band-test.true c.band-item.is l.invariant)
    c.put_band.new.work c.put_band.new.bounds c.put_band.new.swept _ _ c.put_band.ensures.work
    c.put_band.ensures.bounds c.put_band.ensures.swept (ap (λ n. l.above + n) c.rows_of-above.ensures) (omega arith)

pub returns-clause-work : goal.returns-clause-work
returns-clause-work c =
    let l = c.loop-band in
    (none_left c.args.tiling.now c.args.work.now c.args.swept.now c.args.bands.now l.band-index l.above l.work l.bounds
    l.swept l.jobs c.loop-band-test.false l.invariant).works_are

pub returns-clause-bounds : goal.returns-clause-bounds
returns-clause-bounds c =
    let l = c.loop-band in
    (none_left c.args.tiling.now c.args.work.now c.args.swept.now c.args.bands.now l.band-index l.above l.work l.bounds
    l.swept l.jobs c.loop-band-test.false l.invariant).table_is

pub returns-clause-swept : goal.returns-clause-swept
returns-clause-swept c =
    let l = c.loop-band in
    (none_left c.args.tiling.now c.args.work.now c.args.swept.now c.args.bands.now l.band-index l.above l.work l.bounds
    l.swept l.jobs c.loop-band-test.false l.invariant).gained

pub returns-clause-jobs : goal.returns-clause-jobs
returns-clause-jobs c =
    let l = c.loop-band in
    (none_left c.args.tiling.now c.args.work.now c.args.swept.now c.args.bands.now l.band-index l.above l.work l.bounds
    l.swept l.jobs c.loop-band-test.false l.invariant).jobs_are
