use Rattle.std.proofs.Common.{◌≡◌, length, ap, ◌∙◌}
use Rattle.grid_core.specs.Lending.{with_cells}
use Rattle.raster_sweeps.specs.Growth.{IsGrownUp}
use Rattle.raster_sweeps.proofs.{Grown.regrown, Growing.of_rows, Growing.rows_can_close}
use Rattle.raster_sweeps.proofs.growth.grow_within.Goals as goal

pub close-requires : goal.close-requires
close-requires c =
    rows_can_close c.of-size.result c.args.mask.now c.args.image.now c.cells.result.now c.cells_mut.result.now
    c.cells.ensures.values c.cells_mut.ensures.values c.of-size.ensures.rows c.requires.below c.args.rect
    c.requires.fits c.cells.ensures.sized.filled c.cells_mut.ensures.sized

pub returns : goal.returns
returns c =
    let conn = c.args.conn in
    let rect = c.args.rect in
    let mask = c.args.mask.now in
    let image = c.args.image.now in
    let new = c.close.new.image in
    let after = with_cells image new in
    let long : length new ≡ length image.cells =
    c.close.ensures.grown.filled ∙ ap length c.cells_mut.ensures.values in
    let grown : IsGrownUp conn rect mask image after =
    of_rows c.of-size.result mask image c.cells.result.now c.cells_mut.result.now c.cells.ensures.values
    c.cells_mut.ensures.values c.of-size.ensures.rows c.requires.below (IsGrownUp conn rect) after new
    (c.cells_given_back.ensures image new long) c.close.ensures in
    regrown c.cells_mut.ensures.sized.filled grown.grown grown.closed
