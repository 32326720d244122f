-- What the tactics leave open of `raise`. The mask is lent by the job, and the rows are its base.
use Rattle.std.proofs.Common.{◌≡◌, length, ap, sym, ◌∙◌, ◌*◌}
use Rattle.grid_core.specs.{Lending.with_cells, Raster.IsSized, Raster.Raster}
use Rattle.raster_sweeps.specs.Growth.{rows_of}
use Rattle.tile_generations.specs.Jobs.{all_of}
use Rattle.tile_generations.proofs.Sweeping.{base_can_close, rows_are_swept, rows_begin, rows_lie}
use Rattle.tile_generations.proofs.job.Job.raise.Goals as goal

pub grow_rows_from_bounds-requires-clause-close : goal.grow_rows_from_bounds-requires-clause-close
grow_rows_from_bounds-requires-clause-close c =
    let of_mask = c.cells-limits.ensures.values ∙ ap (λ (r : Raster). r.cells) c.mask-mask.ensures.value in
    let of_base =
    ap (rows_of c.of-size.result) c.cells_mut-cells.ensures.values ∙ c.of-size.ensures.rows ∙ c.requires in
    let rect_is = c.whole-rect.ensures.rect ∙ ap all_of c.requires in
    let sized : IsSized c.args.self.now.base = rw (sym c.requires) c.cells_mut-cells.ensures.sized in
    base_can_close c.args.self.now c.of-size.result c.cells-limits.result.now c.cells_mut-cells.result.now
    c.whole-rect.result c.conn-conn.result c.mask-mask.ensures.job of_mask of_base rect_is c.conn-conn.ensures sized

pub grow_rows_from_bounds-requires-clause-bounds : goal.grow_rows_from_bounds-requires-clause-bounds
grow_rows_from_bounds-requires-clause-bounds c =
    let of_mask = c.cells-limits.ensures.values ∙ ap (λ (r : Raster). r.cells) c.mask-mask.ensures.value in
    let of_base =
    ap (rows_of c.of-size.result) c.cells_mut-cells.ensures.values ∙ c.of-size.ensures.rows ∙ c.requires in
    let rect_is = c.whole-rect.ensures.rect ∙ ap all_of c.requires in
    rows_begin c.args.self.now c.of-size.result c.cells-limits.result.now c.cells_mut-cells.result.now
    c.whole-rect.result c.conn-conn.result c.mask-mask.ensures.job of_mask of_base rect_is c.conn-conn.ensures
    c.bounds-bounds.result c.bounds-bounds.ensures

pub grow_rows_from_bounds-requires-clause-lie : goal.grow_rows_from_bounds-requires-clause-lie
grow_rows_from_bounds-requires-clause-lie c =
    let of_mask = c.cells-limits.ensures.values ∙ ap (λ (r : Raster). r.cells) c.mask-mask.ensures.value in
    let of_base =
    ap (rows_of c.of-size.result) c.cells_mut-cells.ensures.values ∙ c.of-size.ensures.rows ∙ c.requires in
    let rect_is = c.whole-rect.ensures.rect ∙ ap all_of c.requires in
    rows_lie c.args.self.now c.of-size.result c.cells-limits.result.now c.cells_mut-cells.result.now
    c.whole-rect.result c.conn-conn.result c.mask-mask.ensures.job of_mask of_base rect_is c.conn-conn.ensures
    c.bounds-bounds.result c.bounds-bounds.ensures

pub returns : goal.returns
returns c =
    let of_mask = c.cells-limits.ensures.values ∙ ap (λ (r : Raster). r.cells) c.mask-mask.ensures.value in
    let of_base =
    ap (rows_of c.of-size.result) c.cells_mut-cells.ensures.values ∙ c.of-size.ensures.rows ∙ c.requires in
    let rect_is = c.whole-rect.ensures.rect ∙ ap all_of c.requires in
    let before = c.args.pixels.now in
    let new = c.grow_rows_from_bounds.new.image in
    let size = c.of-size.result in
    let whole = c.of-size.ensures.rows in
    let regrown = c.grow_rows_from_bounds.ensures.regrown in
    let long : length new ≡ length before.cells =
    regrown.patch.size.filled ∙ (λ i. (whole i).width * (whole i).height)
    ∙ sym c.cells_mut-cells.ensures.sized.filled in
    let after_is : with_cells before new ≡ rows_of size new =
    c.cells_given_back.ensures before new long
    ∙ (λ i. record { width = (sym whole i).width; height = (sym whole i).height; cells = new }) in
    rows_are_swept c.args.self.now size c.cells-limits.result.now c.cells_mut-cells.result.now c.whole-rect.result
    c.conn-conn.result c.mask-mask.ensures.job of_mask of_base rect_is c.conn-conn.ensures new
    (with_cells before new) after_is regrown
