-- What the tactics leave open of `raise_cells`.
use Rattle.std.proofs.Common.{◌≡◌, ◌+◌, ◌≤◌, length, sym, subst, ◌∙◌}
use Rattle.tiled_image.specs.Shown.{as_image}
use Rattle.tiled_image.proofs.CopiedStrips.{part_long, part_replaced, row_start, row_within}
use Rattle.tiled_image.proofs.RaisedBorders.{row_raised}
use Rattle.tiled_image.proofs.rims.raising.raise_cells.Goals as goal

-- each row of the strip ends within the cells
pub slice_bounds-raise_row-end : goal.slice_bounds-raise_row-end
slice_bounds-raise_row-end c =
    let a = c.args in
    let start = row_start a.strip a.to c.loop-y.y in
    subst (λ n. start + a.strip.w ≤ n) (sym c.loop-y.invariant.count)
    (row_within a.strip (as_image a.strip a.values.now) a.strip a.to (length a.cells.now) c.requires.strip c.loop-y.y
    c.loop-y-test.true)

pub loop-y-preserved : goal.loop-y-preserved
loop-y-preserved c =
    let a = c.args in
    let y = c.loop-y.y in
    let start = row_start a.strip a.to y in
    let row = c.raise_row.new.row in
    let within : start + a.strip.w ≤ length c.loop-y.cells =
    subst (λ n. start + a.strip.w ≤ n) (sym c.loop-y.invariant.count)
    (row_within a.strip (as_image a.strip a.values.now) a.strip a.to (length a.cells.now) c.requires.strip y
    c.loop-y-test.true) in
    let long : length row ≡ a.strip.w = c.raise_row.auto.row ∙ part_long c.loop-y.cells start a.strip.w within in
    row_raised a.strip a.to a.values.now a.cells.now c.requires.strip c.requires.room c.loop-y.cells _ row y
    c.loop-y-test.true long c.raise_row.ensures (part_replaced start a.strip.w row c.loop-y.cells long within)
    c.loop-y.invariant
