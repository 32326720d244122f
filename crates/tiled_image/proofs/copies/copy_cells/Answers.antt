-- What the tactics leave open of `copy_cells`.
use Rattle.std.proofs.Common.{◌≡◌, ℕ, ◌+◌, ◌≤◌, List, length, sym, subst, ◌∙◌, arith, refl}
use Rattle.grid_core.specs.{Raster.value_at, Rects.IsRowOf, Rects.part}
use Rattle.tiled_image.specs.Shown.{IsStripCopied, as_image, cell_in}
use Rattle.tiled_image.proofs.CopiedStrips.{none_copied, part_long, part_replaced, row_copied, row_of_cells, row_start}
use Rattle.tiled_image.proofs.CopiedStrips.{row_small, row_within, row_within_source, strip_in}
use Rattle.tiled_image.proofs.copies.copy_cells.Goals as goal

pub overflow_sub-left_from : goal.overflow_sub-left_from
overflow_sub-left_from c = c.requires.strip.lies_from.0

pub overflow_sub-top_from : goal.overflow_sub-top_from
overflow_sub-top_from c = c.requires.strip.lies_from.2

pub overflow_sub-left : goal.overflow_sub-left
overflow_sub-left c = c.requires.strip.lies_to.0

pub overflow_sub-top : goal.overflow_sub-top
overflow_sub-top c = c.requires.strip.lies_to.2

pub loop-y-init : goal.loop-y-init
loop-y-init c = none_copied c.args.strip (cell_in c.args.from c.args.source.now) c.args.to c.args.cells.now

pub overflow_mul-start : goal.overflow_mul-start
overflow_mul-start c =
    let a = c.args in
    omega (
      arith,
      row_small a.strip (as_image a.from a.source.now) a.from a.to (length a.cells.now) c.requires.strip c.loop-y.y
          c.loop-y-test.true,
    )

pub overflow_add-start-in-loop-y : goal.overflow_add-start-in-loop-y
overflow_add-start-in-loop-y c =
    let a = c.args in
    omega (
      arith,
      row_small a.strip (as_image a.from a.source.now) a.from a.to (length a.cells.now) c.requires.strip c.loop-y.y
          c.loop-y-test.true,
    )

pub overflow_add-end : goal.overflow_add-end
overflow_add-end c =
    let a = c.args in
    omega (
      arith,
      row_small a.strip (as_image a.from a.source.now) a.from a.to (length a.cells.now) c.requires.strip c.loop-y.y
          c.loop-y-test.true,
    )

pub offset_bounds-cells-start : goal.offset_bounds-cells-start
offset_bounds-cells-start c =
    let a = c.args in
    omega (
      arith,
      row_small a.strip (as_image a.from a.source.now) a.from a.to (length a.cells.now) c.requires.strip c.loop-y.y
          c.loop-y-test.true,
    )

pub slice_bounds-copy_row-count : goal.slice_bounds-copy_row-count
slice_bounds-copy_row-count c = omega arith

pub slice_bounds-copy_row-start : goal.slice_bounds-copy_row-start
slice_bounds-copy_row-start c =
    let start = row_start c.args.strip c.args.to c.loop-y.y in
    let begins : start ≤ start + c.args.strip.w = omega arith in
    begins

-- each row of the strip ends within the cells
pub slice_bounds-copy_row-end : goal.slice_bounds-copy_row-end
slice_bounds-copy_row-end c =
    let a = c.args in
    let start = row_start a.strip a.to c.loop-y.y in
    subst (λ n. start + a.strip.w ≤ n) (sym c.loop-y.invariant.count)
    (row_within a.strip (as_image a.from a.source.now) a.from a.to (length a.cells.now) c.requires.strip c.loop-y.y
    c.loop-y-test.true)

pub slice_bounds-copy_row-count-in-loop-y : goal.slice_bounds-copy_row-count-in-loop-y
slice_bounds-copy_row-count-in-loop-y c = omega arith

pub slice_bounds-copy_row-start-in-loop-y : goal.slice_bounds-copy_row-start-in-loop-y
slice_bounds-copy_row-start-in-loop-y c =
    let first = row_start c.args.strip c.args.from c.loop-y.y in
    let begins : first ≤ first + c.args.strip.w = omega arith in
    begins

-- and within the source
pub slice_bounds-copy_row-end-in-loop-y : goal.slice_bounds-copy_row-end-in-loop-y
slice_bounds-copy_row-end-in-loop-y c =
    let a = c.args in
    row_within_source a.strip (as_image a.from a.source.now) a.from a.to (length a.cells.now) c.requires.strip
    (length a.source.now) c.requires.room c.loop-y.y c.loop-y-test.true

pub copy_row-requires : goal.copy_row-requires
copy_row-requires c =
    let a = c.args in
    let y = c.loop-y.y in
    let start = row_start a.strip a.to y in
    let first = row_start a.strip a.from y in
    let within : start + a.strip.w ≤ length c.loop-y.cells =
    subst (λ n. start + a.strip.w ≤ n) (sym c.loop-y.invariant.count)
    (row_within a.strip (as_image a.from a.source.now) a.from a.to (length a.cells.now) c.requires.strip y
    c.loop-y-test.true) in
    part_long c.loop-y.cells start a.strip.w within
    ∙ sym (part_long a.source.now first a.strip.w
    (row_within_source a.strip (as_image a.from a.source.now) a.from a.to (length a.cells.now) c.requires.strip
    (length a.source.now) c.requires.room y c.loop-y-test.true))

pub loop-y-preserved : goal.loop-y-preserved
loop-y-preserved c =
    let a = c.args in
    let y = c.loop-y.y in
    let start = row_start a.strip a.to y in
    let first = row_start a.strip a.from y in
    let source = as_image a.from a.source.now in
    let row = c.copy_row.new.cells in
    let below = c.loop-y-test.true in
    let within : start + a.strip.w ≤ length c.loop-y.cells =
    subst (λ n. start + a.strip.w ≤ n) (sym c.loop-y.invariant.count)
    (row_within a.strip source a.from a.to (length a.cells.now) c.requires.strip y below) in
    let is_row : IsRowOf a.strip.w (part (strip_in a.from a.strip) (value_at source)) y row =
    subst (λ (r : List ℕ). IsRowOf a.strip.w (part (strip_in a.from a.strip) (value_at source)) y r)
    (sym c.copy_row.ensures) (row_of_cells a.strip a.from a.source.now y first refl
    (row_within_source a.strip source a.from a.to (length a.cells.now) c.requires.strip (length a.source.now)
    c.requires.room y below)) in
    row_copied a.strip source a.from a.to (length a.cells.now) c.requires.strip a.cells.now c.loop-y.cells _ row y below
    is_row (part_replaced start a.strip.w row c.loop-y.cells is_row.long within) c.loop-y.invariant

pub returns : goal.returns
returns c =
    let a = c.args in
    let end : c.loop-y.y ≡ a.strip.h = omega (arith, c.loop-y-test.false, c.loop-y.auto.y-end) in
    subst (λ rows. IsStripCopied (record a.strip { h = rows }) (cell_in a.from a.source.now) a.to a.cells.now
    c.loop-y.cells) end c.loop-y.invariant
