-- What the tactics leave open of `take_cells`.
use Rattle.std.proofs.Common.{◌≡◌, ◌+◌, ◌≤◌, ℕ, List, length, slice_range, ap, sym, subst, ◌∙◌, arith, refl}
use Rattle.grid_core.specs.{declared.pixel.Pixel.Pixel, declared.rect.Rect.Rect, Rects.IsInRect}
use Rattle.row_scans.proofs.Replacing.{IsReplaced}
use Rattle.tiled_image.specs.{Rims.strip_at, Rims.strip_of, Shown.CanCopy}
use Rattle.tiled_image.specs.Shown.{as_image, cell_in}
use Rattle.tiled_image.proofs.CopiedStrips.{part_long, part_replaced}
use Rattle.tiled_image.proofs.StripCopies.{can_take, taken_strip}
use Rattle.tiled_image.proofs.Strips.{start_small, strip_ends}
use Rattle.tiled_image.proofs.rims.take_cells.Goals as goal

-- the part begins where it is said to
replaced_at : {start place : ℕ} {cells old new : List ℕ} → start ≡ place → IsReplaced start cells old new
    → IsReplaced place cells old new
replaced_at {start} {place} {cells} {old} {new} same replaced = subst (λ n. IsReplaced n cells old new) same replaced

pub overflow_add-end : goal.overflow_add-end
overflow_add-end c =
    omega (
      arith,
      start_small c.args.tiling.now c.args.tile c.side-side.ensures.tiled c.requires.tile c.args.edge,
      c.start_of-start.ensures,
      c.side-side.ensures.value,
    )

pub offset_bounds-values-start : goal.offset_bounds-values-start
offset_bounds-values-start c =
    omega (
      arith,
      start_small c.args.tiling.now c.args.tile c.side-side.ensures.tiled c.requires.tile c.args.edge,
      c.start_of-start.ensures,
    )

pub slice_bounds-copy_cells-end : goal.slice_bounds-copy_cells-end
slice_bounds-copy_cells-end c =
    let within : c.start_of-start.result + c.side-side.result ≤ length c.args.values.now =
    omega (
      arith,
      strip_ends c.args.tiling.now c.args.tile c.side-side.ensures.tiled c.requires.tile c.args.edge,
      c.start_of-start.ensures,
      c.side-side.ensures.value,
      c.requires.count,
    ) in
    within

pub copy_cells-requires-clause-strip : goal.copy_cells-requires-clause-strip
copy_cells-requires-clause-strip c =
    let a = c.args in
    let start = c.start_of-start.result in
    let side = c.side-side.result in
    let within : start + side ≤ length a.values.now =
    omega (
      arith,
      strip_ends a.tiling.now a.tile c.side-side.ensures.tiled c.requires.tile a.edge,
      c.start_of-start.ensures,
      c.side-side.ensures.value,
      c.requires.count,
    ) in
    let cells = slice_range a.values.now start (start + side) in
    let source = as_image a.shown a.source.now in
    let strip_is : c.strip_at-strip.result ≡ strip_of a.tiling.now a.tile a.edge =
    c.strip_at-strip.ensures ∙ ap (strip_at a.edge) c.rect-rect.ensures.value in
    subst (λ (strip : Rect). CanCopy strip source a.shown strip (length cells)) (sym strip_is)
    (can_take a.tiling.now a.tile c.side-side.ensures.tiled c.requires.tile a.edge source a.shown cells refl refl
    c.requires.lies (part_long a.values.now start side within ∙ c.side-side.ensures.value))

pub returns : goal.returns
returns c =
    let a = c.args in
    let tiling = a.tiling.now in
    let start = c.start_of-start.result in
    let side = c.side-side.result in
    let within : start + side ≤ length a.values.now =
    omega (
      arith,
      strip_ends tiling a.tile c.side-side.ensures.tiled c.requires.tile a.edge,
      c.start_of-start.ensures,
      c.side-side.ensures.value,
      c.requires.count,
    ) in
    let cells = c.copy_cells.new.cells in
    let long : length cells ≡ side = c.copy_cells.ensures.count ∙ part_long a.values.now start side within in
    let strip_is : c.strip_at-strip.result ≡ strip_of tiling a.tile a.edge =
    c.strip_at-strip.ensures ∙ ap (strip_at a.edge) c.rect-rect.ensures.value in
    let replaced = part_replaced start side cells a.values.now long within in
    taken_strip tiling a.tile c.side-side.ensures.tiled c.requires.tile a.edge (cell_in a.shown a.source.now)
    a.values.now cells _ (replaced_at c.start_of-start.ensures replaced) (long ∙ c.side-side.ensures.value)
    (subst (λ (strip : Rect). (p : Pixel) → IsInRect strip p
    → cell_in strip cells p ≡ cell_in a.shown a.source.now p) strip_is c.copy_cells.ensures.inside)
