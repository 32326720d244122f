-- What the tactics leave open of `raise_border_at`.
use Rattle.std.proofs.Common.{◌≡◌, ◌+◌, ◌*◌, ◌≤◌, length, slice_range, ap, sym, subst, ◌∙◌, arith}
use Rattle.grid_core.specs.declared.rect.Rect.{Rect}
use Rattle.tiled_image.specs.{Rims.strip_at, Rims.strip_of, Shown.CanCopy, Shown.as_image}
use Rattle.tiled_image.proofs.{CopiedStrips.part_long, RaisedBorders.strip_raised, Sides.can_fill}
use Rattle.tiled_image.proofs.Strips.{start_small, strip_ends, tile_strip_within}
use Rattle.tiled_image.proofs.rims.raising.raise_border_at.Goals as goal

pub overflow_add-end : goal.overflow_add-end
overflow_add-end c =
    omega (
      arith,
      start_small c.args.tiling.now c.args.tile c.side-side.ensures.tiled c.requires.tile c.args.edge,
      c.start_of-start.ensures,
      c.side-side.ensures.value,
    )

pub offset_bounds-values-start : goal.offset_bounds-values-start
offset_bounds-values-start c =
    omega (
      arith,
      start_small c.args.tiling.now c.args.tile c.side-side.ensures.tiled c.requires.tile c.args.edge,
      c.start_of-start.ensures,
    )

pub slice_bounds-raise_cells-end : goal.slice_bounds-raise_cells-end
slice_bounds-raise_cells-end c =
    let within : c.start_of-start.result + c.side-side.result ≤ length c.args.values.now =
    omega (
      arith,
      strip_ends c.args.tiling.now c.args.tile c.side-side.ensures.tiled c.requires.tile c.args.edge,
      c.start_of-start.ensures,
      c.side-side.ensures.value,
      c.requires.count,
    ) in
    within

pub raise_cells-requires-clause-strip : goal.raise_cells-requires-clause-strip
raise_cells-requires-clause-strip c =
    let a = c.args in
    let own = strip_of a.tiling.now a.tile a.edge in
    let start = c.start_of-start.result in
    let cells = slice_range a.values.now start (start + c.side-side.result) in
    let count = length a.cells.now in
    let strip_is : c.strip_at-strip.result ≡ own =
    c.strip_at-strip.ensures ∙ ap (strip_at a.edge) c.rect.ensures.value in
    subst (λ (r : Rect). CanCopy r (as_image r cells) r c.around_of-around.result count) (sym strip_is)
    (subst (λ (r : Rect). CanCopy own (as_image own cells) own r count) (sym c.around_of-around.ensures.value)
    (can_fill a.tiling.now a.tile c.side-side.ensures.tiled c.requires.tile a.edge cells count c.requires.room))

pub raise_cells-requires-clause-room : goal.raise_cells-requires-clause-room
raise_cells-requires-clause-room c =
    let a = c.args in
    let tiling = a.tiling.now in
    let strip = c.strip_at-strip.result in
    let start = c.start_of-start.result in
    let side = c.side-side.result in
    let strip_is : strip ≡ strip_of tiling a.tile a.edge =
    c.strip_at-strip.ensures ∙ ap (strip_at a.edge) c.rect.ensures.value in
    let within : start + side ≤ length a.values.now =
    omega (
      arith,
      strip_ends tiling a.tile c.side-side.ensures.tiled c.requires.tile a.edge,
      c.start_of-start.ensures,
      c.side-side.ensures.value,
      c.requires.count,
    ) in
    let long = part_long a.values.now start side within ∙ c.side-side.ensures.value in
    let room = tile_strip_within tiling a.tile c.side-side.ensures.tiled c.requires.tile a.edge in
    subst (λ n. strip.w * strip.h ≤ n) (sym long)
    (subst (λ (r : Rect). r.w * r.h ≤ tiling.side) (sym strip_is) room)

pub returns : goal.returns
returns c =
    let a = c.args in
    let start = c.start_of-start.result in
    let side = c.side-side.result in
    strip_raised a.tiling.now a.tile c.side-side.ensures.tiled c.requires.tile a.edge c.strip_at-strip.result
    c.around_of-around.result (slice_range a.values.now start (start + side)) a.values.now a.cells.now
    c.raise_cells.new.cells (c.strip_at-strip.ensures ∙ ap (strip_at a.edge) c.rect.ensures.value)
    c.around_of-around.ensures.value
    (λ i. slice_range a.values.now (c.start_of-start.ensures i)
    (c.start_of-start.ensures i + c.side-side.ensures.value i))
    c.requires.count c.raise_cells.ensures
