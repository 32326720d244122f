-- What the tactics leave open of `write_strip`.
use Rattle.std.proofs.Common.{◌≡◌, ◌+◌, ◌*◌, ◌≤◌, ℕ, List, length, slice_range, ap, sym, subst, ◌∙◌, arith}
use Rattle.std.proofs.Common.{refl}
use Rattle.grid_core.specs.{declared.rect.Rect.Rect, Raster.IsOfSize, Raster.Raster}
use Rattle.tiled_image.specs.{RaisedTiles.IsStripWritten, Rims.start_of, Rims.strip_at, Rims.strip_of, Shown.CanCopy}
use Rattle.tiled_image.specs.Shown.{IsStripCopied, as_image, cell_in}
use Rattle.tiled_image.proofs.{CopiedStrips.part_long, StripCopies.strip_cell}
use Rattle.tiled_image.proofs.Strips.{start_small, strip_ends, tile_strip_within}
use Rattle.tiled_image.proofs.WrittenRims.{can_write_strip, strip_written}
use Rattle.tiled_image.proofs.rims.write_strip.Goals as goal

pub strip_at-strip-requires-clause-some_width : goal.strip_at-strip-requires-clause-some_width
strip_at-strip-requires-clause-some_width c = c.rect.ensures.fits.some_width

pub strip_at-strip-requires-clause-some_height : goal.strip_at-strip-requires-clause-some_height
strip_at-strip-requires-clause-some_height c = c.rect.ensures.fits.some_height

pub strip_at-strip-requires-clause-columns : goal.strip_at-strip-requires-clause-columns
strip_at-strip-requires-clause-columns c =
    omega (arith, c.rect.ensures.fits.columns, c.side-side.ensures.tiled.size.width_within)

pub strip_at-strip-requires-clause-rows : goal.strip_at-strip-requires-clause-rows
strip_at-strip-requires-clause-rows c =
    omega (arith, c.rect.ensures.fits.rows, c.side-side.ensures.tiled.size.height_within)

pub start_of-start-requires : goal.start_of-start-requires
start_of-start-requires c = c.requires.tile

pub overflow_add-end : goal.overflow_add-end
overflow_add-end c =
    omega (
      arith,
      start_small c.args.tiling.now c.args.tile c.side-side.ensures.tiled c.requires.tile c.args.edge,
      c.start_of-start.ensures,
      c.side-side.ensures.value,
    )

pub offset_bounds-values-start : goal.offset_bounds-values-start
offset_bounds-values-start c =
    omega (
      arith,
      start_small c.args.tiling.now c.args.tile c.side-side.ensures.tiled c.requires.tile c.args.edge,
      c.start_of-start.ensures,
    )

pub slice_bounds-copy_cells-count : goal.slice_bounds-copy_cells-count
slice_bounds-copy_cells-count c = omega arith

pub slice_bounds-copy_cells-start : goal.slice_bounds-copy_cells-start
slice_bounds-copy_cells-start c =
    let start = c.start_of-start.result in
    let begins : start ≤ start + c.side-side.result = omega arith in
    begins

pub slice_bounds-copy_cells-end : goal.slice_bounds-copy_cells-end
slice_bounds-copy_cells-end c =
    let within : c.start_of-start.result + c.side-side.result ≤ length c.args.values.now =
    omega (
      arith,
      strip_ends c.args.tiling.now c.args.tile c.side-side.ensures.tiled c.requires.tile c.args.edge,
      c.start_of-start.ensures,
      c.side-side.ensures.value,
      c.requires.count,
    ) in
    within

pub copy_cells-requires-clause-strip : goal.copy_cells-requires-clause-strip
copy_cells-requires-clause-strip c =
    let a = c.args in
    let tiling = a.tiling.now in
    let start = c.start_of-start.result in
    let cells = slice_range a.values.now start (start + c.side-side.result) in
    let count = length c.cells_mut.result.now in
    let strip_is : c.strip_at-strip.result ≡ strip_of tiling a.tile a.edge =
    c.strip_at-strip.ensures ∙ ap (strip_at a.edge) c.rect.ensures.value in
    subst (λ (strip : Rect). CanCopy strip (as_image strip cells) strip a.shown count) (sym strip_is)
    (can_write_strip tiling a.tile c.side-side.ensures.tiled c.requires.tile a.edge a.image.now a.shown c.requires.width
    c.requires.height c.requires.lies cells count c.cells_mut.ensures.sized (ap length c.cells_mut.ensures.values))

pub copy_cells-requires-clause-room : goal.copy_cells-requires-clause-room
copy_cells-requires-clause-room c =
    let a = c.args in
    let tiling = a.tiling.now in
    let strip = c.strip_at-strip.result in
    let start = c.start_of-start.result in
    let side = c.side-side.result in
    let strip_is : strip ≡ strip_of tiling a.tile a.edge =
    c.strip_at-strip.ensures ∙ ap (strip_at a.edge) c.rect.ensures.value in
    let within : start + side ≤ length a.values.now =
    omega (
      arith,
      strip_ends tiling a.tile c.side-side.ensures.tiled c.requires.tile a.edge,
      c.start_of-start.ensures,
      c.side-side.ensures.value,
      c.requires.count,
    ) in
    let long = part_long a.values.now start side within ∙ c.side-side.ensures.value in
    let room = tile_strip_within tiling a.tile c.side-side.ensures.tiled c.requires.tile a.edge in
    subst (λ n. strip.w * strip.h ≤ n) (sym long)
    (subst (λ (r : Rect). r.w * r.h ≤ tiling.side) (sym strip_is) room)

pub returns-clause-size : goal.returns-clause-size
returns-clause-size c =
    let a = c.args in
    let new = c.copy_cells.new.cells in
    let count = c.copy_cells.ensures.count ∙ ap length c.cells_mut.ensures.values in
    subst (λ (r : Raster). IsOfSize a.image.now r) (sym (c.cells_given_back.ensures a.image.now new count))
    (record { width = refl; height = refl; filled = count ∙ c.cells_mut.ensures.sized.filled })

pub returns-clause-written : goal.returns-clause-written
returns-clause-written c whole are =
    let a = c.args in
    let tiling = a.tiling.now in
    let tiled = c.side-side.ensures.tiled in
    let strip = c.strip_at-strip.result in
    let own = strip_of tiling a.tile a.edge in
    let start = c.start_of-start.result in
    let new = c.copy_cells.new.cells in
    let cells = slice_range a.values.now start (start + c.side-side.result) in
    let kept = slice_range a.values.now (start_of tiling a.tile a.edge)
    (start_of tiling a.tile a.edge + tiling.side) in
    let strip_is : strip ≡ own = c.strip_at-strip.ensures ∙ ap (strip_at a.edge) c.rect.ensures.value in
    let cells_are : cells ≡ kept =
    λ i. slice_range a.values.now (c.start_of-start.ensures i) (c.start_of-start.ensures i
    + c.side-side.ensures.value i) in
    let copied = subst (λ (old : List ℕ). IsStripCopied own (cell_in own kept) a.shown old new)
    c.cells_mut.ensures.values
    (subst (λ (xs : List ℕ). IsStripCopied own (cell_in own xs) a.shown c.cells_mut.result.now new) cells_are
    (subst (λ (r : Rect). IsStripCopied r (cell_in r cells) a.shown c.cells_mut.result.now new) strip_is
    c.copy_cells.ensures)) in
    subst (λ (r : Raster). IsStripWritten own whole a.shown a.image.now r)
    (sym (c.cells_given_back.ensures a.image.now new copied.count))
    (strip_written tiling a.tile tiled c.requires.tile a.edge a.image.now a.shown c.requires.width c.requires.height
    c.requires.lies kept new copied whole
    (strip_cell tiling a.tile tiled c.requires.tile a.edge whole a.values.now are))
