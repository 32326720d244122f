-- What the tactics leave open of `widened_at`.
use Rattle.std.proofs.Common.{◌≡◌, ◌+◌, ◌*◌, ◌<◌, ◌≤◌, length, ap, sym, subst, ◌∙◌, arith}
use Rattle.grid_core.specs.declared.rect.Rect.{Rect}
use Rattle.tiled_image.specs.{Rims.strip_at, Rims.strip_of, Sides.side_of}
use Rattle.tiled_image.proofs.{CopiedStrips.part_long, RaisedRims.side_ends, RimsAbove.widened_strip}
use Rattle.tiled_image.proofs.Strips.{start_small, tile_strip_small, tile_strip_within}
use Rattle.tiled_image.proofs.rims.raising.widened_at.Goals as goal

pub strip_at-strip-requires-clause-some_width : goal.strip_at-strip-requires-clause-some_width
strip_at-strip-requires-clause-some_width c = c.rect.ensures.fits.some_width

pub strip_at-strip-requires-clause-some_height : goal.strip_at-strip-requires-clause-some_height
strip_at-strip-requires-clause-some_height c = c.rect.ensures.fits.some_height

pub strip_at-strip-requires-clause-columns : goal.strip_at-strip-requires-clause-columns
strip_at-strip-requires-clause-columns c =
    omega (arith, c.rect.ensures.fits.columns, c.side.ensures.tiled.size.width_within)

pub strip_at-strip-requires-clause-rows : goal.strip_at-strip-requires-clause-rows
strip_at-strip-requires-clause-rows c =
    omega (arith, c.rect.ensures.fits.rows, c.side.ensures.tiled.size.height_within)

pub start_of-start-requires : goal.start_of-start-requires
start_of-start-requires c = c.requires.tile

pub overflow_add-end : goal.overflow_add-end
overflow_add-end c =
    let a = c.args in
    let tiling = a.tiling.now in
    let tiled = c.side.ensures.tiled in
    omega (
      arith,
      c.start_of-start.ensures,
      ap length c.side_of-side.ensures,
      c.requires.rim a.edge,
      tile_strip_within tiling a.tile tiled c.requires.tile a.edge,
      start_small tiling a.tile tiled c.requires.tile a.edge,
    )

pub offset_bounds-values-start : goal.offset_bounds-values-start
offset_bounds-values-start c =
    let a = c.args in
    omega (
      arith,
      c.start_of-start.ensures,
      start_small a.tiling.now a.tile c.side.ensures.tiled c.requires.tile a.edge,
    )

pub slice_bounds-widened_by_line-count : goal.slice_bounds-widened_by_line-count
slice_bounds-widened_by_line-count c = omega arith

pub slice_bounds-widened_by_line-start : goal.slice_bounds-widened_by_line-start
slice_bounds-widened_by_line-start c =
    let start = c.start_of-start.result in
    let begins : start ≤ start + length c.side_of-side.result.now = omega arith in
    begins

pub slice_bounds-widened_by_line-end : goal.slice_bounds-widened_by_line-end
slice_bounds-widened_by_line-end c =
    let a = c.args in
    let within : c.start_of-start.result + length c.side_of-side.result.now ≤ length a.values.now =
    omega (
      arith,
      side_ends a.tiling.now a.tile c.side.ensures.tiled c.requires.tile a.edge (side_of a.edge a.rim.now)
          (c.requires.rim a.edge),
      ap length c.side_of-side.ensures,
      c.start_of-start.ensures,
      c.requires.count,
    ) in
    within

pub widened_by_line-requires-clause-columns : goal.widened_by_line-requires-clause-columns
widened_by_line-requires-clause-columns c =
    let a = c.args in
    let strip_is : c.strip_at-strip.result ≡ strip_of a.tiling.now a.tile a.edge =
    c.strip_at-strip.ensures ∙ ap (strip_at a.edge) c.rect.ensures.value in
    subst (λ (r : Rect). r.x + r.w < 4294967296) (sym strip_is)
    (tile_strip_small a.tiling.now a.tile c.side.ensures.tiled c.requires.tile a.edge).0

pub widened_by_line-requires-clause-rows : goal.widened_by_line-requires-clause-rows
widened_by_line-requires-clause-rows c =
    let a = c.args in
    let strip_is : c.strip_at-strip.result ≡ strip_of a.tiling.now a.tile a.edge =
    c.strip_at-strip.ensures ∙ ap (strip_at a.edge) c.rect.ensures.value in
    subst (λ (r : Rect). r.y + r.h < 4294967296) (sym strip_is)
    (tile_strip_small a.tiling.now a.tile c.side.ensures.tiled c.requires.tile a.edge).1

-- a value and a limit for each pixel of the strip
pub widened_by_line-requires-clause-limits : goal.widened_by_line-requires-clause-limits
widened_by_line-requires-clause-limits c =
    let strip_is = c.strip_at-strip.ensures ∙ ap (strip_at c.args.edge) c.rect.ensures.value in
    ap length c.side_of-side.ensures ∙ c.requires.rim c.args.edge
    ∙ ap (λ (r : Rect). r.w * r.h) (sym strip_is)

pub widened_by_line-requires-clause-values : goal.widened_by_line-requires-clause-values
widened_by_line-requires-clause-values c =
    let a = c.args in
    let strip_is = c.strip_at-strip.ensures ∙ ap (strip_at a.edge) c.rect.ensures.value in
    let within : c.start_of-start.result + length c.side_of-side.result.now ≤ length a.values.now =
    omega (
      arith,
      side_ends a.tiling.now a.tile c.side.ensures.tiled c.requires.tile a.edge (side_of a.edge a.rim.now)
          (c.requires.rim a.edge),
      ap length c.side_of-side.ensures,
      c.start_of-start.ensures,
      c.requires.count,
    ) in
    part_long a.values.now c.start_of-start.result (length c.side_of-side.result.now) within
    ∙ ap length c.side_of-side.ensures ∙ c.requires.rim a.edge ∙ ap (λ (r : Rect). r.w * r.h) (sym strip_is)

pub returns : goal.returns
returns c =
    let a = c.args in
    widened_strip a.tiling.now a.tile c.side.ensures.tiled c.requires.tile a.edge c.strip_at-strip.result
    c.start_of-start.result c.side_of-side.result.now (side_of a.edge a.rim.now) a.values.now a.before
    c.widened_by_line.result (c.strip_at-strip.ensures ∙ ap (strip_at a.edge) c.rect.ensures.value)
    c.start_of-start.ensures c.side_of-side.ensures (c.requires.rim a.edge) c.requires.count c.widened_by_line.ensures
