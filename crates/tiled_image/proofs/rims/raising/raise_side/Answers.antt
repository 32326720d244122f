-- What the tactics leave open of `raise_side`.
use Rattle.std.proofs.Common.{◌≡◌, ◌+◌, ◌≤◌, length, ap, ◌∙◌, arith}
use Rattle.tiled_image.specs.Sides.{side_of}
use Rattle.tiled_image.proofs.{CopiedStrips.part_long, CopiedStrips.part_replaced, RaisedRims.raised_strip}
use Rattle.tiled_image.proofs.{RaisedRims.side_ends, Strips.start_small, Strips.tile_strip_within}
use Rattle.tiled_image.proofs.rims.raising.raise_side.Goals as goal

pub overflow_add-end : goal.overflow_add-end
overflow_add-end c =
    let a = c.args in
    let tiling = a.tiling.now in
    let tiled = c.side.ensures.tiled in
    omega (
      arith,
      c.start_of-start.ensures,
      ap length c.side_of-side.ensures,
      c.requires.rim a.edge,
      tile_strip_within tiling a.tile tiled c.requires.tile a.edge,
      start_small tiling a.tile tiled c.requires.tile a.edge,
    )

pub slice_bounds-raise_row-end : goal.slice_bounds-raise_row-end
slice_bounds-raise_row-end c =
    let a = c.args in
    let within : c.start_of-start.result + length c.side_of-side.result.now ≤ length a.values.now =
    omega (
      arith,
      side_ends a.tiling.now a.tile c.side.ensures.tiled c.requires.tile a.edge (side_of a.edge a.rim.now)
          (c.requires.rim a.edge),
      ap length c.side_of-side.ensures,
      c.start_of-start.ensures,
      c.requires.count,
    ) in
    within

pub offset_bounds-values-start : goal.offset_bounds-values-start
offset_bounds-values-start c =
    let a = c.args in
    omega (
      arith,
      c.start_of-start.ensures,
      start_small a.tiling.now a.tile c.side.ensures.tiled c.requires.tile a.edge,
    )

pub returns : goal.returns
returns c =
    let a = c.args in
    let start = c.start_of-start.result in
    let given = c.side_of-side.result.now in
    let row = c.raise_row.new.row in
    let within : start + length given ≤ length a.values.now =
    omega (
      arith,
      side_ends a.tiling.now a.tile c.side.ensures.tiled c.requires.tile a.edge (side_of a.edge a.rim.now)
          (c.requires.rim a.edge),
      ap length c.side_of-side.ensures,
      c.start_of-start.ensures,
      c.requires.count,
    ) in
    let long : length row ≡ length given =
    c.raise_row.auto.row ∙ part_long a.values.now start (length given) within in
    raised_strip a.tiling.now a.tile c.side.ensures.tiled c.requires.tile a.edge start given (side_of a.edge a.rim.now)
    a.values.now row _ c.start_of-start.ensures c.side_of-side.ensures (c.requires.rim a.edge) c.requires.count long
    (part_replaced start (length given) row a.values.now long within) c.raise_row.ensures
