-- What the tactics leave open of `is_above_at`.
use Rattle.std.proofs.Common.{◌+◌, ◌≤◌, length, slice_range, ◌∙◌, arith}
use Rattle.tiled_image.specs.Rims.{strip_at}
use Rattle.tiled_image.proofs.{RimsAbove.strip_below, Strips.start_small, Strips.strip_ends}
use Rattle.tiled_image.proofs.rims.raising.is_above_at.Goals as goal

pub overflow_add-end : goal.overflow_add-end
overflow_add-end c =
    omega (
      arith,
      start_small c.args.tiling.now c.args.tile c.side-side.ensures.tiled c.requires.tile c.args.edge,
      c.start_of-start.ensures,
      c.side-side.ensures.value,
    )

pub offset_bounds-values-start : goal.offset_bounds-values-start
offset_bounds-values-start c =
    omega (
      arith,
      start_small c.args.tiling.now c.args.tile c.side-side.ensures.tiled c.requires.tile c.args.edge,
      c.start_of-start.ensures,
    )

pub slice_bounds-is_part_below-end : goal.slice_bounds-is_part_below-end
slice_bounds-is_part_below-end c =
    let within : c.start_of-start.result + c.side-side.result ≤ length c.args.values.now =
    omega (
      arith,
      strip_ends c.args.tiling.now c.args.tile c.side-side.ensures.tiled c.requires.tile c.args.edge,
      c.start_of-start.ensures,
      c.side-side.ensures.value,
      c.requires.count,
    ) in
    within

pub returns : goal.returns
returns c p passes inside =
    let a = c.args in
    let start = c.start_of-start.result in
    strip_below a.tiling.now a.tile c.side-side.ensures.tiled c.requires.tile a.edge a.piece.now c.strip_at-strip.result
    (slice_range a.values.now start (start + c.side-side.result)) a.values.now
    (c.strip_at-strip.ensures
    ∙ (λ i. strip_at a.edge (record {
      x = 0;
      y = 0;
      w = (c.width.ensures.value ∙ c.requires.width) i;
      h = (c.height.ensures.value ∙ c.requires.height) i;
    })))
    (λ i. slice_range a.values.now (c.start_of-start.ensures i)
    (c.start_of-start.ensures i + c.side-side.ensures.value i))
    c.requires.count (λ q there. c.is_part_below.ensures q passes there) p inside
