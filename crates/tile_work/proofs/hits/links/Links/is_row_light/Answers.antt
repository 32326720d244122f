-- What the tactics leave open of `is_row_light`.
use Rattle.std.proofs.Common.{◌+◌, ◌<◌, ◌≤◌, arith}
use Rattle.grid_core.specs.Raster.{value_at}
use Rattle.tile_work.specs.Marks.{SomeIn, IsLight, pixels_upto}
use Rattle.tile_work.proofs.HittingRects.{yes_where, no_where, some_at_pixel, none_in_more_pixels, none_in_all_pixels}
use Rattle.tile_work.proofs.hits.links.Links.is_row_light.Goals as goal

pub returns-then-value-gt0 : goal.returns-then-value-gt0
returns-then-value-gt0 c =
    let image = c.args.self.now.image.now in
    let x = c.args.x in
    let y = c.args.y in
    let w = c.args.w in
    let i = c.loop-value.value-index in
    let within : i < w = omega (arith, c.loop-value-test.true, c.row-row.ensures.long) in
    let light : 0 < value_at image (record { x = x + i; y = y }) =
    omega (arith, c.row-row.ensures.values i within, c.if-value-gt0.true) in
    yes_where (SomeIn (pixels_upto x y w) (IsLight image)) (some_at_pixel (IsLight image) x y w i within light)

pub loop-value-preserved : goal.loop-value-preserved
loop-value-preserved c =
    let w = c.args.w in
    let i = c.loop-value.value-index in
    let within : i < w = omega (arith, c.loop-value-test.true, c.row-row.ensures.long) in
    none_in_more_pixels (IsLight c.args.self.now.image.now) c.args.x c.args.y i c.loop-value.invariant (λ light.
    omega (arith, light, c.row-row.ensures.values i within, c.if-value-gt0.false))

pub returns : goal.returns
returns c =
    let light = IsLight c.args.self.now.image.now in
    let past : c.args.w ≤ c.loop-value.value-index = omega (arith, c.loop-value-test.false, c.row-row.ensures.long) in
    no_where (SomeIn (pixels_upto c.args.x c.args.y c.args.w) light)
    (none_in_all_pixels light c.args.x c.args.y c.args.w c.loop-value.value-index past c.loop-value.invariant)
