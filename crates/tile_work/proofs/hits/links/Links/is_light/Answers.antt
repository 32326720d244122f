-- What the tactics leave open of `is_light`.
use Rattle.std.proofs.Common.{refl, arith, ◌<◌, ◌≤◌}
use Rattle.tile_work.specs.Marks.{SomeIn, IsLight}
use Rattle.tile_work.proofs.HittingRects.{yes_where, no_where, some_in_row, none_in_all_rows}
use Rattle.tile_work.proofs.hits.links.Links.is_light.Goals as goal

pub returns-then-is_row_light : goal.returns-then-is_row_light
returns-then-is_row_light c =
    let light = IsLight c.args.self.now.image.now in
    let within : c.loop-i.i < c.args.rect.h = omega (arith, c.loop-i-test.true) in
    yes_where (SomeIn c.args.rect light)
    (some_in_row light c.args.rect c.loop-i.i within (c.if-is_row_light.ensures.0 refl))

pub returns : goal.returns
returns c =
    let light = IsLight c.args.self.now.image.now in
    let past : c.args.rect.h ≤ c.loop-i.i = omega (arith, c.loop-i-test.false) in
    no_where (SomeIn c.args.rect light) (none_in_all_rows light c.args.rect c.loop-i.i past c.loop-i.invariant)
