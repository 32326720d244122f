-- What the tactics leave open of `is_light_beside`.
use Rattle.std.proofs.Common.{refl, arith, ◌<◌, ◌≤◌}
use Rattle.tile_work.specs.Marks.{SomeIn, IsLightBeside}
use Rattle.tile_work.proofs.HittingRects.{yes_where, no_where, some_in_row, none_in_all_rows, some_near_pixel}
use Rattle.tile_work.proofs.HittingRects.{light_in_near}
use Rattle.tile_work.proofs.hits.links.Links.is_light_beside.Goals as goal

pub returns-then-is_row_light_beside : goal.returns-then-is_row_light_beside
returns-then-is_row_light_beside c =
    let image = c.args.self.now.image.now in
    let conn = c.args.self.now.conn in
    let p = c.args.p in
    let near = c.part_near-near.result in
    let within : c.loop-i.i < near.h = omega (arith, c.loop-i-test.true) in
    yes_where (SomeIn c.args.rect (IsLightBeside image conn p))
    (some_near_pixel image conn p c.args.rect near c.part_near-near.ensures.pixels
    (some_in_row (IsLightBeside image conn p) near c.loop-i.i within (c.if-is_row_light_beside.ensures.0 refl)))

pub returns : goal.returns
returns c =
    let image = c.args.self.now.image.now in
    let conn = c.args.self.now.conn in
    let p = c.args.p in
    let near = c.part_near-near.result in
    let past : near.h ≤ c.loop-i.i = omega (arith, c.loop-i-test.false) in
    no_where (SomeIn c.args.rect (IsLightBeside image conn p)) (λ some.
    none_in_all_rows (IsLightBeside image conn p) near c.loop-i.i past c.loop-i.invariant
    (light_in_near image conn p c.args.rect near c.part_near-near.ensures.pixels some))
