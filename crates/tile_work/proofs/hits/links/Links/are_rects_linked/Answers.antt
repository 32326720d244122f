-- What the tactics leave open of `are_rects_linked`.
use Rattle.std.proofs.Common.{◌≡◌, true, refl, arith, ◌<◌, ◌≤◌}
use Rattle.tile_work.specs.Marks.{SomeIn, IsLinkedInto}
use Rattle.tile_work.proofs.HittingRects.{yes_where, no_where, some_in_row, none_in_all_rows, some_of_near}
use Rattle.tile_work.proofs.HittingRects.{linked_in_near, dark_is_not_linked}
use Rattle.tile_work.proofs.hits.links.Links.are_rects_linked.Goals as goal

pub returns-then-is_row_linked : goal.returns-then-is_row_linked
returns-then-is_row_linked c =
    let image = c.args.self.now.image.now in
    let conn = c.args.self.now.conn in
    let other = c.args.other in
    let near = c.part_near-near.result in
    let within : c.loop-i.i < near.h = omega (arith, c.loop-i-test.true) in
    yes_where (SomeIn c.args.rect (IsLinkedInto image conn other))
    (some_of_near image conn c.args.rect other near c.part_near-near.ensures.pixels (IsLinkedInto image conn other)
    (some_in_row (IsLinkedInto image conn other) near c.loop-i.i within (c.if-is_row_linked.ensures.0 refl)))

pub returns-then-not-is_light : goal.returns-then-not-is_light
returns-then-not-is_light c =
    let image = c.args.self.now.image.now in
    let conn = c.args.self.now.conn in
    no_where (SomeIn c.args.rect (IsLinkedInto image conn c.args.other)) (dark_is_not_linked image conn c.args.rect
    c.args.other c.part_near-opposite.result c.part_near-opposite.ensures.pixels (λ light.
    let held : c.is_light.result ≡ true = c.is_light.ensures.1 light in cc))

pub returns : goal.returns
returns c =
    let image = c.args.self.now.image.now in
    let conn = c.args.self.now.conn in
    let other = c.args.other in
    let near = c.part_near-near.result in
    let past : near.h ≤ c.loop-i.i = omega (arith, c.loop-i-test.false) in
    no_where (SomeIn c.args.rect (IsLinkedInto image conn other)) (λ some.
    none_in_all_rows (IsLinkedInto image conn other) near c.loop-i.i past c.loop-i.invariant
    (linked_in_near image conn c.args.rect other near c.part_near-near.ensures.pixels some))
