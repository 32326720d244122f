-- What the tactics leave open of `is_row_light_beside`.
use Rattle.std.proofs.Common.{◌≡◌, true, false, arith}
use Rattle.tile_work.specs.Marks.{IsLightBeside}
use Rattle.tile_work.proofs.HittingRects.{none_in_all_pixels, none_in_more_pixels}
use Rattle.tile_work.proofs.hits.links.Links.is_row_light_beside.Goals as goal

pub loop-i-preserved : goal.loop-i-preserved
loop-i-preserved c =
    none_in_more_pixels (IsLightBeside c.args.self.now.image.now c.args.self.now.conn c.args.p) c.args.x c.args.y
    c.loop-i.i c.loop-i.invariant (λ (near, some). elim c.else-are_neighbours.branch [
      | goal.else-are_neighbours-via-then-are_neighbours+else-get-gt0 w ↦
          omega (arith, some, w.if-get-gt0.false, w.get.ensures)
      | goal.else-are_neighbours-via-else-are_neighbours w ↦
          let gone : false ≡ true = w.if-are_neighbours.ensures.1 near in
          cc
    ])

pub returns : goal.returns
returns c = (
  λ gone. absurd cc,
  λ some.
      absurd (none_in_all_pixels (IsLightBeside c.args.self.now.image.now c.args.self.now.conn c.args.p) c.args.x
      c.args.y c.args.w c.loop-i.i c.loop-i-test.false c.loop-i.invariant some),
)
