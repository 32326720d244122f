-- What the tactics leave open of `is_row_linked`.
use Rattle.std.proofs.Common.{◌≡◌, true, false, arith}
use Rattle.tile_work.specs.Marks.{IsLinkedInto}
use Rattle.tile_work.proofs.HittingRects.{none_in_all_pixels, none_in_more_pixels}
use Rattle.tile_work.proofs.hits.links.Links.is_row_linked.Goals.{else-get-gt0-via-then-get-gt0+else-is_light_beside}
use Rattle.tile_work.proofs.hits.links.Links.is_row_linked.Goals.{else-get-gt0-via-else-get-gt0}
use Rattle.tile_work.proofs.hits.links.Links.is_row_linked.Goals as goal

pub loop-i-preserved : goal.loop-i-preserved
loop-i-preserved c =
    none_in_more_pixels (IsLinkedInto c.args.self.now.image.now c.args.self.now.conn c.args.other) c.args.x c.args.y
    c.loop-i.i c.loop-i.invariant (λ (above, some). elim c.else-get-gt0.branch [
      | else-get-gt0-via-then-get-gt0+else-is_light_beside w ↦
          let gone : false ≡ true = w.if-is_light_beside.ensures.1 some in
          cc
      | else-get-gt0-via-else-get-gt0 w ↦ omega (arith, above, w.if-get-gt0.false, c.get.ensures)
    ])

pub returns : goal.returns
returns c = (
  λ gone. absurd cc,
  λ some.
      absurd (none_in_all_pixels (IsLinkedInto c.args.self.now.image.now c.args.self.now.conn c.args.other) c.args.x
      c.args.y c.args.w c.loop-i.i c.loop-i-test.false c.loop-i.invariant some),
)
