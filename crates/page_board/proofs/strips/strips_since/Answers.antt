use Rattle.std.proofs.Common.{◌<◌, subst, arith}
use Rattle.grid_core.specs.{declared.rect.Rect.Rect, Tiles.count_of}
use Rattle.page_board.specs.Strips.{IsAdded}
use Rattle.page_board.proofs.Covering.{no_strips, strips_passed, strips_more}
use Rattle.page_board.proofs.strips.strips_since.Goals.{then-since-shown+in_ok-add_rect, else-since-shown}
use Rattle.page_board.proofs.strips.strips_since.Goals as goal

pub loop-tile-init : goal.loop-tile-init
loop-tile-init c = rw c.new-rects.ensures.items (no_strips c.args.tiling.now c.args.shown.now c.args.since)

pub loop-tile-preserved : goal.loop-tile-preserved
loop-tile-preserved c =
    let within : c.loop-tile.tile < count_of c.args.tiling.now = omega arith in
    elim c.if-since-shown.branch [
      | then-since-shown+in_ok-add_rect w ↦ rw w.rects-is (strips_more c.args.tiling.now c.args.shown.now c.args.since
          c.loop-tile.tile c.loop-tile.rects.items c.loop-tile.invariant within w.add_rect.new.rects.items
          w.if-since-shown.true
          (subst (λ (r : Rect). IsAdded c.args.tiling.now c.loop-tile.rects.items r w.add_rect.new.rects.items)
          w.rect.ensures.value w.in_ok-add_rect.ensures))
      | else-since-shown w ↦ rw w.rects-is (strips_passed c.args.tiling.now c.args.shown.now c.args.since
          c.loop-tile.tile c.loop-tile.rects.items c.loop-tile.invariant within w.if-since-shown.false)
    ]
