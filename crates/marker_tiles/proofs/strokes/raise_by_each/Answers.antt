use Rattle.std.proofs.Common.{◌<◌, length, arith, sym, ◌∙◌}
use Rattle.marker_tiles.proofs.Raising.{raised_next, raised_past, nothing_there}
use Rattle.marker_tiles.proofs.strokes.raise_by_each.Goals.{in-Some, in_default}
use Rattle.marker_tiles.proofs.strokes.raise_by_each.Goals as goal

pub loop-tag-preserved : goal.loop-tag-preserved
loop-tag-preserved c =
    let tags = c.args.tags.now in
    let within : c.loop-tag.tag-index < length tags = omega (arith, c.loop-tag-test.true) in
    elim c.match-stroke.branch [
      | in-Some w ↦
          rw w.image-is
          (raised_next tags within c.tag-item.is c.loop-tag.invariant c.whole-whole.result w.level_brush.ensures
          c.whole-whole.ensures.all (sym w.in-Some.ensures) w.paint.ensures)
      | in_default w ↦
          rw w.image-is
          (raised_past tags within c.tag-item.is c.loop-tag.invariant
          (sym c.stroke.ensures ∙ nothing_there c.stroke.result w.in_default.not-Some))
    ]
