use Rattle.std.proofs.Common.{◌<◌, length, arith, sym, ◌∙◌}
use Rattle.marker_tiles.proofs.BlockLevels.{noted_also, noted_by_more, level_with_stroke}
use Rattle.marker_tiles.proofs.Raising.{nothing_there}
use Rattle.marker_tiles.proofs.blocks.Blocks.note.Goals.{in-Some, in_default}
use Rattle.marker_tiles.proofs.blocks.Blocks.note.Goals as goal

pub loop-tag-preserved : goal.loop-tag-preserved
loop-tag-preserved c =
    let state = c.args.state.now in
    let tags = c.args.tags.now in
    let within : c.loop-tag.tag-index < length tags = omega (arith, c.loop-tag-test.true) in
    elim c.match-stroke.branch [
      | in-Some w ↦
          rw w.self-is
          (noted_also c.loop-tag.invariant w.note_stroke.ensures
          (λ p. omega (arith, level_with_stroke state tags p within c.tag-item.is (sym w.in-Some.ensures))))
      | in_default w ↦
          rw w.self-is
          (noted_by_more state tags within c.tag-item.is
          (sym c.stroke.ensures ∙ nothing_there c.stroke.result w.in_default.not-Some) c.loop-tag.invariant)
    ]
