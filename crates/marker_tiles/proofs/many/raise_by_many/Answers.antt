use Rattle.std.proofs.Common.{◌≡◌, ◌<◌, length, take, ap, arith, sym, subst, ◌∙◌}
use Rattle.std.proofs.Math.Seq.{take-length}
use Rattle.marker_tiles.specs.Blocks.{HasLevel, level_in}
use Rattle.marker_tiles.specs.UnderTags.{level_of_some}
use Rattle.marker_tiles.proofs.{BlockLevels.keeps_level, Raising.nothing_there}
use Rattle.marker_tiles.proofs.ManyStrokes.{blocks_below, stroke_within, stroke_has, no_stroke_has, raised_by, has_none}
use Rattle.marker_tiles.proofs.ManyStrokes.{raised_to_most}
use Rattle.marker_tiles.proofs.many.raise_by_many.Goals.{in-Some, in_default}
use Rattle.marker_tiles.proofs.many.raise_by_many.Goals as goal

pub loop-tag-init : goal.loop-tag-init
loop-tag-init c =
    let state = c.args.state.now in
    let tags = c.args.tags.now in
    let mask = c.args.mask.now in (
      raised_to_most c.raise_blocks.ensures.raised
          (blocks_below state tags c.of-blocks.result c.note.new.self mask c.of-blocks.ensures.cut
          c.of-blocks.ensures.nothing c.note.ensures),
      c.raise_blocks.ensures.reached,
      has_none state tags mask c.raise_blocks.new.image,
    )

pub loop-tag-preserved : goal.loop-tag-preserved
loop-tag-preserved c =
    let state = c.args.state.now in
    let tags = c.args.tags.now in
    let (within_all, blocks_reached, reached) = c.loop-tag.invariant in
    let within : c.loop-tag.tag-index < length tags = omega (arith, c.loop-tag-test.true) in
    elim c.match-stroke.branch [
      | in-Some w ↦
          let there = sym w.in-Some.ensures in
          let raised = w.raise_beyond.ensures.raised in
          rw w.image-is (
            stroke_within state tags within c.tag-item.is within_all reached there raised,
            keeps_level (level_in c.note.new.self) blocks_reached raised,
            stroke_has state tags within c.tag-item.is within_all reached there raised
                w.raise_beyond.ensures.reached,
          )
      | in_default w ↦
          rw w.image-is (
            within_all,
            blocks_reached,
            no_stroke_has state tags within c.tag-item.is within_all reached
                (sym c.stroke.ensures ∙ nothing_there c.stroke.result w.in_default.not-Some),
          )
    ]

pub returns : goal.returns
returns c =
    let tags = c.args.tags.now in
    let all : c.loop-tag.tag-index ≡ length tags =
    omega (arith, c.loop-tag-test.false, c.loop-tag.auto.tag-index-end) in
    raised_by c.loop-tag.invariant.0
    (subst (λ ts. HasLevel (level_of_some c.args.state.now ts) c.args.mask.now c.loop-tag.image)
    (ap (λ n. take n tags) all ∙ take-length tags) c.loop-tag.invariant.2)
