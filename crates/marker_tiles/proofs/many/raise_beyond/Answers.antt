use Rattle.std.proofs.Common.{arith}
use Rattle.grid_core.proofs.Spans.{span_begins}
use Rattle.marker_tiles.specs.{Blocks.level_in, UnderTags.level_at}
use Rattle.marker_tiles.proofs.BlockLevels.{stays_within, within_also, keeps_level}
use Rattle.marker_tiles.proofs.ManyStrokes.{rows_before, rows_more, rows_end}
use Rattle.marker_tiles.proofs.many.raise_beyond.Goals as goal

pub loop-row-init : goal.loop-row-init
loop-row-init c = (
  stays_within c.requires.size,
  rows_before c.args.stroke.now c.cut_to-around.result c.args.mask.now c.args.image.now
      (λ p inside covered. c.cut_to-around.ensures.kept p inside (c.round.ensures p covered)) c.args.blocks.now.side
      c.requires.blocks.is_side.some,
)

pub raise_beyond_in_row-requires-clause-size : goal.raise_beyond_in_row-requires-clause-size
raise_beyond_in_row-requires-clause-size c = c.loop-row.invariant.0.size

pub raise_beyond_in_row-requires-clause-reached : goal.raise_beyond_in_row-requires-clause-reached
raise_beyond_in_row-requires-clause-reached c =
    keeps_level (level_in c.args.blocks.now) c.requires.reached c.loop-row.invariant.0

pub raise_beyond_in_row-requires-clause-around : goal.raise_beyond_in_row-requires-clause-around
raise_beyond_in_row-requires-clause-around c p inside covered =
    c.cut_to-around.ensures.kept p inside (c.round.ensures p covered)

pub raise_beyond_in_row-requires-clause-row : goal.raise_beyond_in_row-requires-clause-row
raise_beyond_in_row-requires-clause-row c =
    let begins = span_begins c.loop-row.row c.cut_to-around.result.bottom c.args.blocks.now.side
    c.requires.blocks.is_side.some (omega arith) in
    omega (arith, begins, c.cut_to-around.ensures.fits.rows)

pub loop-row-preserved : goal.loop-row-preserved
loop-row-preserved c = (
  within_also c.loop-row.invariant.0 c.raise_beyond_in_row.ensures.raised (λ p inside. omega arith),
  rows_more (level_at c.args.stroke.now) c.args.blocks.now.side c.loop-row.row c.loop-row.invariant.1
      c.raise_beyond_in_row.ensures.raised c.raise_beyond_in_row.ensures.reached,
)

pub returns-clause-raised : goal.returns-clause-raised
returns-clause-raised c = c.loop-row.invariant.0

pub returns-clause-reached : goal.returns-clause-reached
returns-clause-reached c =
    rows_end c.args.stroke.now c.cut_to-around.result c.args.mask.now c.loop-row.image
    (λ p inside covered. c.cut_to-around.ensures.kept p inside (c.round.ensures p covered)) c.args.blocks.now.side
    c.requires.blocks.is_side.some c.loop-row.row (omega arith) c.loop-row.invariant.1
