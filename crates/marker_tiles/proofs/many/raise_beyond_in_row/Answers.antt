use Rattle.std.proofs.Common.{arith}
use Rattle.grid_core.proofs.Spans.{span_begins}
use Rattle.marker_tiles.proofs.{BlockLevels.stays_within, ManyStrokes.columns_before, ManyStrokes.columns_end}
use Rattle.marker_tiles.proofs.many.raise_beyond_in_row.Goals as goal

pub loop-column-init : goal.loop-column-init
loop-column-init c = (
  stays_within c.requires.size,
  columns_before c.args.stroke.now c.args.around c.args.mask.now c.args.image.now c.requires.around
      c.args.blocks.now.side c.requires.blocks.is_side.some c.args.row,
)

pub raise_beyond_in_block-requires-clause-block : goal.raise_beyond_in_block-requires-clause-block
raise_beyond_in_block-requires-clause-block c =
    let begins = span_begins c.loop-column.column c.args.around.right c.args.blocks.now.side
    c.requires.blocks.is_side.some (omega arith) in
    record {
      blocks = c.requires.blocks;
      right = omega (arith, begins, c.requires.fits.columns);
      below = c.requires.row;
    }

pub returns-clause-reached : goal.returns-clause-reached
returns-clause-reached c =
    columns_end c.args.stroke.now c.args.around c.args.mask.now c.loop-column.image c.requires.around
    c.args.blocks.now.side c.requires.blocks.is_side.some c.args.row c.loop-column.column (omega arith)
    c.loop-column.invariant.1
