use Rattle.std.proofs.Common.{◌≡◌, arith, ap, ◌∙◌}
use Rattle.std.specs.Int.{div_ceil}
use Rattle.grid_core.proofs.Spans.{span_begins, span_of-within}
use Rattle.marker_tiles.proofs.many.raise_row_of_blocks.Goals as goal

pub raise_block-requires-clause-block : goal.raise_block-requires-clause-block
raise_block-requires-clause-block c =
    let width = c.args.mask.now.width in
    let side = c.args.blocks.now.side in
    let end : c.div_ceil-column-end.result ≡ div_ceil width side =
    c.div_ceil-column-end.ensures ∙ ap (λ w. div_ceil w side) c.width.ensures.value in
    record {
      blocks = c.requires.blocks;
      right = span_begins c.loop-column.column width side c.requires.blocks.is_side.some (omega (arith, end));
      below = c.requires.row;
    }

pub returns-clause-reached : goal.returns-clause-reached
returns-clause-reached c p inside is =
    let width = c.args.mask.now.width in
    let side = c.args.blocks.now.side in
    let end : c.div_ceil-column-end.result ≡ div_ceil width side =
    c.div_ceil-column-end.ensures ∙ ap (λ w. div_ceil w side) c.width.ensures.value in
    c.loop-column.invariant.1 p inside
    (is, omega (arith, end, span_of-within p.x width side c.requires.blocks.is_side.some inside.0))
