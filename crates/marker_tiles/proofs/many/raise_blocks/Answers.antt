use Rattle.std.proofs.Common.{◌≡◌, arith, ap, ◌∙◌}
use Rattle.std.specs.Int.{div_ceil}
use Rattle.marker_tiles.proofs.many.raise_blocks.Goals as goal
use Rattle.grid_core.proofs.Spans.{span_of-within}

pub returns-clause-reached : goal.returns-clause-reached
returns-clause-reached c p inside =
    let height = c.args.mask.now.height in
    let side = c.args.blocks.now.side in
    let end : c.div_ceil-row-end.result ≡ div_ceil height side =
    c.div_ceil-row-end.ensures ∙ ap (λ h. div_ceil h side) c.height.ensures.value in
    c.loop-row.invariant.1 p inside
    (omega (arith, end, span_of-within p.y height side c.requires.blocks.is_side.some inside.1))
