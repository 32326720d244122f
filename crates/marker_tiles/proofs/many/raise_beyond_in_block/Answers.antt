use Rattle.std.proofs.Common.{subst, ◌&&◌}
use Rattle.stroke_core.specs.Seed.{covers}
use Rattle.marker_tiles.specs.{declared.brush.Brush.Brush, declared.window.Window.Window, Blocks.block_window}
use Rattle.marker_tiles.specs.Painting.{IsPaintedBy, in_window}
use Rattle.marker_tiles.proofs.BlockLevels.{stroke_in_block}
use Rattle.marker_tiles.proofs.many.raise_beyond_in_block.Goals as goal

pub returns-then-level-clause-reached : goal.returns-then-level-clause-reached
returns-then-level-clause-reached c =
    let blocks = c.args.blocks.now in
    let mask = c.args.mask.now in
    let seed = c.args.stroke.now in
    let old = c.args.image.now in
    let new = c.paint.new.marker in
    let window = block_window blocks.side mask.width mask.height c.args.column c.args.row in
    stroke_in_block blocks c.args.column c.args.row mask old new c.requires.block seed
    (subst (λ (brush : Brush). IsPaintedBy (λ p. in_window window p && covers seed p) brush mask old new)
    c.level_brush.ensures
    (subst (λ (w : Window). IsPaintedBy (λ p. in_window w p && covers seed p) c.level_brush.result mask old new)
    c.window.ensures.value c.paint.ensures))
