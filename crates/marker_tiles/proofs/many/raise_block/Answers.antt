use Rattle.std.proofs.Common.{subst}
use Rattle.marker_tiles.specs.{declared.brush.Brush.TheVariants.Raise, declared.window.Window.Window}
use Rattle.marker_tiles.specs.Painting.{IsPaintedBy, in_window}
use Rattle.marker_tiles.proofs.BlockLevels.{filled_within, filled_has, window}
use Rattle.marker_tiles.proofs.many.raise_block.Goals as goal

pub returns-then-level-gt0-clause-raised : goal.returns-then-level-gt0-clause-raised
returns-then-level-gt0-clause-raised c =
    let mask = c.args.mask.now in
    let old = c.args.image.now in
    let new = c.fill.new.image in
    filled_within c.args.blocks.now c.args.column c.args.row mask old new c.requires.block
    (subst (λ level. IsPaintedBy (in_window
    (window c.args.blocks.now c.args.column c.args.row mask old new c.requires.block)) (Raise level) mask old new)
    c.level-level.ensures
    (subst (λ (w : Window). IsPaintedBy (in_window w) (Raise c.level-level.result) mask old new)
    c.window.ensures.value c.fill.ensures))

pub returns-then-level-gt0-clause-reached : goal.returns-then-level-gt0-clause-reached
returns-then-level-gt0-clause-reached c =
    let mask = c.args.mask.now in
    let old = c.args.image.now in
    let new = c.fill.new.image in
    filled_has c.args.blocks.now c.args.column c.args.row mask old new c.requires.block
    (subst (λ level. IsPaintedBy (in_window
    (window c.args.blocks.now c.args.column c.args.row mask old new c.requires.block)) (Raise level) mask old new)
    c.level-level.ensures
    (subst (λ (w : Window). IsPaintedBy (in_window w) (Raise c.level-level.result) mask old new)
    c.window.ensures.value c.fill.ensures))
