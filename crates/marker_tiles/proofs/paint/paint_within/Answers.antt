use Rattle.std.proofs.Common.{arith, refl}
use Rattle.marker_tiles.proofs.Painted.{painted_also, painted_nothing, painted_alike, one_window_more, all_windows}
use Rattle.marker_tiles.proofs.paint.paint_within.Goals as goal

pub loop-window-init : goal.loop-window-init
loop-window-init c = painted_nothing c.requires.size (λ p _. refl)

pub bounds-windows-window-index : goal.bounds-windows-window-index
bounds-windows-window-index c = c.loop-window-test.true

pub paint-requires-clause-size : goal.paint-requires-clause-size
paint-requires-clause-size c = c.loop-window.invariant.size

pub loop-window-preserved : goal.loop-window-preserved
loop-window-preserved c =
    painted_also c.loop-window.invariant c.paint.ensures (λ p _. one_window_more c.args.windows.now c.args.stroke.now
    c.loop-window.window-index _ p c.loop-window-test.true)

pub returns : goal.returns
returns c =
    painted_alike c.loop-window.invariant (λ p _. all_windows c.args.windows.now c.args.stroke.now
    c.loop-window.window-index p (omega arith))
