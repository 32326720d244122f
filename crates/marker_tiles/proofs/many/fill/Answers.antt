use Rattle.std.proofs.Common.{arith}
use Rattle.marker_tiles.proofs.ManyStrokes.{window_row_more, window_without_rows, window_rows}
use Rattle.marker_tiles.proofs.Painted.{painted_also, painted_nothing, painted_alike}
use Rattle.marker_tiles.proofs.many.fill.Goals as goal

pub loop-y-init : goal.loop-y-init
loop-y-init c = (painted_nothing c.requires.size (λ p _. window_without_rows c.args.window p), omega arith)

pub loop-y-preserved : goal.loop-y-preserved
loop-y-preserved c = (
  painted_also c.loop-y.invariant.0 c.paint_between.ensures
      (λ p _. window_row_more c.args.window c.loop-y.y p (omega arith)),
  omega arith,
)

pub returns : goal.returns
returns c =
    painted_alike c.loop-y.invariant.0
    (λ p _. window_rows c.args.window c.loop-y.y p (omega arith) c.loop-y.invariant.1)
