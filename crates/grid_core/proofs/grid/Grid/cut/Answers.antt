use Rattle.grid_core.specs.{Raster.value_at, Rects.part}
use Rattle.grid_core.proofs.ImageRows.{rows_more}
use Rattle.grid_core.proofs.grid.Grid.cut.Goals as goal

pub loop-y-preserved : goal.loop-y-preserved
loop-y-preserved c =
    rows_more c.args.rect.w (part c.args.rect (value_at c.args.self.now)) c.loop-y.y c.row_in.result.now
    c.loop-y.cells.items c.extend_from_slice.new.self.items c.loop-y.invariant c.row_in.ensures
    c.in_ok-extend_from_slice.ensures.items
