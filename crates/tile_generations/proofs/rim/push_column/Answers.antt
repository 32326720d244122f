-- What the tactics leave open of `push_column`.
use Rattle.grid_core.specs.{Raster.value_at}
use Rattle.tile_generations.proofs.Rims.{column_more}
use Rattle.tile_generations.proofs.rim.push_column.Goals as goal

pub loop-y-preserved : goal.loop-y-preserved
loop-y-preserved c =
    column_more (λ y. value_at c.args.image.now (record { x = c.args.x; y = y })) c.loop-y.y c.get.result
    c.args.values.now.items c.loop-y.values.items c.push.new.self.items c.get.ensures c.loop-y.invariant
    c.in_ok-push.ensures.items
