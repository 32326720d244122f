-- What the tactics leave open of `next_dirty`.
use Rattle.core_rules.specs.Sweeps.{IsReady}
use Rattle.tile_work.specs.WorkTable.{CanBeTaken}
use Rattle.tile_work.proofs.Leasts.{least_alike}
use Rattle.tiled_core.specs.Stored.{core_of}
use Rattle.tiled_core.proofs.replica.TiledCore.next_dirty.Goals as goal

pub returns : goal.returns
returns c =
    rw c.self.view_is at (least_alike (CanBeTaken c.self.inside.work) (IsReady (core_of c.self.inside))
    (λ t can. record { is_tile = can.0.0; dirty = can.0.1; none_out = can.1 })
    (λ t ready. ((ready.is_tile, ready.dirty), ready.none_out)) c.args.from c.next_ready.result c.next_ready.ensures)
