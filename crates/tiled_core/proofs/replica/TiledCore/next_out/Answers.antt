-- What the tactics leave open of `next_out`.
use Rattle.std.proofs.Common.{subst}
use Rattle.core_rules.specs.Work.{Core}
use Rattle.tile_work.specs.{Least.IsLeastFrom, WorkTable.HasJobOut}
use Rattle.tiled_core.proofs.replica.TiledCore.next_out.Goals as goal

pub returns : goal.returns
returns c =
    subst (λ (core : Core). IsLeastFrom (HasJobOut core.tiles) c.args.from c.next_out.result) c.self.view_is
    c.next_out.ensures
