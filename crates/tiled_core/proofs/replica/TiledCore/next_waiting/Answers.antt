-- What the tactics leave open of `next_waiting`.
use Rattle.std.proofs.Common.{subst}
use Rattle.core_rules.specs.{Work.Core, Runs.HasHints}
use Rattle.tile_work.specs.Least.{IsLeastFrom}
use Rattle.tiled_core.proofs.replica.TiledCore.next_waiting.Goals as goal

pub returns : goal.returns
returns c =
    subst (λ (core : Core). IsLeastFrom (HasHints core) c.args.from c.next_waiting.result) c.self.view_is
    c.next_waiting.ensures
