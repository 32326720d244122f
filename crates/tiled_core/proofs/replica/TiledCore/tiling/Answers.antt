-- What the tactics leave open of `tiling`.
use Rattle.std.proofs.Common.{◌≡◌, length, subst}
use Rattle.grid_core.specs.Tiles.{IsTiled, count_of}
use Rattle.core_rules.specs.Work.{tiling, Core}
use Rattle.tiled_core.proofs.replica.TiledCore.tiling.Goals as goal

pub returns-clause-tiled : goal.returns-clause-tiled
returns-clause-tiled c =
    subst (λ (core : Core). IsTiled (tiling core)) c.self.view_is c.self.invariant.stored.sound.shape.tiled

pub returns-clause-count : goal.returns-clause-count
returns-clause-count c =
    subst (λ (core : Core). length core.tiles ≡ count_of (tiling core)) c.self.view_is
    c.self.invariant.stored.sound.shape.tiles
