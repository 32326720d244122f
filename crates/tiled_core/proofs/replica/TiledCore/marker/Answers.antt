-- What the tactics leave open of `marker`.
use Rattle.std.proofs.Common.{◌≡◌, subst}
use Rattle.marker_tiles.specs.Kept.{IsMarkerOf}
use Rattle.core_rules.specs.Work.{tiling, Core}
use Rattle.reset_core.proofs.Storing.{same_tiling}
use Rattle.tiled_core.specs.Stored.{core_of}
use Rattle.tiled_core.proofs.replica.TiledCore.marker.Goals as goal

pub returns-clause-tiling : goal.returns-clause-tiling
returns-clause-tiling c =
    let same : c.self.inside.markers.tiling ≡ tiling (core_of c.self.inside) =
    same_tiling c.self.inside.markers c.tiling.ensures.width c.tiling.ensures.height in
    subst (λ (core : Core). c.self.inside.markers.tiling ≡ tiling core) c.self.view_is same

pub returns-clause-marks : goal.returns-clause-marks
returns-clause-marks c =
    subst (λ (core : Core). IsMarkerOf core.mask core.state c.self.inside.markers.marker) c.self.view_is
    c.self.invariant.stored.marks
