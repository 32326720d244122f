-- What the tactics leave open of `over_state`.
use Rattle.std.proofs.Common.{◌∙◌, ap}
use Rattle.grid_core.specs.Tiles.{Tiles}
use Rattle.reset_core.proofs.replica.Core.over_state.Goals as goal

pub begin-requires-clause-fits : goal.begin-requires-clause-fits
begin-requires-clause-fits g c = rw c.over_blank-markers.ensures.mask c.requires.fits

pub begin-requires-clause-image : goal.begin-requires-clause-image
begin-requires-clause-image g c = rw c.over_blank-markers.ensures.mask c.in-Some.ensures.1.size

pub returns-clause-begun : goal.returns-clause-begun
returns-clause-begun g c =
    let side = ap (λ (t : Tiles). t.side) (c.over_blank-markers.ensures.tiling ∙ c.tiling_of-tiling.ensures) in
    rw (side, c.over_blank-markers.ensures.mask) at c.begin.ensures.begun
