-- What the tactics leave open of `begin`.
use Rattle.std.proofs.Common.{ap, subst, sym}
use Rattle.grid_core.specs.{Raster.Raster, Tiles.Tiles}
use Rattle.stroke_lattice.specs.State.{StateFits}
use Rattle.reset_core.specs.{Replica.begun, Replica.core_of, Starting.IsBegunWith}
use Rattle.reset_core.proofs.Starting.{begun_is_stored, stored_is_begun}
use Rattle.reset_core.proofs.replica.starting.begin.Goals as goal

pub with_markers-requires : goal.with_markers-requires
with_markers-requires g c =
    begun_is_stored c.args.conn c.args.first c.args.state.now c.paint_and_grow.new.markers c.in-Ok.beginning
    c.in-Ok.ensures.beginning c.requires.first
    (subst (λ (m : Raster). StateFits m.width m.height c.args.state.now) (sym c.paint_and_grow.ensures.mask)
    c.requires.fits)

pub returns-in-Ok-clause-begun : goal.returns-in-Ok-clause-begun
returns-in-Ok-clause-begun g c =
    let core = core_of (begun c.in-Ok.beginning c.args.conn c.paint_and_grow.new.markers) in
    let side = ap (λ (t : Tiles). t.side) c.paint_and_grow.ensures.tiling in
    subst (IsBegunWith c.args.markers.mask c.args.conn c.args.markers.tiling.side c.args.first c.args.state.now)
    (sym c.with_markers.ensures)
    (subst (λ (m : Raster). IsBegunWith m c.args.conn c.args.markers.tiling.side c.args.first c.args.state.now core)
    c.paint_and_grow.ensures.mask
    (subst (λ s. IsBegunWith c.paint_and_grow.new.markers.mask c.args.conn s c.args.first c.args.state.now core) side
    (stored_is_begun c.args.conn c.args.first c.args.state.now c.paint_and_grow.new.markers c.in-Ok.beginning
    c.in-Ok.ensures.beginning c.requires.first
    (subst (λ (m : Raster). StateFits m.width m.height c.args.state.now) (sym c.paint_and_grow.ensures.mask)
    c.requires.fits))))
