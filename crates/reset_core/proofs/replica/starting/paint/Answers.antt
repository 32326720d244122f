-- What the tactics leave open of `paint`.
use Rattle.std.proofs.Common.{subst, sym}
use Rattle.grid_core.specs.Raster.{Raster}
use Rattle.stroke_lattice.specs.State.{State, StateFits}
use Rattle.marker_tiles.specs.Kept.{IsMarkerOf}
use Rattle.reset_core.proofs.Starting.{empty_is_compatible, is_copy}
use Rattle.reset_core.proofs.replica.starting.paint.Goals as goal

pub join-requires : goal.join-requires
join-requires c = empty_is_compatible c.in_ok-copy.copy c.args.state.now c.in_ok-copy.ensures.value

pub apply-requires-clause-fits : goal.apply-requires-clause-fits
apply-requires-clause-fits c =
    let copy = is_copy c.in_ok-copy.copy c.args.state.now c.join.new.self c.in_ok-copy.ensures.value
    c.in_ok-change.ensures.join in
    subst (StateFits c.args.markers.now.mask.width c.args.markers.now.mask.height) (sym copy) c.requires.fits

pub apply-requires-clause-known : goal.apply-requires-clause-known
apply-requires-clause-known c = record {
  before = c.in_ok-copy.copy;
  was =
      subst (λ (s : State). IsMarkerOf c.args.markers.now.mask s c.args.markers.now.marker)
      (sym c.in_ok-copy.ensures.value) c.requires.blank;
  rises = c.in_ok-change.ensures.join.first;
  changed = c.in_ok-change.ensures.change;
}

pub returns-clause-marks : goal.returns-clause-marks
returns-clause-marks c =
    let copy = is_copy c.in_ok-copy.copy c.args.state.now c.join.new.self c.in_ok-copy.ensures.value
    c.in_ok-change.ensures.join in
    subst (λ (m : Raster). IsMarkerOf m c.args.state.now c.apply.new.self.marker) c.apply.ensures.mask
    (subst (λ (s : State). IsMarkerOf c.apply.new.self.mask s c.apply.new.self.marker) copy c.apply.ensures.marks)

pub returns-clause-copy : goal.returns-clause-copy
returns-clause-copy c =
    is_copy c.in_ok-copy.copy c.args.state.now c.join.new.self c.in_ok-copy.ensures.value
    c.in_ok-change.ensures.join
