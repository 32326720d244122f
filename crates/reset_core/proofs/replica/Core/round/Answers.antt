-- What the tactics leave open of `round`.
use Rattle.std.proofs.Common.{◌≡◌, ◌+◌, ◌/◌, length, drop, ap, sym, ◌∙◌, subst, arith, refl}
use Rattle.std.proofs.lemmas.List.{take_at}
use Rattle.grid_core.specs.{Raster.Raster, Tiles.Tiles}
use Rattle.grid_core.proofs.GivenBack.{cells_given_back}
use Rattle.core_rules.specs.Work.{Core, tiling}
use Rattle.reset_core.specs.declared.replica.Core.TheInside.{Inside as Parts}
use Rattle.reset_core.specs.{BandParts.AreBandsCut, BandParts.AreBandsSwept, Replica.core_of, Settling.HasOnlySweeps}
use Rattle.grid_core.specs.Tiles.{rows_of}
use Rattle.reset_core.proofs.Bands.Rounds.{IsLent, untouched_there, can_take_there, somewhere_there, ready_there}
use Rattle.reset_core.proofs.Bands.Rounds.{few_there, fit_there, stored_there, into_there}
use Rattle.reset_core.proofs.Bands.Settling.{none_swept_in_bands}
use Rattle.reset_core.proofs.replica.Core.round.Given.{Over}
use Rattle.reset_core.proofs.replica.Core.round.Goals as goal
use Rattle.reset_core.proofs.replica.Core.round.Goals.{After-deref, After-deref_mut}

tiles_of : (parts : Parts) (tiles : Tiles) → tiles ≡ parts.markers.tiling
    → parts.markers.tiling.width ≡ parts.markers.mask.width → parts.markers.tiling.height ≡ parts.markers.mask.height
    → tiles ≡ tiling (core_of parts)
tiles_of parts tiles value width height =
    value ∙ (λ i. record { width = width i; height = height i; side = parts.markers.tiling.side })

left_of : (parts : Parts) (core : Core) → core_of parts ≡ core → HasOnlySweeps core → HasOnlySweeps (core_of parts)
left_of parts core is = subst HasOnlySweeps (sym is)

-- what is lent to the sweeps
lent : (g : Over) (c : After-deref_mut g)
    → IsLent c.self.inside (c.args.jobs / (length c.args.cuts.now + 1)) c.tiling-tiling.result c.cells-mask.result.now
    c.cells_mut.result.now c.deref_mut.result.now
lent g c =
    let parts = c.self.inside in
    let tiles = c.tiling-tiling.ensures in
    record {
      tiles_are = tiles_of parts c.tiling-tiling.result tiles.value tiles.width tiles.height;
      mask_is = c.cells-mask.ensures.values ∙ ap (λ (r : Raster). r.cells) c.mask.ensures.value;
      old_is = c.cells_mut.ensures.values;
      cut =
          subst (λ bands. AreBandsCut c.tiling-tiling.result parts.conn (c.args.jobs / (length c.args.cuts.now + 1))
          parts.work parts.bounds 0 bands (rows_of c.tiling-tiling.result)) (sym c.deref_mut.ensures.value)
          c.in-Ok.ensures.cut;
    }

-- the bands as they are put back are those that were swept
swept : (g : Over) (c : After-deref g)
    → AreBandsSwept c.tiling-tiling.result 0 c.cells-mask.result.now c.cells_mut.result.now c.deref_mut.result.now
    c.sweep_bands.new.image c.deref.result.now
swept g c =
    let after = c.sweep_bands.new.bands in
    let same =
    c.deref.ensures.value
    ∙ take_at after (drop (length after) c.in-Ok.bands.items) c.in-Ok.bands.len
    (c.sweep_bands.auto.bands ∙ c.deref_mut.ensures.len) in
    subst (AreBandsSwept c.tiling-tiling.result 0 c.cells-mask.result.now c.cells_mut.result.now
    c.deref_mut.result.now c.sweep_bands.new.image) (sym same) c.sweep_bands.ensures

pub cut_bands-cut-requires : goal.cut_bands-cut-requires
cut_bands-cut-requires g c =
    let parts = c.self.inside in
    let tiles = c.tiling-tiling.ensures in
    record {
      untouched =
          untouched_there c.edges_are_open.ensures parts c.self.invariant
          (left_of parts c.args.self.now c.self.view_is c.requires.left) c.tiling-tiling.result
          (tiles_of parts c.tiling-tiling.result tiles.value tiles.width tiles.height);
    }

pub returns-in_default-clause-swept : goal.returns-in_default-clause-swept
returns-in_default-clause-swept g c = none_swept_in_bands c.args.self.now c.args.swept.now c.requires.left

pub sweep_bands-requires-clause-somewhere : goal.sweep_bands-requires-clause-somewhere
sweep_bands-requires-clause-somewhere g c κs within =
    let parts = c.self.inside in
    somewhere_there c.edges_are_open.ensures parts c.self.invariant
    (left_of parts c.args.self.now c.self.view_is c.requires.left) _ _ _ _ _ (lent g c)

pub sweep_bands-requires-clause-ready : goal.sweep_bands-requires-clause-ready
sweep_bands-requires-clause-ready g c κs within =
    let parts = c.self.inside in
    ready_there c.edges_are_open.ensures parts c.self.invariant
    (left_of parts c.args.self.now c.self.view_is c.requires.left) _ _ _ _ _ (lent g c)

pub put_back-swept_jobs-requires-clause-tables : goal.put_back-swept_jobs-requires-clause-tables
put_back-swept_jobs-requires-clause-tables g c =
    let parts = c.self.inside in
    let tiles = c.tiling-tiling.ensures in
    can_take_there c.edges_are_open.ensures parts c.self.invariant
    (left_of parts c.args.self.now c.self.view_is c.requires.left) c.tiling-tiling.result
    (tiles_of parts c.tiling-tiling.result tiles.value tiles.width tiles.height) c.args.swept.now
    (c.requires.count ∙ ap (λ (core : Core). length core.tiles) (sym c.self.view_is))

pub put_back-swept_jobs-requires-clause-fit : goal.put_back-swept_jobs-requires-clause-fit
put_back-swept_jobs-requires-clause-fit g c =
    let parts = c.self.inside in
    let at = goal.at.put_back-swept_jobs-requires-clause-fit g c in
    fit_there c.edges_are_open.ensures parts c.self.invariant
    (left_of parts c.args.self.now c.self.view_is c.requires.left) _ _ _ _ _ (lent g at.After-deref_mut) _ _
    (swept g at.After-deref) (omega (arith, c.self.ranges))

pub put_back-swept_jobs-requires-clause-few : goal.put_back-swept_jobs-requires-clause-few
put_back-swept_jobs-requires-clause-few g c =
    let parts = c.self.inside in
    let at = goal.at.put_back-swept_jobs-requires-clause-few g c in
    let few =
    few_there c.edges_are_open.ensures parts c.self.invariant
    (left_of parts c.args.self.now c.self.view_is c.requires.left) _ _ _ _ _ (lent g at.After-deref_mut) _ _
    (swept g at.After-deref) c.args.jobs (length c.args.cuts.now) refl
    (omega (arith, c.in-Ok.ensures.few, ap length c.deref_mut.ensures.value)) in
    omega (arith, few, c.ranges.jobs.fits)

pub invariant_of-self : goal.invariant_of-self
invariant_of-self g c =
    let parts = c.self.inside in
    let at = goal.at.invariant_of-self g c in
    let long = c.sweep_bands.auto.image ∙ ap length c.cells_mut.ensures.values in
    let cells = ap (λ (r : Raster). r.cells) (cells_given_back parts.image c.sweep_bands.new.image long) in
    let back = c.put_back-swept_jobs in
    stored_there c.edges_are_open.ensures parts c.self.invariant
    (left_of parts c.args.self.now c.self.view_is c.requires.left) _ _ _ _ _ (lent g at.After-deref_mut) _ _
    (swept g at.After-deref) (omega (arith, c.self.ranges)) _ back.new.work back.new.bounds c.args.swept.now
    back.new.swept _ back.result cells back.ensures.work back.ensures.bounds back.ensures.swept back.ensures.jobs refl

pub returns-clause-swept : goal.returns-clause-swept
returns-clause-swept g c =
    let parts = c.self.inside in
    let at = goal.at.returns-clause-swept g c in
    let long = c.sweep_bands.auto.image ∙ ap length c.cells_mut.ensures.values in
    let cells = ap (λ (r : Raster). r.cells) (cells_given_back parts.image c.sweep_bands.new.image long) in
    let back = c.put_back-swept_jobs in
    into_there c.edges_are_open.ensures parts c.self.invariant
    (left_of parts c.args.self.now c.self.view_is c.requires.left) _ _ _ _ _ (lent g at.After-deref_mut) _ _
    (swept g at.After-deref) (omega (arith, c.self.ranges)) _ back.new.work back.new.bounds c.args.swept.now
    back.new.swept _ back.result cells back.ensures.work back.ensures.bounds back.ensures.swept back.ensures.jobs refl
    c.args.self.now c.self.view_is

pub returns-clause-at_most : goal.returns-clause-at_most
returns-clause-at_most g c =
    let parts = c.self.inside in
    let at = goal.at.returns-clause-at_most g c in
    let few =
    few_there c.edges_are_open.ensures parts c.self.invariant
    (left_of parts c.args.self.now c.self.view_is c.requires.left) _ _ _ _ _ (lent g at.After-deref_mut) _ _
    (swept g at.After-deref) c.args.jobs (length c.args.cuts.now) refl
    (omega (arith, c.in-Ok.ensures.few, ap length c.deref_mut.ensures.value)) in
    omega (arith, few, c.put_back-swept_jobs.ensures.jobs)
