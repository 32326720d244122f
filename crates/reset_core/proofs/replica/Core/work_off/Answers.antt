-- What the tactics leave open of `work_off`.
use Rattle.std.proofs.Common.{◌≡◌, ℕ, ◌∙◌, List, ap, length, subst, sym}
use Rattle.grid_core.specs.{Lending.with_cells, Raster.IsBelow, Raster.IsFilled, Raster.Raster, Tiles.IsTiled}
use Rattle.grid_core.specs.Tiles.{count_of}
use Rattle.core_rules.specs.{Events.Take, Runs.IsNext}
use Rattle.core_rules.specs.Work.{Core, tiling}
use Rattle.reset_core.specs.{Bounding.AreBounded, InPlace.core_on, Replica.core_of}
use Rattle.reset_core.specs.{Settling.IsOneWorkedOff}
use Rattle.reset_core.specs.Telling.{both}
use Rattle.reset_core.proofs.BoundedOrTold.{bounded_without_hints}
use Rattle.reset_core.proofs.InPlace.{plain, plain_is, step, stored_then, swept_here}
use Rattle.reset_core.proofs.Storing.{image_below_mask}
use Rattle.reset_core.proofs.TellingSweeps.{worked_parts}
use Rattle.reset_core.proofs.replica.Core.work_off.Goals.{After-mask}
use Rattle.reset_core.proofs.replica.Core.work_off.Goals as goal

-- ---- the core before

abbrev before : After-mask → Core
before c = core_of c.self.inside

is_next : (c : After-mask) → IsNext (before c) (Take c.args.tile)
is_next c = subst (λ core. IsNext core (Take c.args.tile)) (sym c.self.view_is) c.requires.next

tiling_is : (c : After-mask) → c.tiling-tiling.result ≡ tiling (before c)
tiling_is c =
    c.tiling-tiling.ensures.value ∙ (λ i. record {
      width = c.tiling-tiling.ensures.width i;
      height = c.tiling-tiling.ensures.height i;
      side = c.self.inside.markers.tiling.side;
    })

-- what is swept is the core, but for its strokes and its serial
lent_is : (c : After-mask) (mask : List ℕ) → mask ≡ c.mask.result.now.cells
    → core_on c.tiling-tiling.result c.self.inside.conn mask c.cells_mut-image.result.now c.self.inside.work
    ≡ plain (before c)
lent_is c mask is =
    let all : mask ≡ c.self.inside.markers.mask.cells = is ∙ ap (λ (r : Raster). r.cells) c.mask.ensures.value in
    (λ i. core_on (tiling_is c i) c.self.inside.conn (all i) (c.cells_mut-image.ensures.values i) c.self.inside.work)
    ∙ plain_is (before c) c.self.invariant.sound.shape.image

pub sweep_one-requires-clause-tile : goal.sweep_one-requires-clause-tile
sweep_one-requires-clause-tile c =
    let at = (goal.at.sweep_one-requires-clause-tile c).After-mask in
    let is = sym (lent_is at c.cells-mask.result.now c.cells-mask.ensures.values) in
    let shape = c.self.invariant.sound.shape in
    record {
      parts = record {
        tiled = subst (λ core. IsTiled (tiling core)) is shape.tiled;
        filled = subst (λ (core : Core). IsFilled core.image) is shape.image.filled;
        count = subst (λ (core : Core). count_of (tiling core) ≡ length core.tiles) is (sym shape.tiles);
      };
      within = (is_next at).2.0.0;
    }

pub sweep_one-requires-clause-mask : goal.sweep_one-requires-clause-mask
sweep_one-requires-clause-mask c =
    let at = (goal.at.sweep_one-requires-clause-mask c).After-mask in
    let is = sym (lent_is at c.cells-mask.result.now c.cells-mask.ensures.values) in
    subst (λ (core : Core). IsFilled core.mask) is c.self.invariant.sound.shape.mask

pub sweep_one-requires-clause-below : goal.sweep_one-requires-clause-below
sweep_one-requires-clause-below c =
    let at = (goal.at.sweep_one-requires-clause-below c).After-mask in
    let is = sym (lent_is at c.cells-mask.result.now c.cells-mask.ensures.values) in
    subst (λ (core : Core). IsBelow core.image core.mask) is
    (image_below_mask (core_of c.self.inside) c.self.invariant.sound)

pub sweep_one-requires-clause-bounded : goal.sweep_one-requires-clause-bounded
sweep_one-requires-clause-bounded c =
    let at = (goal.at.sweep_one-requires-clause-bounded c).After-mask in
    let is = sym (lent_is at c.cells-mask.result.now c.cells-mask.ensures.values) in
    let bounded =
    bounded_without_hints (before at) c.self.inside.bounds c.self.invariant.sound (is_next at).1
    c.self.invariant.bounded in
    subst (λ core. AreBounded core c.self.inside.bounds) is
    (record { count = bounded.count; lie = bounded.lie; begin = bounded.begin })

-- ---- the core afterwards

pub invariant_of-self : goal.invariant_of-self
invariant_of-self c =
    let parts = c.self.inside in
    let at = (goal.at.invariant_of-self c).After-mask in
    let work = c.sweep_one.new.work in
    let image = with_cells parts.image c.sweep_one.new.image in
    let swept =
    swept_here parts c.self.invariant c.tiling-tiling.result c.cells-mask.result.now c.cells_mut-image.result.now
    c.sweep_one.new.image work c.args.tile c.sweep_one.new.bounds (tiling_is at)
    (lent_is at c.cells-mask.result.now c.cells-mask.ensures.values) c.sweep_one.ensures.swept in
    stored_then c.edges_are_open.ensures parts c.self.invariant c.args.tile (is_next at) (both image work)
    c.sweep_one.new.bounds swept

pub returns-clause-worked : goal.returns-clause-worked
returns-clause-worked c =
    let parts = c.self.inside in
    let at = (goal.at.returns-clause-worked c).After-mask in
    let work = c.sweep_one.new.work in
    let reached = both (with_cells parts.image c.sweep_one.new.image) work in
    let swept =
    swept_here parts c.self.invariant c.tiling-tiling.result c.cells-mask.result.now c.cells_mut-image.result.now
    c.sweep_one.new.image work c.args.tile c.sweep_one.new.bounds (tiling_is at)
    (lent_is at c.cells-mask.result.now c.cells-mask.ensures.values) c.sweep_one.ensures.swept in
    let off =
    step c.edges_are_open.ensures parts c.self.invariant c.args.tile (is_next at) reached c.sweep_one.new.bounds swept
    in (
      subst (λ core. IsOneWorkedOff core c.args.tile (core_of (worked_parts parts reached))) c.self.view_is off.0,
      ap tiling c.self.view_is,
    )

pub returns-clause-enough : goal.returns-clause-enough
returns-clause-enough c = c.sweep_one.ensures.enough
