-- A tile of a stored core that is swept in place, in whole rows of cells.
use Rattle.std.proofs.Common.{◌≡◌, ℕ, ◌<◌, ◌≤◌, ◌*◌, false, List, length, subst, sym, ap, ◌∙◌, arith, slice_index_or}
use Rattle.std.proofs.lemmas.List.{length-set}
use Rattle.grid_core.specs.{declared.bounds.Bounds.Bounds, declared.pixel.Pixel.Pixel, Path.Inside}
use Rattle.grid_core.specs.{Lending.with_cells, Raster.value_at}
use Rattle.grid_core.specs.Tiles.{Tiles, count_of}
use Rattle.grid_core.proofs.GivenBack.{cells_given_back}
use Rattle.grid_core.proofs.Tilings.{each_pixel_in_one_tile, neighbours_lie_in_touching_tiles}
use Rattle.border_queues.specs.{Laws.EdgesAreOpen}
use Rattle.border_queues.specs.TileWork.{TileWork, idle, work_of}
use Rattle.stroke_lattice.specs.State.{nothing}
use Rattle.core_rules.specs.{Events.Take, Image.IsOfSize, Invariant.IsSound, Runs.IsNext}
use Rattle.core_rules.specs.Sweeps.{sender_of, hints_of}
use Rattle.core_rules.specs.Work.{Core, domain, tiling, image_at}
use Rattle.core_rules.proofs.Cores.{work_there}
use Rattle.reset_core.specs.{declared.replica.Core.TheInside.Inside as Parts, Replica.core_of, Replica.IsStored}
use Rattle.reset_core.specs.{Bounding.AreBounded, InPlace.IsSweptHere, InPlace.core_on, Settling.HasOnlySweeps}
use Rattle.reset_core.specs.{Settling.IsOneWorkedOff}
use Rattle.reset_core.specs.Telling.{ImageAndWork, image_and_work, all_handed, AreTold, IsGrownAt, clean, grown_core}
use Rattle.reset_core.specs.Telling.{both, both_on, image_on}
use Rattle.reset_core.proofs.{BoundedOrTold.bounded_without_hints, BoundedOrTold.told_of_bounded}
use Rattle.reset_core.proofs.{Bounding.swept_bounded, Storing.stored_still, TellingHands.work_elsewhere_stays}
use Rattle.reset_core.proofs.{TellingOrder.told_by}
use Rattle.reset_core.proofs.TellingSweeps.{one_step, rises, worked_parts}

-- the core without what does not count for a sweep
abbrev pub plain : Core → Core
plain core = record core { state = nothing; serial = 0 }

-- that is what its cells and its work make
pub plain_is : (core : Core) → IsOfSize core.mask core.image
    → core_on (tiling core) core.conn core.mask.cells core.image.cells core.tiles ≡ plain core
plain_is core size i = record (plain core) {
  image = record { width = sym size.width i; height = sym size.height i; cells = core.image.cells };
}

-- the cells that are given back are the image
pub swept_here : (parts : Parts) → IsStored parts → (tiles : Tiles) (mask image cells : List ℕ) (work : List TileWork)
    (t : ℕ) (new : List Bounds) → tiles ≡ tiling (core_of parts)
    → core_on tiles parts.conn mask image parts.work ≡ plain (core_of parts)
    → IsSweptHere (core_on tiles parts.conn mask image parts.work) parts.bounds t (both_on tiles cells work) new
    → IsSweptHere (plain (core_of parts)) parts.bounds t (both (with_cells parts.image cells) work) new
swept_here parts stored tiles mask image cells work t new tiling_is lent_is swept =
    let shape = stored.sound.shape.image in
    let here : IsSweptHere (plain (core_of parts)) parts.bounds t (both_on tiles cells work) new =
    subst (λ core. IsSweptHere core parts.bounds t (both_on tiles cells work) new) lent_is swept in
    let size = here.grown.size in
    let long : length cells ≡ length parts.image.cells =
    here.told.over.cells ∙ size.filled ∙ (λ i. size.width i * size.height i) ∙ sym shape.filled in
    let is : image_on tiles cells ≡ with_cells parts.image cells =
    (λ i. record {
      width = (ap (λ (t : Tiles). t.width) tiling_is ∙ sym shape.width) i;
      height = (ap (λ (t : Tiles). t.height) tiling_is ∙ sym shape.height) i;
      cells = cells;
    }) ∙ sym (cells_given_back parts.image cells long) in
    subst (λ r. IsSweptHere (plain (core_of parts)) parts.bounds t (both r work) new) is here

module _ (edges_open : EdgesAreOpen) (parts : Parts) (stored : IsStored parts) (t : ℕ)
    (next : IsNext (core_of parts) (Take t)) (s : ImageAndWork) (new : List Bounds)
    (swept : IsSweptHere (plain (core_of parts)) parts.bounds t s new) where
  abbrev before : Core
  before = core_of parts

  left : HasOnlySweeps before
  left = record { none_out = next.0; no_hints = next.1 }

  within : t < count_of (tiling before)
  within = omega (arith, next.2.0.0, stored.sound.shape.tiles)

  grown : IsGrownAt before t swept.image
  grown = record { size = swept.grown.size; grown = swept.grown.grown; beyond = swept.grown.beyond }

  abbrev middle : Core
  middle = grown_core before t swept.image

  told : AreTold (tiling before) (hints_of before middle t) (image_and_work middle) s
  told = swept.told

  -- the tile is worked off
  pub step : IsOneWorkedOff before t (core_of (worked_parts parts s)) × IsSound (core_of (worked_parts parts s))
  step = one_step edges_open before t stored.sound left next.2.0 swept.image grown s told next.2

  clean_still : (work_of s.rows t).dirty ≡ false
  clean_still =
      let kept : slice_index_or (all_handed (tiling before) told.by_tile (image_and_work middle)).rows t idle
      ≡ slice_index_or middle.tiles t idle =
      work_elsewhere_stays (tiling before) told.by_tile (image_and_work middle) t (λ hint there home.
      let by = told_by edges_open neighbours_lie_in_touching_tiles each_pixel_in_one_tile
      (record (sender_of before t) { image = value_at swept.image }) stored.sound.shape.tiled within hint
      (told.sorted.those hint there) in
      by.touching.other (sym home)) in
      ap (λ (s : ImageAndWork). (slice_index_or s.rows t idle).dirty) (sym told.over.result)
      ∙ ap (λ (work : TileWork). work.dirty) kept
      ∙ ap (λ (work : TileWork). work.dirty) (work_there before t (clean before t) next.2.0.0)

  never_falls : (p : Pixel) → Inside (domain before) p → image_at before p ≤ value_at swept.image p
  never_falls p inside =
      let shape = stored.sound.shape.image in
      rises edges_open before t stored.sound left next.2.0 swept.image grown p
      (omega (arith, inside.0, shape.width), omega (arith, inside.1, shape.height))

  bounded : AreBounded (core_of (worked_parts parts s)) new
  bounded =
      let were = bounded_without_hints before parts.bounds stored.sound left.no_hints stored.bounded in
      swept_bounded before t swept.image s.image s.rows (worked_parts parts s).serial parts.bounds new stored.sound
      step.1 were within grown.beyond never_falls clean_still step.0.none_out step.0.no_hints swept.follow

  -- and the core is stored still
  pub stored_then : IsStored (record (worked_parts parts s) { bounds = new })
  stored_then =
      let after = worked_parts parts s in
      let count : length s.rows ≡ length parts.work =
      told.over.count ∙ length-set parts.work t (clean before t) in
      stored_still parts after.image after.work new after.serial stored count
      (told_of_bounded (core_of after) new bounded) step.1
