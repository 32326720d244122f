-- A core that settles in rows: which tiles may have changed, and what else is as it was.
use Rattle.std.proofs.Common.{◌≡◌, ◌⊎◌, ℕ, Bool, List, Result, Ok, Err, IfOk, OnErr, ap, false, inl, inr}
use Rattle.std.proofs.Common.{length, replicate, subst, sym, ◌∙◌}
use Rattle.std.proofs.Math.ListN.{length-replicate}
use Rattle.grid_core.specs.{declared.memory.Memory.Memory, declared.pixel.Pixel.Pixel}
use Rattle.grid_core.specs.Raster.{Raster, IsInside, IsOfSize, value_at}
use Rattle.grid_core.specs.Tiles.{Tiles, count_of, tile_of}
use Rattle.tile_work.specs.{TileSet.Has, TileSet.HasGained, WorkTable.IsDirtyTile}
use Rattle.core_rules.specs.{Runs.IsDirty, Runs.NoneOut, Shown.ShowsTheSame, Work.Core, Work.tiling}
use Rattle.core_rules.proofs.KeptRuns.{Keeps, run_keeps}
use Rattle.reset_core.specs.Answers.{IsRunCutShort, IsSliceInBands}
use Rattle.reset_core.specs.declared.replica.settling.Slice.{Slice}
use Rattle.reset_core.specs.declared.replica.Core.TheInside.{Inside as Parts}
use Rattle.reset_core.specs.Replica.{IsStored, core_of}
use Rattle.reset_core.proofs.Storing.{same_tiling}
use Rattle.tiled_image.specs.Settling.{HasSettled, HasWorkedOn, IsSettledInBands}

-- a slice that came to its end, or ended for want of memory, worked on the core
pub worked_on : {E : Type 0} (before after : Core) (old new : List Bool) (limit : ℕ) (answer : Result Slice E)
    → IfOk answer (λ slice. IsSliceInBands before old limit slice after new)
    → OnErr answer (IsRunCutShort before old after new) → HasWorkedOn before after
worked_on before after old new limit (Ok slice) done cut = (done.run.log, done.run.run, done.run.none_merged)
worked_on before after old new limit (Err e) done cut = (cut.run.log, cut.run.run, cut.run.none_merged)

-- the tiles of a core that is stored
stored_tiling : (parts : Parts) → IsStored parts → parts.markers.tiling ≡ tiling (core_of parts)
stored_tiling parts stored = same_tiling parts.markers (sym stored.masks.width) (sym stored.masks.height)

pub stored_works : (parts : Parts) → IsStored parts → length parts.work ≡ count_of parts.markers.tiling
stored_works parts stored = stored.sound.shape.tiles ∙ ap count_of (sym (stored_tiling parts stored))

-- it was worked on a core that is stored
module _ (old : Parts) (old_stored : IsStored old) (new : Parts) (new_stored : IsStored new)
    (worked : HasWorkedOn (core_of old) (core_of new)) where
  pub keeps : Keeps (core_of old) (core_of new)
  keeps = run_keeps (core_of old) (core_of new) worked.0 worked.2 worked.1

  -- mask and tiles stay, and so does the size of the image
  same_tiles : tiling (core_of new) ≡ tiling (core_of old)
  same_tiles =
      ap (λ (m : Raster). record { width = m.width; height = m.height; side = new.markers.tiling.side }) keeps.mask
      ∙ ap (λ n. record { width = old.markers.mask.width; height = old.markers.mask.height; side = n }) keeps.side

  pub tiling_stays : new.markers.tiling ≡ old.markers.tiling
  tiling_stays = stored_tiling new new_stored ∙ same_tiles ∙ sym (stored_tiling old old_stored)

  pub size_stays : IsOfSize old.image new.image
  size_stays =
      let was = old_stored.sound.shape.image in
      let is = new_stored.sound.shape.image in
      record {
        width = is.width ∙ ap (λ (m : Raster). m.width) keeps.mask ∙ sym was.width;
        height = is.height ∙ ap (λ (m : Raster). m.height) keeps.mask ∙ sym was.height;
        filled = is.filled;
      }

  pub works_stay : length new.work ≡ count_of old.markers.tiling
  works_stay = stored_works new new_stored ∙ ap count_of tiling_stays

  -- and so do the pixels of the tiles that were neither swept nor are dirty
  pub values_stay : (swept changed : List Bool) → HasGained swept (IsDirtyTile new.work) changed
      → ((t : ℕ) → (Has swept t → ⊥) → (IsDirty (core_of new) t → ⊥) → ShowsTheSame (core_of old) (core_of new) t)
      → (p : Pixel) → IsInside old.markers.tiling.width old.markers.tiling.height p
      → (Has changed (tile_of old.markers.tiling p) → ⊥) → value_at new.image p ≡ value_at old.image p
  values_stay swept changed gained stay p inside spared =
      let t : ℕ = tile_of old.markers.tiling p in
      let tiles_are = stored_tiling old old_stored in
      stay t (λ has. spared ((gained.each t).1 (inl has))) (λ dirty. spared ((gained.each t).1 (inr dirty))) p
      (record {
        inside = subst (λ (ts : Tiles). IsInside ts.width ts.height p) tiles_are inside;
        tile = ap (λ (ts : Tiles). tile_of ts p) (sym tiles_are);
      })

-- ---- a slice

-- a slice of settling began with the one core, whose image this is, and left the other
pub record AreSettled (whole : Raster) (tiling : Tiles) (old new : Parts) (swept : List Bool) (limit : ℕ)
    (answer : Result Slice Memory) : Type 0 where
  pub size : IsOfSize whole new.image
  pub works : length new.work ≡ count_of tiling
  pub swept_count : length swept ≡ count_of tiling
  pub values : (changed : List Bool) → HasGained swept (IsDirtyTile new.work) changed → (p : Pixel)
      → IsInside tiling.width tiling.height p → (Has changed (tile_of tiling p) → ⊥)
      → value_at new.image p ≡ value_at whole p
  pub settled : HasSettled (core_of old) limit answer (core_of new)

module _ (whole : Raster) (tiling : Tiles) (old : Parts) (old_stored : IsStored old)
    (tiles_are : old.markers.tiling ≡ tiling) (image_is : old.image ≡ whole) (new : Parts) (new_stored : IsStored new)
    (none swept : List Bool) (none_is : none ≡ replicate (length old.work) false) (limit : ℕ)
    (answer : Result Slice Memory)
    (done : IfOk answer (λ slice. IsSliceInBands (core_of old) none limit slice (core_of new) swept))
    (cut : OnErr answer (IsRunCutShort (core_of old) none (core_of new) swept)) (none_out : NoneOut (core_of new))
    (stay : (t : ℕ) → (Has swept t → ⊥) → (IsDirty (core_of new) t → ⊥) → ShowsTheSame (core_of old) (core_of new) t)
  where
    slice_is : (r : Result Slice Memory)
        → IfOk r (λ slice. IsSliceInBands (core_of old) none limit slice (core_of new) swept)
        → IfOk r (λ slice. IsSettledInBands (core_of old) limit slice (core_of new))
    slice_is (Ok slice) is = (
      swept,
      subst (λ (set : List Bool). IsSliceInBands (core_of old) set limit slice (core_of new) swept) none_is
          is,
    )
    slice_is (Err e) is = tt

    none_is_out : (r : Result Slice Memory) → IfOk r (λ _. NoneOut (core_of new))
    none_is_out (Ok slice) = none_out
    none_is_out (Err e) = tt

    as_many : (r : Result Slice Memory)
        → IfOk r (λ slice. IsSliceInBands (core_of old) none limit slice (core_of new) swept)
        → OnErr r (IsRunCutShort (core_of old) none (core_of new) swept) → length swept ≡ length none
    as_many (Ok slice) is not = is.run.swept.count
    as_many (Err e) not is = is.run.swept.count

    cut_is : (r : Result Slice Memory) → OnErr r ((core_of new ≡ core_of old) ⊎ NoneOut (core_of new))
    cut_is (Ok slice) = tt
    cut_is (Err e) = inr none_out

    working : HasWorkedOn (core_of old) (core_of new)
    working = worked_on (core_of old) (core_of new) none swept limit answer done cut

    pub are_settled : AreSettled whole tiling old new swept limit answer
    are_settled = record {
      size =
          subst (λ (r : Raster). IsOfSize r new.image) image_is
          (size_stays old old_stored new new_stored working);
      works = works_stay old old_stored new new_stored working ∙ ap count_of tiles_are;
      swept_count =
          as_many answer done cut
          ∙ ap length none_is
          ∙ length-replicate (length old.work) false
          ∙ stored_works old old_stored
          ∙ ap count_of tiles_are;
      values = λ changed gained p inside spared.
          values_stay old old_stored new new_stored working swept changed gained stay p
          (subst (λ (ts : Tiles). IsInside ts.width ts.height p) (sym tiles_are) inside)
          (subst (λ (ts : Tiles). Has changed (tile_of ts p) → ⊥) (sym tiles_are) spared)
          ∙ ap (λ (r : Raster). value_at r p) image_is;
      settled = record {
        slice = slice_is answer done;
        none_out = none_is_out answer;
        cut_short = cut_is answer;
        worked_on = working;
      };
    }
