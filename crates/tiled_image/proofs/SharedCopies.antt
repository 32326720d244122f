-- Copies of an image that were given out are still such copies where tiles change, and where one copy more is made.
use Rattle.std.proofs.Common.{◌≡◌, ℕ, Bool, false, List, Option, Some, length, replicate, ap, sym, subst}
use Rattle.std.proofs.Common.{◌∙◌, inl, inr, refl, IfSome}
use Rattle.std.proofs.lemmas.List.{length-replicate}
use Rattle.grid_core.specs.{declared.pixel.Pixel.Pixel, Raster.Raster, Raster.IsInside, Raster.value_at}
use Rattle.grid_core.specs.Tiles.{Tiles, count_of, tile_of}
use Rattle.tile_work.specs.TileSet.{Has}
use Rattle.tiled_image.specs.TiledImage.{IsOfTiling}
use Rattle.tiled_image.specs.SharedCopies.{AreCopies, Copies, HasEither, HaveChanged, IsCopyBut, IsKeptLast}
use Rattle.tiled_image.specs.SharedCopies.{IsOldestTaken, no_copies}
use Rattle.tiled_image.proofs.KeptImages.{none_is_no_part, same_part}

-- ---- one copy

-- what differs in some tiles differs in more of them
more_but : (P Q : ℕ → Type 0) (tiling : Tiles) (whole copy : Raster) → ((t : ℕ) → P t → Q t)
    → IsCopyBut P tiling whole copy → IsCopyBut Q tiling whole copy
more_but P Q tiling whole copy wider but = record {
  of_tiling = but.of_tiling;
  values = λ p inside other. but.values p inside (λ held. other (wider (tile_of tiling p) held));
}

-- the image becomes another one, which differs in some tiles too
changed_but : (P Q R : ℕ → Type 0) (tiling : Tiles) (whole new copy : Raster) → ((t : ℕ) → P t → R t)
    → ((t : ℕ) → Q t → R t)
    → ((p : Pixel) → IsInside tiling.width tiling.height p → (Q (tile_of tiling p) → ⊥)
    → value_at new p ≡ value_at whole p)
    → IsCopyBut P tiling whole copy → IsCopyBut R tiling new copy
changed_but P Q R tiling whole new copy first second same but = record {
  of_tiling = but.of_tiling;
  values = λ p inside other.
      but.values p inside (λ held. other (first (tile_of tiling p) held))
      ∙ sym (same p inside (λ held. other (second (tile_of tiling p) held)));
}

-- the image itself
whole_but : (P : ℕ → Type 0) (tiling : Tiles) (whole : Raster) → IsOfTiling tiling whole
    → IsCopyBut P tiling whole whole
whole_but P tiling whole of_tiling = record { of_tiling = of_tiling; values = λ p inside other. refl }

-- ---- all of them

pub no_copies_are : (tiling : Tiles) (whole : Raster) (count : ℕ) (copies : Copies) → count ≡ count_of tiling
    → copies ≡ no_copies count → AreCopies tiling whole copies
no_copies_are tiling whole count copies count_is copies_are =
    let long : length (replicate count false) ≡ count_of tiling = length-replicate count false ∙ count_is in
    subst (AreCopies tiling whole) (sym copies_are) (record {
      count = long;
      older_count = long;
      oldest_count = long;
      last = λ copy there. absurd (none_is_no_part copy there);
      older = λ copy there. absurd (none_is_no_part copy there);
      oldest = λ copy there. absurd (none_is_no_part copy there);
    })

module _ {tiling : Tiles} {whole : Raster} {old : Copies} (copies : AreCopies tiling whole old) (new : Copies) where
  -- tiles changed, and the image changed in no other ones
  module _ (P : ℕ → Type 0) (change : HaveChanged P old new) (new_whole : Raster)
      (same : (p : Pixel) → IsInside tiling.width tiling.height p → (P (tile_of tiling p) → ⊥)
      → value_at new_whole p ≡ value_at whole p) where
    had : (t : ℕ) → Has old.changed t → Has new.changed t
    had t has = (change.changed.each t).1 (inl has)

    got : (t : ℕ) → P t → Has new.changed t
    got t holds = (change.changed.each t).1 (inr holds)

    had_either : (set : List Bool) (t : ℕ) → HasEither set old.changed t → HasEither set new.changed t
    had_either set t either = elim either [
      | inl has ↦ inl has
      | inr has ↦ inr (had t has)
    ]

    changed_since : (set : List Bool) (copy : Raster) → IsCopyBut (HasEither set old.changed) tiling whole copy
        → IsCopyBut (HasEither set new.changed) tiling new_whole copy
    changed_since set copy but =
        changed_but (HasEither set old.changed) P (HasEither set new.changed) tiling whole new_whole copy
        (had_either set) (λ t holds. inr (got t holds)) same but

    pub still_copies : AreCopies tiling new_whole new
    still_copies = subst (AreCopies tiling new_whole) (sym change.rest) (record {
      count = change.changed.count ∙ copies.count;
      older_count = copies.older_count;
      oldest_count = copies.oldest_count;
      last = λ copy there.
          changed_but (Has old.changed) P (Has new.changed) tiling whole new_whole copy had got same
          (copies.last copy there);
      older = λ copy there. changed_since old.older_changed copy (copies.older copy there);
      oldest = λ copy there. changed_since old.oldest_changed copy (copies.oldest copy there);
    })

  -- the oldest is taken out
  module _ (oldest : Option Raster) (done : IsOldestTaken old oldest new) where
    pub taken_copies : AreCopies tiling whole new
    taken_copies = subst (AreCopies tiling whole) (sym done.rest) (record {
      count = copies.count;
      older_count = copies.older_count;
      oldest_count = done.changed.count ∙ copies.oldest_count;
      last = copies.last;
      older = copies.older;
      oldest = λ copy there. absurd (none_is_no_part copy there);
    })

    pub stale_count : length new.oldest_changed ≡ count_of tiling
    stale_count = done.changed.count ∙ copies.oldest_count

    -- it is up to date but in the stale tiles
    pub stale_copy : (copy : Raster) → oldest ≡ Some copy → IsCopyBut (Has new.oldest_changed) tiling whole copy
    stale_copy copy is =
        let there : old.oldest ≡ Some copy =
        subst (λ (o : Option Raster). IfSome o (λ c. old.oldest ≡ Some c)) is done.taken in
        more_but (HasEither old.oldest_changed old.changed) (Has new.oldest_changed) tiling whole copy
        (λ t either. (done.changed.each t).1 either) (copies.oldest copy there)

  -- the image is kept as the last copy
  pub kept_copies : IsOfTiling tiling whole → (copy : Raster) → copy ≡ whole → IsKeptLast copy old new
      → AreCopies tiling whole new
  kept_copies of_tiling copy same done = record {
    count = ap length done.changed ∙ length-replicate (length old.oldest_changed) false ∙ copies.oldest_count;
    older_count = ap length done.older_changed ∙ copies.count;
    oldest_count = done.oldest_changed.count ∙ copies.older_count;
    last = λ other there.
        let is : whole ≡ other = sym same ∙ same_part copy other (sym done.last ∙ there) in
        subst (λ (r : Raster). IsCopyBut (Has new.changed) tiling whole r) is
        (whole_but (Has new.changed) tiling whole of_tiling);
    older = λ other there.
        more_but (Has old.changed) (HasEither new.older_changed new.changed) tiling whole other
        (λ t has. inl (subst (λ (set : List Bool). Has set t) (sym done.older_changed) has))
        (copies.last other (sym done.older ∙ there));
    oldest = λ other there.
        more_but (HasEither old.older_changed old.changed) (HasEither new.oldest_changed new.changed) tiling whole other
        (λ t either. inl ((done.oldest_changed.each t).1 either)) (copies.older other (sym done.oldest ∙ there));
  }
