-- Cores as they are stored: what an event leaves as it is, and what it changes.
use Rattle.std.proofs.Common.{◌≡◌, ℕ, ◌<◌, ◌≤◌, true, false, List, length, replicate, set, refl, sym, ◌∙◌, ap, subst}
use Rattle.std.proofs.Common.{arith, Bool, None, Some, slice_set, slice_index_or, inl, inr}
use Rattle.std.proofs.lemmas.Bool.{cases_lt}
use Rattle.std.proofs.lemmas.List.{get_or-replicate, get_or_past, length-set, length-replicate}
use Rattle.grid_core.specs.{declared.bounds.Bounds.Bounds, Bounds.bounds_at, Bounds.joined, Bounds.no_bounds}
use Rattle.grid_core.specs.Raster.{IsFilled, Raster, IsInside, IsBelow, with_value}
use Rattle.grid_core.specs.Tiles.{Tiles, IsTiled, count_of, tile_of}
use Rattle.tile_work.specs.OpenBounds.{bounds_for}
use Rattle.reset_core.specs.{Bounding.AreBoundedOrTold, declared.replica.Core.TheInside.Inside as Parts}
use Rattle.reset_core.specs.Replica.{core_of, IsEmptySet, IsStored}
use Rattle.reset_core.proofs.{BoundedOrTold.told_alike, BoundedOrTold.told_of_bounded, BoundedOrTold.told_still}
use Rattle.reset_core.proofs.Bounding.{blank_is_black, follow_rise, follow_same, none_bounded}
use Rattle.tile_generations.specs.{CutMasks.AreTileMasks, Generations.max_generation, declared.ticket.Ticket.Ticket}
use Rattle.stroke_lattice.specs.State.{nothing}
use Rattle.core_rules.specs.{Opening.blank, Opening.opened, declared.answers.Handed.Handed}
use Rattle.core_rules.specs.{declared.answers.Handed.TheVariants.Raised, Hits.IsInTile, Hints.hint_at, Hints.IsPresent}
use Rattle.core_rules.specs.{Hints.without_hint, Hints.raised, Hints.IsHanded, Invariant.IsSound, Sweeps.IsAbandoned}
use Rattle.core_rules.specs.Work.{Core, tiling, image_at, IsTile, work_at, with_work}
use Rattle.border_queues.specs.{TileWork.fresh, TileWork.TileWork, declared.hint.Hint.Hint}
use Rattle.core_rules.proofs.{Opening.opened_is_sound, Cores.inside_image, Handing.hint_of_tile, Handing.left}
use Rattle.core_rules.proofs.{Handing.hand_keeps_sound, Handing.hand_keeps_told, Removals.taken_was_there}
use Rattle.core_rules.proofs.Taking.{abandon_keeps_sound, abandon_keeps_told}
use Rattle.grid_core.proofs.Cells.{each_pixel_below}
use Rattle.marker_tiles.specs.Kept.{Kept, IsMarkerOf}

-- the image of a sound core is nowhere above its mask
pub image_below_mask : (core : Core) → IsSound core → IsBelow core.image core.mask
image_below_mask core sound =
    each_pixel_below core.image core.mask sound.shape.image.filled sound.shape.image.width sound.shape.image.height
    (λ p inside. (sound.supported p (omega (arith, sound.shape.image.width, sound.shape.image.height))).1)

-- the tiles of a kept marker are those of its mask
pub same_tiling : (kept : Kept) → kept.tiling.width ≡ kept.mask.width → kept.tiling.height ≡ kept.mask.height
    → kept.tiling ≡ record { width = kept.mask.width; height = kept.mask.height; side = kept.tiling.side }
same_tiling kept width height =
    ap (λ w. record { width = w; height = kept.tiling.height; side = kept.tiling.side }) width
    ∙ ap (λ h. record { width = kept.mask.width; height = h; side = kept.tiling.side }) height

-- a set is empty still where the number of tiles is the same
pub empty_still : (old new : List TileWork) (set : List Bool) → length new ≡ length old → IsEmptySet old set
    → IsEmptySet new set
empty_still old new set count empty = empty ∙ ap (λ n. replicate n false) (sym count)

-- an event that changes image, work, bounds and serial alone leaves a stored core where it leaves a sound one, in which
-- an open pair begins within the bounds or is told
pub stored_still : (old : Parts) (image : Raster) (work : List TileWork) (bounds : List Bounds) (serial : ℕ)
    → IsStored old → length work ≡ length old.work
    → AreBoundedOrTold (core_of (record old { image = image; work = work; bounds = bounds; serial = serial })) bounds
    → IsSound (core_of (record old { image = image; work = work; bounds = bounds; serial = serial }))
    → IsStored (record old { image = image; work = work; bounds = bounds; serial = serial })
stored_still old image work bounds serial stored count bounded sound = record {
  sound = sound;
  bounded = bounded;
  marks = stored.marks;
  masks = stored.masks;
  no_marks = empty_still old.work work old.marks count stored.no_marks;
  none_queued = empty_still old.work work old.queue count stored.none_queued;
}

-- so do other marks, where none of them is set
pub unmarked_is_stored : (parts : Parts) (marks queue : List Bool) → IsStored parts → IsEmptySet parts.work marks
    → IsEmptySet parts.work queue → IsStored (record parts { marks = marks; queue = queue })
unmarked_is_stored parts marks queue stored no_marks none_queued = record {
  sound = stored.sound;
  bounded = stored.bounded;
  marks = stored.marks;
  masks = stored.masks;
  no_marks = no_marks;
  none_queued = none_queued;
}

-- ---- hints

module _ (parts : Parts) (stored : IsStored parts) (t i : ℕ) (hint : Hint)
    (there : hint_at (core_of parts) t i ≡ Some hint) where
  pub is_hint_of_tile : IsTile (core_of parts) t
  is_hint_of_tile = hint_of_tile (core_of parts) t i hint there

  pub goes_to_tile : IsInTile (tiling (core_of parts)) t hint.to_pixel
  goes_to_tile =
      (stored.sound.hints t hint is_hint_of_tile (taken_was_there (work_at (core_of parts) t).inbox i hint there)).to

  pub goes_inside : IsInside parts.image.width parts.image.height hint.to_pixel
  goes_inside = inside_image (core_of parts) hint.to_pixel stored.sound.shape goes_to_tile.inside

  -- the hint leaves its inbox, and nothing else happens
  pub lost_is_stored : (handed : Handed) → IsHanded (core_of parts) t i handed (without_hint (core_of parts) t i)
      → IsStored (record parts { work = (without_hint (core_of parts) t i).tiles })
  lost_is_stored handed happens =
      let before = core_of parts in
      let lost = without_hint before t i in
      stored_still parts parts.image lost.tiles parts.bounds parts.serial stored
      (length-set parts.work t (left before t i))
      (told_still before parts.image parts.state lost.tiles parts.serial parts.bounds parts.bounds
      stored.sound.shape.tiled stored.bounded (follow_same (tiling before) parts.conn parts.image parts.bounds)
      (λ p q pair low told. inr (hand_keeps_told before lost t i handed p q stored.sound happens pair low told)))
      (hand_keeps_sound before lost t i handed stored.sound happens)

  -- the hint leaves its inbox, its pixel is raised, and its tile is dirty
  module _ (present : IsPresent (core_of parts) hint)
      (above : image_at (core_of parts) hint.to_pixel < hint.value) where
    pub raised_happens : IsHanded (core_of parts) t i Raised (raised (without_hint (core_of parts) t i) hint)
    raised_happens = (hint, there, present, above, refl)

    -- the image and the bounds afterwards
    abbrev image : Raster
    image = with_value parts.image hint.to_pixel hint.value

    abbrev bounds : List Bounds
    bounds = set parts.bounds t (joined (bounds_for parts.bounds t) (joined no_bounds (bounds_at hint.to_pixel)))

    pub raised_is_stored : IsStored (record parts {
      image = image;
      work = (raised (without_hint (core_of parts) t i) hint).tiles;
      bounds = bounds;
    })
    raised_is_stored =
        let home = tile_of (tiling (core_of parts)) hint.to_pixel in
        let lost = without_hint (core_of parts) t i in
        let shape = stored.sound.shape in
        stored_still parts image (raised lost hint).tiles bounds parts.serial stored
        (length-set lost.tiles home (record (work_at lost home) { dirty = true })
        ∙ length-set parts.work t (left (core_of parts) t i))
        (told_still (core_of parts) image parts.state (raised lost hint).tiles parts.serial parts.bounds bounds
        shape.tiled stored.bounded
        (follow_rise (tiling (core_of parts)) parts.conn parts.image parts.bounds hint.to_pixel hint.value t shape.tiled
        stored.bounded.count shape.image.filled shape.image.width shape.image.height goes_to_tile.inside
        goes_to_tile.tile above)
        (λ p q pair low told. inr (hand_keeps_told (core_of parts) (raised lost hint) t i Raised p q stored.sound
        raised_happens pair low told)))
        (hand_keeps_sound (core_of parts) (raised lost hint) t i Raised stored.sound raised_happens)

-- ---- the masks of tiles

-- of no tile the mask was cut out
pub none_cut : (mask : Raster) (tiles : Tiles) → mask.width ≡ tiles.width → mask.height ≡ tiles.height
    → AreTileMasks mask tiles (replicate (count_of tiles) None)
none_cut mask tiles width height = record {
  width = width;
  height = height;
  count = length-replicate (count_of tiles) None;
  cut = λ t m there.
      let none : slice_index_or (replicate (count_of tiles) None) t None ≡ None =
      elim (cases_lt t (count_of tiles)) [
        | inl within ↦ get_or-replicate (count_of tiles) t None None within
        | inr past ↦
            get_or_past (replicate (count_of tiles) None) t None
            (subst (λ n. n ≤ t) (sym (length-replicate (count_of tiles) None)) past)
      ] in
      let no : None ≡ Some m = sym none ∙ there in
      absurd cc;
}

-- ---- opening

-- what a core is opened as
pub is_opened : (parts : Parts) (mask : Raster) (side first : ℕ) → parts.markers.mask ≡ mask
    → parts.markers.tiling.side ≡ side → parts.state ≡ nothing → parts.image ≡ blank mask
    → parts.work ≡ replicate (count_of (record { width = mask.width; height = mask.height; side = side })) (fresh first)
    → parts.serial ≡ 0 → core_of parts ≡ opened mask parts.conn side first
is_opened parts mask side first same_mask same_side state image work serial =
    λ i. record {
      mask = same_mask i;
      conn = parts.conn;
      side = same_side i;
      state = state i;
      image = image i;
      tiles = work i;
      serial = serial i;
    }

pub opened_is_stored : (parts : Parts) (mask : Raster) (side first : ℕ) → IsFilled mask
    → IsTiled (record { width = mask.width; height = mask.height; side = side }) → first ≤ max_generation
    → core_of parts ≡ opened mask parts.conn side first → IsMarkerOf parts.markers.mask nothing parts.markers.marker
    → parts.marks ≡ replicate (count_of (record { width = mask.width; height = mask.height; side = side })) false
    → parts.queue ≡ replicate (count_of (record { width = mask.width; height = mask.height; side = side })) false
    → parts.bounds ≡ replicate (count_of (record { width = mask.width; height = mask.height; side = side })) no_bounds
    → parts.masks ≡ replicate (count_of (record { width = mask.width; height = mask.height; side = side })) None
    → parts.markers.mask ≡ mask
    → parts.markers.tiling ≡ record { width = mask.width; height = mask.height; side = side } → IsStored parts
opened_is_stored parts mask side first filled tiled bound is_open marks no_marks none_queued bounds_are masks_are
    same_mask same_tiles =
    let tiling : Tiles = record { width = mask.width; height = mask.height; side = side } in
    let count : length parts.work ≡ count_of tiling =
    ap (λ (core : Core). length core.tiles) is_open ∙ length-replicate (count_of tiling) (fresh first) in
    record {
      sound = subst IsSound (sym is_open) (opened_is_sound mask parts.conn side first filled tiled bound);
      bounded =
          rw (is_open, bounds_are) (told_of_bounded (opened mask parts.conn side first)
          (replicate (count_of tiling) no_bounds) (none_bounded (opened mask parts.conn side first) (count_of tiling)
          tiled refl (λ p inside. blank_is_black mask p filled inside)));
      marks = rw (ap (λ (core : Core). core.state) is_open) marks;
      masks = rw (same_mask, same_tiles, masks_are) (none_cut mask tiling refl refl);
      no_marks = no_marks ∙ ap (λ n. replicate n false) (sym count);
      none_queued = none_queued ∙ ap (λ n. replicate n false) (sym count);
    }

-- ---- jobs

-- the job of a tile is abandoned
pub let_go_is_stored : (parts : Parts) → IsStored parts → (t : ℕ) (ticket : Ticket) (work : TileWork)
    → IsAbandoned (core_of parts) ticket true (with_work (core_of parts) t work)
    → IsStored (record parts { work = slice_set parts.work t work })
let_go_is_stored parts stored t ticket work happens =
    stored_still parts parts.image (slice_set parts.work t work) parts.bounds parts.serial stored
    (length-set parts.work t work)
    (told_alike (core_of parts) (slice_set parts.work t work) parts.serial parts.bounds stored.sound.shape.tiled
    stored.bounded (λ p q told. abandon_keeps_told (core_of parts) (with_work (core_of parts) t work) ticket true p q
    stored.sound happens told))
    (abandon_keeps_sound (core_of parts) (with_work (core_of parts) t work) ticket true stored.sound happens)
