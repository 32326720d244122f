-- A merge, one step after the other: from what each call did follows what the merge did.
use Rattle.std.proofs.Common.{◌≡◌, ℕ, ◌<◌, ◌≤◌, max, false, Bool, List, [], ◌∷◌, length, replicate, refl, sym, ◌∙◌, ap}
use Rattle.std.proofs.Common.{subst, arith, inl, inr, ◌⊎◌, IsTrue, IsErrOf, Err}
use Rattle.std.proofs.lemmas.Bool.{cases_lt, cases_eq}
use Rattle.grid_core.specs.{declared.pixel.Pixel.Pixel, Raster.Raster, Raster.IsInside, Raster.value_at, Path.Inside}
use Rattle.grid_core.specs.{Tiles.Tiles, Tiles.count_of, Tiles.tile_of}
use Rattle.stroke_lattice.specs.State.{State, StateFits, AreCompatible, IsJoin, IsLive, IsLiveTag}
use Rattle.stroke_lattice.specs.Change.{Turnover}
use Rattle.stroke_lattice.proofs.{Joins.one_seed, Joins.join_is_union, Joining.joined}
use Rattle.marker_tiles.specs.{Marker.IsMarker, Marker.IsMarkedAt}
use Rattle.tile_generations.specs.Generations.{max_generation}
use Rattle.core_rules.specs.{declared.error.CoreError.CoreError, declared.error.CoreError.TheVariants.GenerationsSpent}
use Rattle.core_rules.specs.{Image.IsOpen, Invariant.HasHint, Invariant.IsSound}
use Rattle.core_rules.specs.Work.{Core, domain, tiling, mask_at, image_at, IsTile, work_at}
use Rattle.core_rules.specs.Hits.{HoldsOne, LosesStroke, AreLinked, LeadFrom, IsHit, TouchesHit}
use Rattle.core_rules.specs.Merge.{HasRisen, IsReset, IsKept, IsMerged, IsRefused, IsAcceptable}
use Rattle.border_queues.specs.TileWork.{TileWork, work_of}
use Rattle.tile_work.specs.{OpenBounds.IsWithinItsBounds, TileSet.Has, Marks.AreHits}
use Rattle.tile_work.specs.Renewing.{IsTileKept, TouchesMarked, IsUnder, AreMarkedReset, IsRaisedByTags}
use Rattle.reset_core.specs.{Bounding.AreBoundedOrTold, declared.replica.Core.TheInside.Inside as Parts}
use Rattle.reset_core.specs.Replica.{core_of, IsStored}
use Rattle.reset_core.specs.MergeSteps.{IsMarked, HasSpentMark, IsGrown, IsRenewed}
use Rattle.reset_core.proofs.{BoundedOrTold.told_still, Storing.empty_still}
use Rattle.tile_work.proofs.RenewingResets.{reset_stays}
use Rattle.core_rules.proofs.{Cores.tile_of_pixel, Cores.tile_of_pixel_is_tile, Merging.merge_keeps_sound}
use Rattle.core_rules.proofs.{Merging.merge_keeps_told, Resets.one_refusal}

-- ---- tiles that are hit

hit_is_tile : (core : Core) (after : State) (list : List ℕ) (t : ℕ) → IsSound core
    → LeadFrom (HoldsOne (tiling core) (LosesStroke core.state after)) (AreLinked (tiling core) core.image core.conn)
    list t → IsTile core t
hit_is_tile core after [] t sound (p, in_tile, loses) = tile_of_pixel_is_tile core t p sound.shape in_tile
hit_is_tile core after (u ∷ list) t sound (lead, linked) = tile_of_pixel_is_tile core t linked.q sound.shape linked.to

module _ (core : Core) (delta : State) (marks : List Bool) (sound : IsSound core) (marked : IsMarked core delta marks)
  where
    marked_is_tile : (t : ℕ) → Has marks t → IsTile core t
    marked_is_tile t has = omega (arith, has.0, marked.count, sound.shape.tiles)

    is_mark : (t : ℕ) → IsTile core t → t < length marks
    is_mark t is_tile = omega (arith, is_tile, marked.count, sound.shape.tiles)

    pub hit_is_marked : (after : State) → IsJoin core.state delta after → (t : ℕ) → IsHit core after t → Has marks t
    hit_is_marked after join t hit =
        (marked.hits after join t (is_mark t (hit_is_tile core after hit.0 t sound hit.1))).1 hit

    pub marked_is_hit : (after : State) → IsJoin core.state delta after → (t : ℕ) → Has marks t → IsHit core after t
    marked_is_hit after join t has = (marked.hits after join t has.0).0 has

    -- where no marked tile has spent its generations, each has one left
    pub marked_are_unspent : (HasSpentMark core marks → ⊥) → (t : ℕ) → Has marks t
        → (work_at core t).generation < max_generation
    marked_are_unspent none t has = elim (cases_lt (work_at core t).generation max_generation) [
      | inl below ↦ below
      | inr above ↦ absurd (none (t, has, omega (arith, above, sound.shape.generations t (marked_is_tile t has))))
    ]

    -- ---- refusals

    pub spent_is_refused : HasSpentMark core marks → IsRefused core delta GenerationsSpent
    spent_is_refused spent =
        let join = joined core.state delta marked.compatible in (
          marked.fits,
          record {
            joined = join.0;
            join = join.1;
            t = spent.0;
            is_tile = marked_is_tile spent.0 spent.1;
            hit = marked_is_hit join.0 join.1 spent.0 spent.1;
            spent = spent.2;
          },
        )

    pub unspent_is_acceptable : (HasSpentMark core marks → ⊥) → IsAcceptable core delta
    unspent_is_acceptable none = record {
      fits = marked.fits;
      compatible = marked.compatible;
      unspent = λ spent. none (spent.t, hit_is_marked spent.joined spent.join spent.t spent.hit, spent.spent);
    }

-- ---- what is merged

-- a merge that has renewed the strokes and the marker
module _ (before : Core) (delta : State) (turnover : Turnover) (state : State) (marker : Raster)
    (sound : IsSound before) (grown : IsGrown before delta turnover state marker) where
  -- a stroke that makes the marker at a pixel and was not born was there before
  was_marked : (p : Pixel) (level : ℕ) → IsMarkedAt state p level → (IsUnder state turnover.born p → ⊥)
      → (IsMarkedAt before.state p level → ⊥) → ⊥
  was_marked p level is_marked out unmarked =
      let not_before : IsLiveTag before.state is_marked.tag → ⊥ =
      λ (seed, live).
      let same = one_seed seed is_marked.seed
      (sym (grown.join.first.strokes is_marked.tag seed live.0) ∙ is_marked.live.0) in
      unmarked (record {
        tag = is_marked.tag;
        seed = is_marked.seed;
        live = subst (IsLive before.state is_marked.tag) same live;
        covered = is_marked.covered;
        same_level = is_marked.same_level;
      }) in
      out (record {
        tag = is_marked.tag;
        seed = is_marked.seed;
        listed = (grown.change.born is_marked.tag).1 ((is_marked.seed, is_marked.live), not_before);
        has = is_marked.live.0;
        covered = is_marked.covered;
      })

  -- where no stroke was born the new marker is nowhere above the image
  pub marker_below_image : (p : Pixel) → Inside (domain before) p → (IsUnder state turnover.born p → ⊥)
      → value_at marker p ≤ image_at before p
  marker_below_image p inside out =
      let (top, is_top, value) = sound.is_marker p inside in
      let (new_top, is_new_top, new_value) = grown.marker_is before.conn p inside in
      let low : new_top ≤ top = elim is_new_top.attained [
        | inl none ↦ omega (arith, none)
        | inr is_marked ↦ elim (cases_lt top new_top) [
          | inl above ↦ absurd (was_marked p new_top is_marked out
              (λ was. omega (arith, is_top.greatest new_top was, above)))
          | inr at_most ↦ at_most
        ]
      ] in
      omega (arith, low, value, new_value, (sound.supported p inside).0)

-- the core with other strokes, another image and other work
abbrev pub renewed_core : Core → State → Raster → List TileWork → Core
renewed_core before state image work = record before { state = state; image = image; tiles = work }

module _ (before : Core) (delta : State) (turnover : Turnover) (marks : List Bool) (state : State)
    (marker middle new : Raster) (between after : List TileWork) (sound : IsSound before)
    (marked : IsMarked before delta marks) (none_spent : HasSpentMark before marks → ⊥)
    (grown : IsGrown before delta turnover state marker)
    (reset : AreMarkedReset (tiling before) marks marker before.image middle before.tiles between)
    (raised : IsRaisedByTags (tiling before) turnover.born state marker middle new between after) where
  is_new_marker : IsMarker (domain before) (mask_at before) state (value_at marker)
  is_new_marker = grown.marker_is before.conn

  in_middle : (p : Pixel) → Inside (domain before) p → IsInside middle.width middle.height p
  in_middle p inside =
      omega (arith, reset.size.width ∙ sound.shape.image.width, reset.size.height ∙ sound.shape.image.height)

  -- ---- the image

  -- a pixel of a tile that is not reset
  raised_value : (p : Pixel) → Inside (domain before) p → value_at middle p ≡ image_at before p
      → value_at new p ≡ max (image_at before p) (value_at marker p)
  raised_value p inside same = elim (cases_eq (value_at new p) (max (image_at before p) (value_at marker p))) [
    | inl equal ↦ equal
    | inr differ ↦
        let out : IsUnder state turnover.born p → ⊥ =
        λ under. differ (raised.values.under p (in_middle p inside) under ∙ ap (λ v. max v (value_at marker p)) same) in
        let kept = raised.values.beyond p (in_middle p inside) out in
        omega (arith, kept, same, marker_below_image before delta turnover state marker sound grown p inside out)
  ]

  -- a pixel of a tile that is reset
  reset_value : (p : Pixel) → Inside (domain before) p → value_at middle p ≡ value_at marker p
      → value_at new p ≡ value_at marker p
  reset_value p inside same = elim (cases_eq (value_at new p) (value_at marker p)) [
    | inl equal ↦ equal
    | inr differ ↦
        let out : IsUnder state turnover.born p → ⊥ =
        λ under. differ (omega (arith, raised.values.under p (in_middle p inside) under, same)) in
        raised.values.beyond p (in_middle p inside) out ∙ same
  ]

  -- ---- the work at the tiles

  touches_hit : (t : ℕ) → TouchesMarked (tiling before) (Has marks) t → TouchesHit before state t
  touches_hit t touches = record {
    u = touches.u;
    is_tile = marked_is_tile before delta marks sound marked touches.u touches.marked;
    hit = marked_is_hit before delta marks sound marked state grown.join touches.u touches.marked;
    touching = touches.touching;
  }

  touches_marked : (t : ℕ) → TouchesHit before state t → TouchesMarked (tiling before) (Has marks) t
  touches_marked t touches = record {
    u = touches.u;
    marked = hit_is_marked before delta marks sound marked state grown.join touches.u touches.hit;
    touching = touches.touching;
  }

  row_is_tile : (t : ℕ) → IsTile before t → t < length between
  row_is_tile t is_tile = omega (arith, is_tile, reset.count)

  -- a tile that is reset
  tile_reset : (t : ℕ) → IsTile before t
      → IsReset (tiling before) (value_at marker) middle (work_of before.tiles t) (work_of between t) t
      → IsReset (tiling before) (value_at marker) new (work_of before.tiles t) (work_of after t) t
  tile_reset t is_tile is_reset = record {
    work =
        reset_stays (HasRisen (tiling before) t middle new) (work_of before.tiles t) (work_of between t)
        (work_of after t) is_reset.work (raised.dirty t (row_is_tile t is_tile));
    image = λ p in_tile. reset_value p in_tile.inside (is_reset.image p in_tile);
  }

  -- a tile that is kept
  module _ (t : ℕ) (is_tile : IsTile before t)
      (kept : IsTileKept (tiling before) (Has marks) before.image middle (work_of before.tiles t) (work_of between t) t)
    where
      risen : HasRisen (tiling before) t middle new → HasRisen (tiling before) t before.image new
      risen rises =
          let rose = rises.rose in
          record { p = rises.p; in_tile = rises.in_tile; rose = omega (arith, kept.values rises.p rises.in_tile, rose) }

      has_risen : HasRisen (tiling before) t before.image new → HasRisen (tiling before) t middle new
      has_risen rises =
          let rose = rises.rose in
          record { p = rises.p; in_tile = rises.in_tile; rose = omega (arith, kept.values rises.p rises.in_tile, rose) }

      why_dirty : IsTrue (work_of after t).dirty
          → IsTrue (work_at before t).dirty ⊎ HasRisen (tiling before) t before.image new ⊎ TouchesHit before state t
      why_dirty dirty = elim ((raised.dirty t (row_is_tile t is_tile)).dirty.0 dirty) [
        | inl was ↦ elim (kept.work.dirty.0 was) [
          | inl old ↦ inl old
          | inr touches ↦ inr (inr (touches_hit t touches))
        ]
        | inr rises ↦ inr (inl (risen rises))
      ]

      is_dirty : IsTrue (work_at before t).dirty ⊎ HasRisen (tiling before) t before.image new
          ⊎ TouchesHit before state t → IsTrue (work_of after t).dirty
      is_dirty (inl old) = (raised.dirty t (row_is_tile t is_tile)).dirty.1 (inl (kept.work.dirty.1 (inl old)))
      is_dirty (inr (inl rises)) = (raised.dirty t (row_is_tile t is_tile)).dirty.1 (inr (has_risen rises))
      is_dirty (inr (inr touches)) =
          (raised.dirty t (row_is_tile t is_tile)).dirty.1 (inl (kept.work.dirty.1 (inr (touches_marked t touches))))

      tile_kept : IsKept before (value_at marker) (renewed_core before state new after) t
      tile_kept = record {
        work =
            (raised.dirty t (row_is_tile t is_tile)).rest
            ∙ ap (λ (w : TileWork). record w { dirty = (work_of after t).dirty }) kept.work.rest;
        dirty = (why_dirty, is_dirty);
        image = λ p in_tile. raised_value p in_tile.inside (kept.values p in_tile);
      }

  each_tile : (t : ℕ) → IsTile before t → (IsHit before state t
      × IsReset (tiling before) (value_at marker) new (work_of before.tiles t) (work_of after t) t)
      ⊎ ((IsHit before state t → ⊥) × IsKept before (value_at marker) (renewed_core before state new after) t)
  each_tile t is_tile = elim (reset.each t is_tile) [
    | inl (has, is_reset) ↦
        inl (marked_is_hit before delta marks sound marked state grown.join t has, tile_reset t is_tile is_reset)
    | inr (spared, kept) ↦ inr (
      λ hit. spared (hit_is_marked before delta marks sound marked state grown.join t hit),
      tile_kept t is_tile kept,
    )
  ]

  pub steps_merge : IsMerged before delta turnover (renewed_core before state new after)
  steps_merge = record {
    fits = marked.fits;
    unspent = λ t hit. marked_are_unspent before delta marks sound marked none_spent t
        (hit_is_marked before delta marks sound marked state grown.join t hit);
    join = grown.join;
    change = grown.change;
    marker = value_at marker;
    is_marker = is_new_marker;
    each = each_tile;
    size = record {
      width = raised.size.width ∙ reset.size.width;
      height = raised.size.height ∙ reset.size.height;
      filled = raised.size.filled;
    };
    count = raised.count ∙ reset.count;
    rest = refl;
  }

-- a join of strokes that fit has strokes that fit
pub join_fits : (core : Core) (delta state : State) → IsSound core
    → StateFits core.mask.width core.mask.height delta → IsJoin core.state delta state
    → StateFits core.mask.width core.mask.height state
join_fits core delta state sound fits join tag seed has =
    elim ((join_is_union core.state delta state join).strokes tag seed has) [
      | inl old ↦ sound.shape.strokes tag seed old
      | inr given ↦ fits tag seed given
    ]

-- ---- what is stored

module _ (before after : Parts) (delta : State) (turnover : Turnover) (stored : IsStored before)
    (renewed : IsRenewed before delta turnover after) where
  same_core : renewed_core (core_of before) after.state after.image after.work ≡ core_of after
  same_core = λ i. record {
    mask = sym renewed.mask i;
    conn = sym renewed.conn i;
    side = (sym renewed.tiling_is i).side;
    state = after.state;
    image = after.image;
    tiles = after.work;
    serial = sym renewed.serial i;
  }

  abbrev renewed_then : Core
  renewed_then = renewed_core (core_of before) after.state after.image after.work

  merged : IsMerged (core_of before) delta turnover renewed_then
  merged =
      steps_merge (core_of before) delta turnover renewed.marks after.state after.markers.marker renewed.image.middle
      after.image renewed.image.between after.work stored.sound renewed.marked renewed.none_spent renewed.grown
      renewed.image.reset renewed.image.raised

  pub renewed_is_merged : IsMerged (core_of before) delta turnover (core_of after)
  renewed_is_merged = subst (IsMerged (core_of before) delta turnover) same_core merged

  -- each pixel of a tile that is reset is within its bounds, and a hint from another tile is as good as it was
  told_or_reset : (p q : Pixel) → IsOpen (domain (core_of before)) (mask_at (core_of before)) (value_at after.image) p q
      → value_at after.image p ≤ image_at (core_of before) p → HasHint (core_of before) p q
      → IsWithinItsBounds (tiling (core_of before)) after.bounds p ⊎ HasHint renewed_then p q
  told_or_reset p q pair low told =
      let home : ℕ = tile_of (tiling (core_of before)) p in
      elim (merged.each home (tile_of_pixel (core_of before) p stored.sound.shape pair.from_inside)) [
        | inl (hit, reset) ↦
            inl (renewed.bounds.own p pair.from_inside
            (hit_is_marked (core_of before) delta renewed.marks stored.sound renewed.marked after.state
            renewed.grown.join home hit))
        | inr (spared, kept) ↦
            inr (merge_keeps_told (core_of before) renewed_then delta turnover p q stored.sound merged pair.from_inside
            pair.to_inside low spared told)
      ]

  same_count : length after.work ≡ length before.work
  same_count = renewed.image.raised.count ∙ renewed.image.reset.count

  pub renewed_is_stored : IsStored after
  renewed_is_stored = record {
    sound = merge_keeps_sound (core_of before) (core_of after) delta turnover stored.sound renewed_is_merged;
    bounded =
        subst (λ core. AreBoundedOrTold core after.bounds) same_core
        (told_still (core_of before) after.image after.state after.work (core_of before).serial before.bounds
        after.bounds stored.sound.shape.tiled stored.bounded renewed.bounds.follow told_or_reset);
    marks = rw renewed.mask renewed.grown.marker_is;
    masks = rw (renewed.mask, renewed.tiling_is, renewed.masks) stored.masks;
    no_marks =
        renewed.cleared
        ∙ ap (λ n. replicate n false) (renewed.marked.count ∙ sym stored.sound.shape.tiles ∙ sym same_count);
    none_queued = renewed.queue ∙ empty_still before.work after.work before.queue same_count stored.none_queued;
  }

-- ---- what the calls say

pub hits_are_marked : (before : Parts) (core : Core) (tiles : Tiles) (delta : State) (marks : List Bool)
    → core_of before ≡ core → tiles ≡ tiling (core_of before) → StateFits core.mask.width core.mask.height delta
    → AreCompatible core.state delta → length marks ≡ count_of tiles
    → AreHits tiles before.image before.conn before.state delta marks → IsMarked (core_of before) delta marks
hits_are_marked before core tiles delta marks view tiles_are fits compatible count hits = record {
  fits = subst (λ (k : Core). StateFits k.mask.width k.mask.height delta) (sym view) fits;
  compatible = subst (λ (k : Core). AreCompatible k.state delta) (sym view) compatible;
  count = count ∙ ap count_of tiles_are;
  hits = subst (λ ts. AreHits ts before.image before.conn before.state delta marks) tiles_are hits;
}

module _ (tiles known : Tiles) (tiles_are : tiles ≡ known) (marker new_marker : Raster)
    (marker_is : marker ≡ new_marker) where
  pub marked_are_reset : (marks : List Bool) (old new : Raster) (work after : List TileWork)
      → AreMarkedReset tiles marks marker old new work after → AreMarkedReset known marks new_marker old new work after
  marked_are_reset marks old new work after reset = rw (marker_is, tiles_are) at reset

  pub births_are_raised : (turnover : Turnover) (state : State) (old new : Raster) (work after : List TileWork)
      (born : List ℕ) → born ≡ turnover.born → IsRaisedByTags tiles born state marker old new work after
      → IsRaisedByTags known turnover.born state new_marker old new work after
  births_are_raised turnover state old new work after born born_is raised =
      rw (born_is, marker_is, tiles_are) at raised

-- a refusal is the answer to each refusal
pub exactly_this : {T : Type 0} (core : Core) (delta : State) (why : CoreError) → IsRefused core delta why
    → (e : CoreError) → IsRefused core delta e → IsErrOf {T = T} {E = CoreError} (Err why) e
exactly_this core delta why is e refused = ap Err (one_refusal core delta why e is refused)
