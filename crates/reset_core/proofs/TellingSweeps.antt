-- A tile that is swept in place, with its hints handed over at once: the events that have the same effect.
use Rattle.std.proofs.Common.{◌≡◌, ℕ, ◌+◌, ◌*◌, ◌%◌, ◌^◌, ◌<◌, ◌≤◌, List, [], ◌∷◌, ◌++◌, length, set, refl, sym}
use Rattle.std.proofs.Common.{ap, ◌∙◌, subst, arith, inl, inr, ◌≢◌, Some, Contains, if◌then◌else◌}
use Rattle.std.proofs.{lemmas.Bool.cases_eq, lemmas.List.Sums.sum_by-set}
use Rattle.std.proofs.lemmas.List.{length-set, append-nil}
use Rattle.grid_core.specs.{declared.pixel.Pixel.Pixel, Path.Inside}
use Rattle.grid_core.specs.{Tiles.tile_of, Tiles.count_of}
use Rattle.grid_core.specs.Raster.{Raster, IsInside, IsBelow, value_at, headroom}
use Rattle.grid_core.proofs.{Cells.each_pixel_below, Headroom.headroom_falls}
use Rattle.grid_core.proofs.Tilings.{each_pixel_in_one_tile, tile_pixels, neighbours_lie_in_touching_tiles}
use Rattle.border_queues.specs.{declared.hint.Hint.Hint, Laws.EdgesAreOpen}
use Rattle.border_queues.specs.TileWork.{TileWork, idle, received, dirty_count, IsLeast}
use Rattle.core_rules.specs.{declared.answers.Back.TheVariants.Joined, InPlace.IsSweptInPlace}
use Rattle.core_rules.specs.{Runs.Entry, Runs.IsDirty, Runs.IsNext, Runs.IsRun, Runs.IsWorkedOff, Runs.abandons_of}
use Rattle.core_rules.specs.{Runs.tiles_taken, Counting.merges_of, Invariant.IsSound, Sweeps.IsReady}
use Rattle.core_rules.specs.Work.{Core, domain, tiling, image_at, IsTile, work_at}
use Rattle.core_rules.specs.Sweeps.{sender_of, hints_of, hints_for}
use Rattle.core_rules.specs.Events.{Take, GiveBack, OfTake, OfGiveBack}
use Rattle.reset_core.specs.{declared.replica.Core.TheInside.Inside as Parts, Settling.IsOneWorkedOff}
use Rattle.reset_core.specs.Settling.{HasOnlySweeps}
use Rattle.reset_core.specs.Telling.{ImageAndWork, image_and_work, burden, burden_of, AreByTile, AreTold}
pub use Rattle.reset_core.specs.Telling.{IsGrownAt, clean, grown_core}
use Rattle.core_rules.proofs.Cores.{work_there, work_elsewhere, field_kept}
use Rattle.core_rules.proofs.{Counting.worked_merges, Running.run_append, Running.run_keeps_sound}
use Rattle.core_rules.proofs.{Running.worked_is_run, InPlaceSweeps.in_place_is_run, InPlaceSweeps.risen}
use Rattle.core_rules.proofs.InPlaceSweeps.{in_place_is_worked_off, work_goes_on}
use Rattle.reset_core.proofs.Settling.{none_abandoned}
use Rattle.reset_core.proofs.Telling.{telling, telling_count, telling_work, telling_same, none_for, with_image_and_work}
use Rattle.reset_core.proofs.Telling.{AreToldAt, HandsOver, hands_over}
use Rattle.reset_core.proofs.TellingOrder.{IsToldBy, told_by}

empty_inbox : (hints : List Hint) → (hints ≢ [] → ⊥) → hints ≡ []
empty_inbox [] full = refl
empty_inbox (hint ∷ hints) full = absurd (full (λ same. absurd cc))

-- a dirty tile can be taken where no job is out
dirty_is_ready : (core : Core) (t : ℕ) → HasOnlySweeps core → IsDirty core t → IsReady core t
dirty_is_ready core t left dirty =
    record { is_tile = dirty.0; dirty = dirty.1; none_out = left.none_out t dirty.0 }

module _ (edges_open : EdgesAreOpen) (before : Core) (t : ℕ) (sound : IsSound before) (left : HasOnlySweeps before)
    (dirty : IsDirty before t) (image : Raster) (grown : IsGrownAt before t image) where
  -- the core once the tile is swept, and the hints that it tells
  abbrev middle : Core
  middle = grown_core before t image

  abbrev hints : List Hint
  hints = hints_of before middle t

  is_tile : IsTile before t
  is_tile = dirty.0

  within : t < count_of (tiling before)
  within = omega (arith, is_tile, sound.shape.tiles)

  count : length middle.tiles ≡ length before.tiles
  count = length-set before.tiles t (clean before t)

  told_hint : (hint : Hint) → Contains hints hint
      → IsToldBy (record (sender_of before t) { image = value_at image }) hint
  told_hint =
      told_by edges_open neighbours_lie_in_touching_tiles each_pixel_in_one_tile
      (record (sender_of before t) { image = value_at image }) sound.shape.tiled within

  none_for_itself : hints_for before t hints ≡ []
  none_for_itself =
      none_for (tiling before) hints t (λ hint there same. (told_hint hint there).touching.other (sym same))

  -- ---- the sweep

  own : work_at (telling middle hints) t ≡ clean before t
  own =
      telling_work middle hints t (subst (λ n. t < n) (sym count) is_tile)
      ∙ ap (λ w. received w (hints_for before t hints)) (work_there before t (clean before t) is_tile)
      ∙ ap (received (clean before t)) none_for_itself
      ∙ ap (λ hs. record (clean before t) { inbox = hs }) (append-nil (work_at before t).inbox)

  in_place : IsSweptInPlace before t (telling middle hints)
  in_place = record {
    size = grown.size;
    grown = grown.grown;
    beyond = grown.beyond;
    own = own;
    others = λ u tile other. telling_work middle hints u (subst (λ n. u < n) (sym count) tile)
        ∙ ap (λ w. received w (hints_for before u hints)) (work_elsewhere before t u (clean before t) other);
    count = telling_count middle hints ∙ count;
    rest = refl;
  }

  -- ---- the hints

  module _ (by_tile : List Hint) (sorted : AreByTile (tiling before) hints by_tile) where
    told_at : AreToldAt middle by_tile
    told_at =
        let was : (u : ℕ) → IsTile middle u → IsTile before u = λ u tile. subst (λ n. u < n) count tile in
        record {
          none_out = λ u tile.
              field_kept before t (clean before t) (λ (w : TileWork). w.out) is_tile refl u ∙ left.none_out u (was u
              tile);
          none_wait = λ u tile. field_kept before t (clean before t) (λ (w : TileWork). w.inbox) is_tile refl u
              ∙ empty_inbox (work_at before u).inbox (λ some. left.no_hints u (was u tile, some));
          to_tile = λ hint there.
              let told = (told_hint hint (sorted.those hint there)).is_tile in
              omega (arith, told, sound.shape.tiles, count);
          present = λ hint there.
              let told = told_hint hint (sorted.those hint there) in
              record {
                is_tile = omega (arith, told.from, count, is_tile);
                generation =
                    field_kept before t (clean before t) (λ (w : TileWork). w.generation) is_tile refl hint.from
                    ∙ ap (λ n. (work_at before n).generation) told.from ∙ sym told.generation;
              };
          order = sorted.order;
        }

    same_told : telling middle hints ≡ telling middle by_tile
    same_told =
        telling_same middle hints by_tile (λ u tile.
        sym (sorted.same u (omega (arith, tile, sound.shape.tiles, count))))

  -- ---- how much is left to do

  inside_domain : (p : Pixel) → IsInside before.image.width before.image.height p → Inside (domain before) p
  inside_domain p inside =
      (omega (arith, inside.0, sound.shape.image.width), omega (arith, inside.1, sound.shape.image.height))

  pub rises : (p : Pixel) → IsInside before.image.width before.image.height p → image_at before p ≤ value_at image p
  rises p inside =
      let in_domain = inside_domain p inside in
      elim (cases_eq (tile_of (tiling before) p) t) [
        | inl here ↦
            let (q, inside_q, is) = (tile_pixels (tiling before) t p sound.shape.tiled within).0 (in_domain, here) in
            let ready = dirty_is_ready before t left dirty in
            subst (λ (r : Pixel). image_at before r ≤ value_at image r) is
            (risen before (telling middle hints) t sound ready in_place q inside_q)
        | inr other ↦
            let same = grown.beyond p inside (λ in_rect.
            other (((each_pixel_in_one_tile (tiling before) p sound.shape.tiled in_domain).1 t within).0 in_rect)) in
            omega (arith, same)
      ]

  less_headroom : headroom image.cells ≤ headroom before.image.cells
  less_headroom =
      let size = grown.size in
      let was = sound.shape.image in
      let below : IsBelow before.image image =
      each_pixel_below before.image image
      (was.filled ∙ (λ i. was.width i * was.height i) ∙ (λ i. sym was.width i * sym was.height i)) (sym size.width)
      (sym size.height) rises in
      let same : length image.cells ≡ length before.image.cells =
      size.filled ∙ (λ i. size.width i * size.height i) ∙ sym was.filled in
      headroom_falls before.image.cells image.cells same below.values

  fewer_dirty : dirty_count (set before.tiles t (clean before t)) + 1 ≡ dirty_count before.tiles
  fewer_dirty =
      let count_one : TileWork → ℕ = λ work. if work.dirty then 1 else 0 in
      let one : count_one (work_at before t) ≡ 1 = ap (λ b. if b then 1 else 0) dirty.1 in
      let change : dirty_count (set before.tiles t (clean before t)) + count_one (work_at before t)
      ≡ dirty_count before.tiles + 0 = sum_by-set count_one before.tiles t (clean before t) idle is_tile in
      omega (arith, one, change)

  less_burden : burden_of (image_and_work middle) < burden before
  less_burden = omega (arith, less_headroom, fewer_dirty)

-- the tile is swept: it is taken and given back, its hints are handed over, and less work can be left
pub record IsOneSwept (before : Core) (t : ℕ) (after : Core) : Type 0 where
  pub log : List Entry
  pub runs : IsRun before log after
  pub one_taken : tiles_taken log ≡ t ∷ []
  pub none_abandoned : abandons_of log ≡ 0
  pub none_merged : merges_of log ≡ 0
  pub count : length after.tiles ≡ length before.tiles
  pub left : HasOnlySweeps after
  pub less : burden after < burden before

module _ (edges_open : EdgesAreOpen) (before : Core) (t : ℕ) (sound : IsSound before) (left : HasOnlySweeps before)
    (dirty : IsDirty before t) (image : Raster) (grown : IsGrownAt before t image) (s : ImageAndWork)
    (told : AreTold (tiling before) (hints_of before (grown_core before t image) t)
    (image_and_work (grown_core before t image)) s) where
  -- the core afterwards, and the one whose hints wait
  abbrev final : Core
  final = with_image_and_work (grown_core before t image) s

  abbrev waiting : Core
  waiting = telling (grown_core before t image) (hints_of before (grown_core before t image) t)

  off : HandsOver (telling (grown_core before t image) told.by_tile) final
  off =
      rw told.over.result at (hands_over (grown_core before t image) told.by_tile
      (told_at edges_open before t sound left dirty image grown told.by_tile told.sorted))

  hands : IsWorkedOff waiting off.log final
  hands = rw (same_told edges_open before t sound left dirty image grown told.by_tile told.sorted) off.works

  swept_where : IsSweptInPlace before t waiting
  swept_where = in_place edges_open before t sound left dirty image grown

  less : burden final < burden before
  less =
      let grown_less : burden_of (image_and_work (grown_core before t image)) < burden before =
      less_burden edges_open before t sound left dirty image grown in
      omega (arith, grown_less, told.over.burden)

  count_still : length final.tiles ≡ length before.tiles
  count_still = told.over.count ∙ length-set before.tiles t (clean before t)

  -- any dirty tile may be swept
  pub one_swept : IsOneSwept before t final × IsSound final
  one_swept =
      let ready = dirty_is_ready before t left dirty in
      let (swept, sweeps) = in_place_is_run before waiting t sound ready swept_where in
      let sweep : List Entry = (Take t, OfTake (Some swept.job)) ∷ (GiveBack swept, OfGiveBack Joined) ∷ [] in
      let runs : IsRun before (sweep ++ off.log) final =
      run_append before waiting final sweep off.log sweeps (worked_is_run waiting final off.log hands) in (
        record {
          log = sweep ++ off.log;
          runs = runs;
          one_taken = ap (λ (ts : List ℕ). t ∷ ts) off.none_taken;
          none_abandoned = none_abandoned waiting final off.log hands;
          none_merged = worked_merges waiting final off.log hands;
          count = count_still;
          left = record { none_out = off.none_out; no_hints = λ u waits. waits.1 (off.none_wait u waits.0) };
          less = less;
        },
        run_keeps_sound edges_open before final (sweep ++ off.log) sound runs,
      )

  -- where it is the first one, it is the next
  pub one_step : IsLeast (IsDirty before) t → IsOneWorkedOff before t final × IsSound final
  one_step least =
      let next : IsNext before (Take t) = (left.none_out, left.no_hints, least) in
      let (swept, sweeps) = in_place_is_worked_off before waiting t sound next swept_where in
      let sweep : List Entry = (Take t, OfTake (Some swept.job)) ∷ (GiveBack swept, OfGiveBack Joined) ∷ [] in (
        record {
          log = sweep ++ off.log;
          works = work_goes_on before waiting final sweep off.log sweeps hands;
          one_taken = ap (λ (ts : List ℕ). t ∷ ts) off.none_taken;
          count = count_still;
          none_out = off.none_out;
          no_hints = λ u waits. waits.1 (off.none_wait u waits.0);
          less = less;
        },
        one_swept.1,
      )

-- ---- cores as they are stored

-- the parts with this image and work, and the next serial
abbrev pub worked_parts : Parts → ImageAndWork → Parts
worked_parts parts s = record parts { image = s.image; work = s.rows; serial = (parts.serial + 1) % 2 ^ 64 }
