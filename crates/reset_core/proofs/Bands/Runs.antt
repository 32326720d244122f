-- Tiles that are swept within a band, one after another, are a run of the whole that the band stands in.
use Rattle.std.proofs.Common.{◌≡◌, ℕ, suc, ◌+◌, ◌<◌, ◌≤◌, sym, ap, ◌∙◌, subst, arith, refl, true, List, []}
use Rattle.std.proofs.Common.{◌∷◌, ◌++◌, map, length, IsTrue, get_or, set, inl, inr, false}
use Rattle.std.proofs.lemmas.Bool.{cases_eq, cases_lt}
use Rattle.std.proofs.lemmas.List.{get_or-set_same, get_or-set_other, length-set}
use Rattle.grid_core.specs.{declared.bounds.Bounds.Bounds, declared.pixel.Pixel.Pixel, Raster.value_at}
use Rattle.grid_core.specs.Raster.{index_of}
use Rattle.border_queues.specs.declared.hint.Hint.{Hint}
use Rattle.grid_core.specs.{Raster.Raster, Tiles.Tiles, Tiles.IsTiled}
use Rattle.border_queues.specs.{Laws.EdgesAreOpen, TileWork.TileWork}
use Rattle.core_rules.specs.{Invariant.IsSound, Sweeps.hints_of}
use Rattle.core_rules.specs.Work.{Core, tiling, IsTile}
use Rattle.core_rules.specs.Runs.{Entry, IsDirty, tiles_taken, abandons_of}
use Rattle.core_rules.specs.Events.{Abandon, OfAbandon}
use Rattle.core_rules.proofs.{Running.run_append, Leaving.taken_append}
use Rattle.reset_core.specs.{Settling.HasOnlySweeps}
use Rattle.reset_core.specs.Telling.{ImageAndWork, image_and_work, AreTold, handed, all_handed}
use Rattle.reset_core.specs.Bands.{IsBandIn, tiles_above, Around, put_in, IsSweptInBand, AreSweptInBand}
use Rattle.reset_core.specs.Bands.{AreSwept, with_band, rows_above, put_bounds}
use Rattle.reset_core.specs.Telling.{with_image_and_work}
use Rattle.reset_core.proofs.TellingHands.{hint_rises, hint_stays}
use Rattle.core_rules.proofs.Counting.{merges_append}
use Rattle.reset_core.specs.Telling.{IsGrownAt, clean, grown_core}
use Rattle.reset_core.specs.Bounding.{AreBounded, FollowChange}
use Rattle.reset_core.proofs.TellingSweeps.{IsOneSwept, one_swept, rises}
use Rattle.reset_core.proofs.{Bounding.swept_bounded, TellingOrder.told_by, Bands.Bounds.follow_put}
use Rattle.reset_core.proofs.TellingHands.{work_elsewhere_stays}
use Rattle.grid_core.proofs.Tilings.{each_pixel_in_one_tile, neighbours_lie_in_touching_tiles}
use Rattle.grid_core.proofs.Cells.{index_of-within}
use Rattle.grid_core.specs.{Bounds.no_bounds, Raster.IsInside, Tiles.count_of}
use Rattle.border_queues.specs.TileWork.{work_of}
use Rattle.core_rules.specs.Sweeps.{sender_of}
use Rattle.core_rules.proofs.Cores.{work_there}
use Rattle.reset_core.proofs.Bands.Tiles.{lowered-within}
use Rattle.reset_core.proofs.Bands.Sweeps.{grown_in, told_in, fits_middle, fits_after, work_is, image_in}

pub abandons_both : (first second : List Entry) → abandons_of (first ++ second) ≡ abandons_of first + abandons_of second
abandons_both [] second = omega arith
abandons_both ((Abandon ticket, OfAbandon true) ∷ first) second = omega (arith, abandons_both first second)
abandons_both (entry ∷ first) second = abandons_both first second

pub swept_on : (a b c : Core) (t : ℕ) (ts : List ℕ) → IsOneSwept a t b → AreSwept b ts c → AreSwept a (t ∷ ts) c
swept_on a b c t ts one more = record {
  log = one.log ++ more.log;
  runs = run_append a b c one.log more.log one.runs more.runs;
  taken =
      taken_append one.log more.log ∙ ap (λ l. l ++ tiles_taken more.log) one.one_taken ∙ ap (λ l. t ∷ l) more.taken;
  none_abandoned = omega (arith, abandons_both one.log more.log, one.none_abandoned, more.none_abandoned);
  none_merged = omega (arith, merges_append one.log more.log, one.none_merged, more.none_merged);
  count = more.count ∙ one.count;
  left = more.left;
  spent = omega (arith, one.less, more.spent);
}

-- ---- one tile

-- a cell that is raised is not lower, and the others stay
raised_cell : (cells : List ℕ) (i n v : ℕ) → n < length cells → get_or cells i 0 ≤ v
    → get_or cells n 0 ≤ get_or (set cells i v) n 0
raised_cell cells i n v within low = elim (cases_eq n i) [
  | inl same ↦ rw (same, get_or-set_same cells i v 0 (omega (arith, within, same))) low
  | inr other ↦ omega (arith, get_or-set_other cells i n v 0 other)
]

one_rises : (tiles : Tiles) (hint : Hint) (s : ImageAndWork) (p : Pixel)
    → index_of s.image.width p < length s.image.cells → value_at s.image p ≤ value_at (handed tiles hint s).image p
one_rises tiles hint s p within = elim (cases_lt (value_at s.image hint.to_pixel) hint.value) [
  | inl above ↦
      rw (hint_rises tiles hint s above) (raised_cell s.image.cells (index_of s.image.width hint.to_pixel)
      (index_of s.image.width p) hint.value within (omega (arith, above)))
  | inr enough ↦ rw (hint_stays tiles hint s enough) (omega arith)
]

-- a hint that is handed over leaves the sizes
one_sized : (tiles : Tiles) (hint : Hint) (s : ImageAndWork)
    → ((handed tiles hint s).image.width ≡ s.image.width)
    × (length (handed tiles hint s).image.cells ≡ length s.image.cells)
one_sized tiles hint s = elim (cases_lt (value_at s.image hint.to_pixel) hint.value) [
  | inl above ↦
      rw (hint_rises tiles hint s above)
      (refl, length-set s.image.cells (index_of s.image.width hint.to_pixel) hint.value)
  | inr enough ↦ rw (hint_stays tiles hint s enough) (refl, refl)
]

hands_rise : (tiles : Tiles) (hints : List Hint) (s : ImageAndWork) (p : Pixel)
    → index_of s.image.width p < length s.image.cells → value_at s.image p ≤ value_at (all_handed tiles hints s).image p
hands_rise tiles [] s p within = omega arith
hands_rise tiles (hint ∷ rest) s p within =
    let sized = one_sized tiles hint s in
    let still : index_of (handed tiles hint s).image.width p < length (handed tiles hint s).image.cells =
    subst (λ w. index_of w p < length (handed tiles hint s).image.cells) (sym sized.0)
    (omega (arith, within, sized.1)) in
    omega (arith, one_rises tiles hint s p within, hands_rise tiles rest (handed tiles hint s) p still)

-- a tile that is swept is clean once its hints are handed over
clean_after : EdgesAreOpen → (core : Core) (t : ℕ) → IsSound core → IsTile core t → (image : Raster)
    → (s : ImageAndWork) → AreTold (tiling core) (hints_of core (grown_core core t image) t)
    (image_and_work (grown_core core t image)) s
    → (work_of s.rows t).dirty ≡ false
clean_after edges_open core t sound is_tile image s told =
    let within : t < count_of (tiling core) = omega (arith, is_tile, sound.shape.tiles) in
    let middle = grown_core core t image in
    let kept : work_of (all_handed (tiling core) told.by_tile (image_and_work middle)).rows t ≡ work_of middle.tiles t =
    work_elsewhere_stays (tiling core) told.by_tile (image_and_work middle) t (λ hint there home.
    let by = told_by edges_open neighbours_lie_in_touching_tiles each_pixel_in_one_tile
    (record (sender_of core t) { image = value_at image }) sound.shape.tiled within hint
    (told.sorted.those hint there) in
    by.touching.other (sym home)) in
    ap (λ (x : ImageAndWork). (work_of x.rows t).dirty) (sym told.over.result)
    ∙ ap (λ (work : TileWork). work.dirty) kept
    ∙ ap (λ (work : TileWork). work.dirty) (work_there core t (clean core t) is_tile)

-- what a band leaves in the whole: a run, a sound core, and bounds outside which nothing open begins
pub record IsBandDone (whole : Core) (ts : List ℕ) (after : Core) (table : List Bounds) : Type 0 where
  pub swept : AreSwept whole ts after
  pub sound : IsSound after
  pub bounded : AreBounded after table

module _ (edges_open : EdgesAreOpen) (above : ℕ) (around : Around) (table_above table_below : List Bounds) where
  -- the bounds of a band, put between those of the tiles above and below
  abbrev wide : Core → List Bounds → List Bounds
  wide whole table = put_bounds (rows_above (tiling whole) above) table_above table_below table

  module _ (whole band : Core) (band_tiled : IsTiled (tiling band)) (sound : IsSound whole)
      (left : HasOnlySweeps whole) (is : IsBandIn whole above band around) (table middle : List Bounds)
      (count_above : length table_above ≡ tiles_above (tiling whole) above)
      (count : length table ≡ count_of (tiling band)) (bounded : AreBounded whole (wide whole table)) (t : ℕ)
      (next : Core) (step : IsSweptInBand (tiling whole) above band table t next middle) where
    abbrev there : ℕ
    there = tiles_above (tiling whole) above + t

    pub tiled : IsTiled (tiling whole)
    tiled = sound.shape.tiled

    abbrev pub image : Raster
    image = image_in edges_open whole above band around tiled band_tiled is sound.shape.image.filled t step.inner
        step.image
        step.grown

    grown : IsGrownAt whole there image
    grown = grown_in edges_open whole above band around tiled band_tiled is sound.shape.image.filled t step.inner
        step.image
        step.grown

    told : AreTold (tiling whole) (hints_of whole (grown_core whole there image) there)
        (image_and_work (grown_core whole there image)) (put_in around step.left)
    told = told_in edges_open whole above band around tiled band_tiled is sound.shape.image.filled t step.inner
        step.image
        step.grown step.left step.told

    within : there < count_of (tiling whole)
    within = lowered-within (tiling whole) above (tiling band) tiled band_tiled is.tiles t step.inner.within

    dirty : IsDirty whole there
    dirty = (
      omega (arith, within, sound.shape.tiles),
      subst (λ (w : TileWork). IsTrue w.dirty) (sym (work_is edges_open whole above band around tiled band_tiled is
          sound.shape.image.filled t step.inner step.image step.grown)) step.dirty.1,
    )

    abbrev pub final : Core
    final = with_image_and_work (grown_core whole there image) (put_in around step.left)

    pub one : IsOneSwept whole there final × IsSound final
    one = one_swept edges_open whole there sound left dirty image grown (put_in around step.left) told

    pub next_is : IsBandIn final above (with_image_and_work band step.left) around
    next_is = record {
      tiles = is.tiles;
      conn = is.conn;
      mask = is.mask;
      parts = refl;
      fits =
          fits_after edges_open whole above band around tiled band_tiled is sound.shape.image.filled t step.inner
          step.image
          step.grown step.left step.told;
    }

    rises_in_band : (p : Pixel) → IsInside band.mask.width band.mask.height p
        → value_at step.image p ≤ value_at step.left.image p
    rises_in_band p inside =
        let s = image_and_work (grown_core band t step.image) in
        let fits = fits_middle edges_open whole above band around tiled band_tiled is sound.shape.image.filled t
        step.inner
        step.image step.grown in
        let place = index_of-within step.image p fits.filled
        (omega (arith, inside.0, fits.band_width), omega (arith, inside.1, fits.band_height)) in
        subst (λ (x : ImageAndWork). value_at step.image p ≤ value_at x.image p) step.told.over.result
        (hands_rise (tiling band) step.told.by_tile s p place)

    follow : FollowChange (tiling whole) whole.conn image (put_in around step.left).image
        (set (wide whole table) there no_bounds) (wide whole middle)
    follow =
        follow_put (tiling whole) above (tiling band) tiled band_tiled is.tiles around table_above table_below
        count_above
        table middle t count step.inner.within step.follow.widened whole.conn
        (image_and_work (grown_core band t step.image)) step.left (fits_middle edges_open whole above band around tiled
        band_tiled is sound.shape.image.filled t step.inner step.image step.grown) next_is.fits rises_in_band
        (subst (λ conn. FollowChange (tiling band) conn step.image step.left.image (set table t no_bounds) middle)
        is.conn
        step.follow)

    pub bounded_then : AreBounded final (wide whole middle)
    bounded_then =
        let shape = sound.shape.image in
        swept_bounded whole there image (put_in around step.left).image (put_in around step.left).rows final.serial
        (wide whole table) (wide whole middle) sound one.1 bounded within grown.beyond (λ p inside.
        rises edges_open whole there sound left dirty image grown p
        (omega (arith, inside.0, shape.width), omega (arith, inside.1, shape.height)))
        (clean_after edges_open whole there sound dirty.0 image (put_in around step.left) told) one.0.left.none_out
        one.0.left.no_hints follow

  -- what is swept in a band is swept in the whole
  pub band_runs : (whole band : Core) → IsTiled (tiling band) → IsSound whole → HasOnlySweeps whole
      → IsBandIn whole above band around → (table : List Bounds)
      → length table_above ≡ tiles_above (tiling whole) above → length table ≡ count_of (tiling band)
      → AreBounded whole (wide whole table) → (ts : List ℕ) (after : Core) (new : List Bounds)
      → AreSweptInBand (tiling whole) above band table ts after new
      → IsBandDone whole (map (λ t. tiles_above (tiling whole) above + t) ts) (with_band whole around after (length ts))
      (wide whole new)
  band_runs whole band band_tiled sound left is table count_above count bounded [] after new (same, kept) =
      let put : whole ≡ with_band whole around band 0 =
      λ i. record whole { image = (is.parts i).image; tiles = (is.parts i).rows } in
      let none : IsBandDone whole [] whole (wide whole table) = record {
        swept = record {
          log = [];
          runs = refl;
          taken = refl;
          none_abandoned = refl;
          none_merged = refl;
          count = refl;
          left = left;
          spent = omega arith;
        };
        sound = sound;
        bounded = bounded;
      } in
      subst (λ b. IsBandDone whole [] (with_band whole around b 0) (wide whole new)) (sym same)
      (subst (λ core. IsBandDone whole [] core (wide whole new)) put
      (subst (λ l. IsBandDone whole [] whole (wide whole l)) (sym kept) none))
  band_runs whole band band_tiled sound left is table count_above count bounded (t ∷ ts) after new
      (next, middle, step, more) =
      let last = final whole band band_tiled sound left is table middle count_above count bounded t next step in
      let one_done = one whole band band_tiled sound left is table middle count_above count bounded t next step in
      let steps : AreSweptInBand (tiling whole) above (with_image_and_work band step.left) middle ts after new =
      subst (λ b. AreSweptInBand (tiling whole) above b middle ts after new) step.result more in
      let count_then : length middle ≡ count_of (tiling band) =
      step.follow.widened.count ∙ length-set table t no_bounds ∙ count in
      let rest =
      band_runs last (with_image_and_work band step.left) band_tiled one_done.1 one_done.0.left
      (next_is whole band band_tiled sound left is table middle count_above count bounded t next step) middle
      count_above
      count_then (bounded_then whole band band_tiled sound left is table middle count_above count bounded t next step)
      ts
      after new steps in
      let others : List ℕ = map (λ u. tiles_above (tiling whole) above + u) ts in
      record {
        swept =
            swept_on whole last (with_band whole around after (suc (length ts)))
            (tiles_above (tiling whole) above + t) others one_done.0 rest.swept;
        sound = rest.sound;
        bounded = rest.bounded;
      }
