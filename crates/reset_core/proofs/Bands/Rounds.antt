-- One round: bands were cut out of a core and swept, and are put back.
use Rattle.std.proofs.Common.{◌≡◌, ◌↔◌, ℕ, ◌+◌, ◌-◌, ◌*◌, ◌%◌, ◌^◌, ◌/◌, ◌<◌, ◌≤◌, inl, inr, sym, ap, ◌∙◌, subst}
use Rattle.std.proofs.Common.{arith}
use Rattle.std.proofs.Common.{refl, Bool, true, false, nat_lt, if◌then◌else◌, List, [], ◌∷◌, ◌++◌, length, map}
use Rattle.std.proofs.Common.{get_or, set, take, drop, replicate, Contains, IsTrue}
use Rattle.std.proofs.lemmas.Bool.{cases_eq, cases_lt}
use Rattle.std.proofs.lemmas.Nat.{div-add-mod', mul-le}
use Rattle.std.proofs.lemmas.List.{get_or-set_same, get_or-set_other, set_past, length-append, length-map}
use Rattle.std.proofs.lemmas.List.{length-replicate}
use Rattle.std.proofs.lemmas.List.{get_or-replicate, get_or_append_left, get_or-append_right, get_or-map}
use Rattle.std.proofs.lemmas.List.Elements.{Contains-append_left, Contains-append_right, Contains-append_cases}
use Rattle.std.proofs.lemmas.List.Elements.{Contains-get_or}
use Rattle.grid_core.specs.{declared.bounds.Bounds.Bounds, Bounds.LieIn, Bounds.no_bounds, Raster.value_at}
use Rattle.grid_core.specs.Tiles.{Tiles, IsTiled, tile_of, count_of, rows_of, rect_of}
use Rattle.border_queues.specs.{declared.hint.Hint.Hint, Laws.EdgesAreOpen}
use Rattle.border_queues.specs.TileWork.{TileWork, idle, work_of}
use Rattle.core_rules.specs.{Invariant.IsSound}
use Rattle.core_rules.specs.Work.{Core, tiling}
use Rattle.tile_work.specs.{Cutting.AreOnlyMarked, OpenBounds.bounds_for}
use Rattle.tile_work.specs.TileSet.{Has, HasGained}
use Rattle.tile_work.proofs.Parts.{get_or_part}
use Rattle.reset_core.specs.declared.replica.bands.Band.{Band}
use Rattle.reset_core.specs.{Bounding.AreBounded, Bounding.AreBoundedOrTold, Settling.HasOnlySweeps}
use Rattle.reset_core.specs.Telling.{ImageAndWork, clean, handed, all_handed, risen_by}
use Rattle.reset_core.specs.Bands.{Strip, Top, IsSweptInBand, AreSweptInBand, AreSwept, AreStacked, AreAllSwept}
use Rattle.reset_core.specs.Bands.{AreSomewhere, AreSweptInto, IsTopOf, all_taken, cells_of, works_of, tables_of}
use Rattle.reset_core.specs.Bands.{with_all}
use Rattle.reset_core.specs.Bands.{IsBandOf, later_serial, lowered_bounds, rows_above, tiles_above}
use Rattle.reset_core.specs.BandParts.{IsUntouched, IsBandCut, AreBandsCut, AreBandsSwept, AreReady, IsCounted}
use Rattle.reset_core.specs.BandParts.{cells_in, strip_of, strips_of}
use Rattle.reset_core.specs.PuttingBack.{IsFit, AreFit, CanTake, IsInBand, IsInBands, works_in, bounds_in, jobs_in}
use Rattle.reset_core.specs.Replica.{core_of, IsStored}
use Rattle.reset_core.specs.declared.replica.Core.TheInside.{Inside as Parts}
use Rattle.reset_core.proofs.BoundedOrTold.{bounded_without_hints, told_of_bounded}
use Rattle.reset_core.proofs.Bands.Cuts.{tiles_within}
use Rattle.reset_core.proofs.Bands.Tables.{cut_down, next_first, bounded_cut, bounded_back, ends_within}
use Rattle.reset_core.proofs.Bands.Cells.{AreLeft, top_of, stacked, works_cut, cells_cut, cells_are, all_cells, ready}
use Rattle.reset_core.proofs.Bands.Parts.{AreCounted, all_swept}
use Rattle.reset_core.proofs.Bands.Halves.{each_somewhere}
use Rattle.reset_core.proofs.Bands.Stacks.{IsBandKept, sweeps_keep, stack_runs, serials_add}
use Rattle.reset_core.proofs.Bands.Runs.{IsBandDone}

-- ---- what sweeping keeps of the work at a tile: all but whether it is dirty

abbrev unmarked : TileWork → TileWork
unmarked w = record w { dirty = false }

mark_keeps : (works : List TileWork) (t : ℕ) (mark : Bool) (u : ℕ)
    → unmarked (get_or (set works t (record (get_or works t idle) { dirty = mark })) u idle)
    ≡ unmarked (get_or works u idle)
mark_keeps works t mark u =
    let marked : TileWork = record (get_or works t idle) { dirty = mark } in
    elim (cases_eq u t) [
      | inl same ↦ elim (cases_lt t (length works)) [
        | inl within ↦
            ap (λ n. unmarked (get_or (set works t marked) n idle)) same
            ∙ ap unmarked (get_or-set_same works t marked idle within)
            ∙ ap (λ n. unmarked (get_or works n idle)) (sym same)
        | inr past ↦ ap (λ l. unmarked (get_or l u idle)) (set_past works t marked past)
      ]
      | inr other ↦ ap unmarked (get_or-set_other works t u marked idle other)
    ]

one_of_both : (b : Bool) (x y : ImageAndWork) (w : TileWork) (u : ℕ) → unmarked (work_of x.rows u) ≡ w
    → unmarked (work_of y.rows u) ≡ w → unmarked (work_of (if b then x else y).rows u) ≡ w
one_of_both true x y w u is other = is
one_of_both false x y w u is other = other

hints_keep : (tiles : Tiles) (hints : List Hint) (s : ImageAndWork) (u : ℕ)
    → unmarked (work_of (all_handed tiles hints s).rows u) ≡ unmarked (work_of s.rows u)
hints_keep tiles [] s u = refl
hints_keep tiles (hint ∷ hints) s u =
    hints_keep tiles hints (handed tiles hint s) u
    ∙ one_of_both (nat_lt (value_at s.image hint.to_pixel) hint.value) (risen_by tiles hint s) s
    (unmarked (work_of s.rows u)) u (mark_keeps s.rows (tile_of tiles hint.to_pixel) true u) refl

step_keeps_work : (whole : Tiles) (above : ℕ) (before : Core) (table : List Bounds) (t : ℕ) (after : Core)
    (new : List Bounds) → IsSweptInBand whole above before table t after new → (u : ℕ)
    → unmarked (work_of after.tiles u) ≡ unmarked (work_of before.tiles u)
step_keeps_work whole above before table t after new step u =
    ap (λ (core : Core). unmarked (work_of core.tiles u)) step.result
    ∙ ap (λ (s : ImageAndWork). unmarked (work_of s.rows u)) (sym step.told.over.result)
    ∙ hints_keep (tiling before) step.told.by_tile
    (record { image = step.image; rows = set before.tiles t (clean before t) }) u
    ∙ mark_keeps before.tiles t false u

sweeps_keep_work : (whole : Tiles) (above : ℕ) (before : Core) (table : List Bounds) (ts : List ℕ) (after : Core)
    (new : List Bounds) → AreSweptInBand whole above before table ts after new → (u : ℕ)
    → unmarked (work_of after.tiles u) ≡ unmarked (work_of before.tiles u)
sweeps_keep_work whole above before table [] after new (same, _) u =
    ap (λ (core : Core). unmarked (work_of core.tiles u)) same
sweeps_keep_work whole above before table (t ∷ ts) after new (next, middle, step, more) u =
    sweeps_keep_work whole above next middle ts after new more u
    ∙ step_keeps_work whole above before table t next middle step u

not_true : {b : Bool} → b ≡ false → IsTrue b → ⊥
not_true is holds = let wrong : true ≡ false = sym holds ∙ is in cc

-- ---- where nothing but sweeps is left

-- no hint waits where none is known to
no_hint : (hints : List Hint) → ((hints ≡ [] → ⊥) → ⊥) → hints ≡ []
no_hint [] some = refl
no_hint (hint ∷ hints) some = absurd (some (λ none. omega (arith, ap length none)))

pub only_marked : (core : Core) → HasOnlySweeps core → AreOnlyMarked core.tiles 0 (length core.tiles)
only_marked core left = λ t from within. record {
  none_out = left.none_out t within;
  empty = no_hint (work_of core.tiles t).inbox (λ some. left.no_hints t (within, some));
}

pub untouched : (core : Core) (table : List Bounds) → IsSound core → HasOnlySweeps core → AreBounded core table
    → IsUntouched (tiling core) core.tiles table
untouched core table sound left bounded = record {
  tiled = sound.shape.tiled;
  count = sound.shape.tiles;
  bounds = bounded.count;
  lie = bounded.lie;
  only_marks = only_marked core left;
}

-- ---- the bands fit where they are put back

module _ (whole : Core) (tiled : IsTiled (tiling whole)) (limit : ℕ) (table : List Bounds)
    (bounds : length table ≡ count_of (tiling whole)) (works : length whole.tiles ≡ count_of (tiling whole))
    (marks : AreOnlyMarked whole.tiles 0 (length whole.tiles)) where
  abbrev tiles : Tiles
  tiles = tiling whole

  -- one band that was swept
  fit : (above : ℕ) (mask old other new : List ℕ) (band one : Band) (ts : List ℕ)
      → IsBandCut tiles whole.conn limit whole.tiles table above band → above + rows_of band.tiling ≤ rows_of tiles
      → IsBandKept (strip_of band mask old).core band.bounds (strip_of one other new).core one.bounds
      → ((u : ℕ) → unmarked (work_of one.work u) ≡ unmarked (work_of band.work u)) → IsCounted band ts one
      → ((u : ℕ) → u < length one.bounds
      → LieIn (lowered_bounds (rows_above tiles above) (bounds_for one.bounds u))
      (rect_of tiles (tiles_above tiles above + u)))
      → length band.work ≡ count_of band.tiling → length band.bounds ≡ count_of band.tiling
      → IsFit tiles whole.tiles above one
  fit above mask old other new band one ts cut within kept same counted lie long bounds_long =
      let first = tiles_above tiles above in
      let count : count_of one.tiling ≡ count_of band.tiling = ap count_of counted.tiling in
      let fits : first + count_of band.tiling ≤ count_of tiles =
      tiles_within tiles above (above + rows_of band.tiling) band.tiling tiled within cut.tiling in
      let work_is : (u : ℕ) → u < length one.work
      → unmarked (work_of one.work u) ≡ unmarked (work_of whole.tiles (first + u)) =
      λ u here.
      same u ∙ ap (λ (l : List TileWork). unmarked (work_of l u)) cut.work
      ∙ ap unmarked (get_or_part whole.tiles first (first + count_of band.tiling) (omega arith)
      (omega (arith, fits, works)) u idle (omega (arith, here, kept.works, long))) in
      record {
        tiled = subst IsTiled (sym counted.tiling) cut.tiling.tiled;
        is_band = subst (IsBandOf tiles above) (sym counted.tiling) cut.tiling.is_band;
        within = omega (arith, within, ap rows_of counted.tiling);
        count = kept.works ∙ long ∙ sym count;
        bounds = kept.table ∙ bounds_long ∙ sym count;
        set = counted.gained.count ∙ ap length cut.swept ∙ length-replicate (count_of band.tiling) false ∙ sym count;
        only_marks = λ u from here.
            let there =
            marks (first + u) (omega arith) (omega (arith, fits, works, here, kept.works, long)) in
            record {
              none_out = ap (λ (w : TileWork). w.out) (work_is u here) ∙ there.none_out;
              empty = ap (λ (w : TileWork). w.inbox) (work_is u here) ∙ there.empty;
            };
        generations = λ u here. ap (λ (w : TileWork). w.generation) (work_is u here);
        rows =
            ends_within tiles above first one.bounds tiled
            (omega (arith, fits, kept.table, bounds_long)) lie;
      }

  -- all bands, with the bounds of the tables as those lie in the whole
  pub all_fit : (bands : List Band) (tss : List (List ℕ)) (after : List Band) (above : ℕ) (mask old other new : List ℕ)
      → AreBandsCut tiles whole.conn limit whole.tiles table above bands (rows_of tiles)
      → AreStacked whole above (strips_of mask old bands)
      → AreAllSwept tiles above (strips_of mask old bands) tss (strips_of other new after) → AreCounted bands tss after
      → ((u : ℕ) → u < length (tables_of tiles above (strips_of other new after))
      → LieIn (bounds_for (tables_of tiles above (strips_of other new after)) u)
      (rect_of tiles (tiles_above tiles above + u)))
      → AreFit tiles whole.tiles above after
  all_fit [] [] [] above mask old other new cut stack swept counted lie = cut
  all_fit (band ∷ rest) (ts ∷ tss) (one ∷ others) above mask old other new (cut, more) (stands, ends, stack)
      (swept, swept_below) (counted, counted_below) lie =
      let n = cells_in band in
      let k = cells_in one in
      let next = above + rows_of band.tiling in
      let within = cut_down tiles whole.conn limit whole.tiles table rest next (rows_of tiles) more in
      let kept : IsBandKept (strip_of band (take n mask) (take n old)).core band.bounds
      (strip_of one (take k other) (take k new)).core one.bounds =
      sweeps_keep tiles above (strip_of band (take n mask) (take n old)).core band.bounds ts
      (strip_of one (take k other) (take k new)).core one.bounds stands.filled swept in
      let same =
      sweeps_keep_work tiles above (strip_of band (take n mask) (take n old)).core band.bounds ts
      (strip_of one (take k other) (take k new)).core one.bounds swept in
      let low = lowered_bounds (rows_above tiles above) in
      let tail = tables_of tiles (above + rows_of one.tiling) (strips_of (drop k other) (drop k new) others) in
      let long = length-map one.bounds low in
      let all_long = length-append (map low one.bounds) tail in
      let here : (u : ℕ) → u < length one.bounds
      → LieIn (low (bounds_for one.bounds u)) (rect_of tiles (tiles_above tiles above + u)) =
      λ u inside.
      subst (λ b. LieIn b (rect_of tiles (tiles_above tiles above + u)))
      (get_or_append_left (map low one.bounds) tail no_bounds u (omega (arith, inside, long))
      ∙ get_or-map low one.bounds u no_bounds no_bounds inside)
      (lie u (omega (arith, inside, long, all_long))) in
      let moved : above + rows_of one.tiling ≡ next = ap (λ (t : Tiles). above + rows_of t) counted.tiling in
      let step =
      next_first tiles tiled whole.conn limit whole.tiles table bounds above (rows_of tiles) band within cut in
      let below : (u : ℕ) → u < length tail → LieIn (bounds_for tail u) (rect_of tiles (tiles_above tiles next + u)) =
      λ u inside.
      let v = length one.bounds + u in
      let back : v - length one.bounds ≡ u = omega arith in
      let place : tiles_above tiles above + v ≡ tiles_above tiles next + u =
      omega (arith, step, kept.table, stands.table) in
      subst (λ t. LieIn (bounds_for tail u) (rect_of tiles t)) place
      (subst (λ b. LieIn b (rect_of tiles (tiles_above tiles above + v)))
      (get_or-append_right (map low one.bounds) tail (length one.bounds) v no_bounds long (omega arith)
      ∙ ap (bounds_for tail) back) (lie v (omega (arith, inside, long, all_long)))) in
      let below_moved : (u : ℕ) → u < length (tables_of tiles next (strips_of (drop k other) (drop k new) others))
      → LieIn (bounds_for (tables_of tiles next (strips_of (drop k other) (drop k new) others)) u)
      (rect_of tiles (tiles_above tiles next + u)) =
      subst (λ a. (u : ℕ) → u < length (tables_of tiles a (strips_of (drop k other) (drop k new) others))
      → LieIn (bounds_for (tables_of tiles a (strips_of (drop k other) (drop k new) others)) u)
      (rect_of tiles (tiles_above tiles next + u))) moved below in (
        fit above (take n mask) (take n old) (take k other) (take k new) band one ts cut within kept same counted here
            stands.works stands.table,
        subst (λ a. AreFit tiles whole.tiles a others) (sym moved)
            (all_fit rest tss others next (drop n mask) (drop n old) (drop k other) (drop k new) more stack swept_below
            counted_below below_moved),
      )
  all_fit _ _ _ above mask old other new cut stack swept counted lie = absurd counted

  -- ---- which tiles were swept, and how often

  in_band_or_not : (above : ℕ) (band one : Band) (ts : List ℕ)
      → IsBandCut tiles whole.conn limit whole.tiles table above band → IsCounted band ts one → (t : ℕ)
      → IsInBand tiles above one t ↔ Contains (map (λ u. tiles_above tiles above + u) ts) t
  in_band_or_not above band one ts cut counted t =
      let down : ℕ → ℕ = λ u. tiles_above tiles above + u in (
        λ (u, is, has). elim ((counted.gained.each u).0 has) [
          | inl before ↦
              let none : Has (replicate (count_of band.tiling) false) u =
              subst (λ (gains : List Bool). Has gains u) cut.swept before in
              let few : u < count_of band.tiling =
              omega (arith, none.0, length-replicate (count_of band.tiling) false) in
              absurd (not_true (get_or-replicate (count_of band.tiling) u false false few) none.1)
          | inr (k, within, there) ↦ (
            k,
            omega (arith, within, length-map ts down),
            get_or-map down ts k u t within ∙ ap down there ∙ sym is,
          )
        ],
        λ (k, within, there).
            let inside : k < length ts = omega (arith, within, length-map ts down) in
            let u = get_or ts k 0 in (
              u,
              sym there ∙ get_or-map down ts k 0 t inside,
              (counted.gained.each u).1 (inr (Contains-get_or ts k 0 inside)),
            ),
      )

  pub taken : (bands : List Band) (tss : List (List ℕ)) (after : List Band) (above below : ℕ) (mask old : List ℕ)
      → AreBandsCut tiles whole.conn limit whole.tiles table above bands below → AreCounted bands tss after → (t : ℕ)
      → IsInBands tiles above after t ↔ Contains (all_taken tiles above (strips_of mask old bands) tss) t
  taken [] [] [] above below mask old cut counted t = (λ none. absurd none, λ there. omega (arith, there.1))
  taken (band ∷ rest) (ts ∷ tss) (one ∷ others) above below mask old (cut, more) (counted, counted_below) t =
      let n = cells_in band in
      let next = above + rows_of band.tiling in
      let moved : above + rows_of one.tiling ≡ next = ap (λ (t : Tiles). above + rows_of t) counted.tiling in
      let here = in_band_or_not above band one ts cut counted t in
      let first = map (λ u. tiles_above tiles above + u) ts in
      let second = all_taken tiles next (strips_of (drop n mask) (drop n old) rest) tss in
      let further : IsInBands tiles (above + rows_of one.tiling) others t ↔ Contains second t =
      subst (λ a. IsInBands tiles a others t ↔ Contains second t) (sym moved)
      (taken rest tss others next below (drop n mask) (drop n old) more counted_below t) in (
        λ either. elim either [
          | inl one_of ↦ Contains-append_left first second t (here.0 one_of)
          | inr other ↦ Contains-append_right first second t (further.0 other)
        ],
        λ there. elim (Contains-append_cases first second t there) [
          | inl one_of ↦ inl (here.1 one_of)
          | inr other ↦ inr (further.1 other)
        ],
      )
  taken _ _ _ above below mask old cut counted t = absurd counted

  pub jobs_taken : (bands : List Band) (tss : List (List ℕ)) (after : List Band) (above below : ℕ) (mask old : List ℕ)
      → AreBandsCut tiles whole.conn limit whole.tiles table above bands below → AreCounted bands tss after
      → jobs_in after ≡ length (all_taken tiles above (strips_of mask old bands) tss)
  jobs_taken [] [] [] above below mask old cut counted = refl
  jobs_taken (band ∷ rest) (ts ∷ tss) (one ∷ others) above below mask old (cut, more) (counted, counted_below) =
      let n = cells_in band in
      let next = above + rows_of band.tiling in
      let down : ℕ → ℕ = λ u. tiles_above tiles above + u in
      omega (
        arith,
        jobs_taken rest tss others next below (drop n mask) (drop n old) more counted_below,
        length-append (map down ts) (all_taken tiles next (strips_of (drop n mask) (drop n old) rest) tss),
        length-map ts down,
        counted.jobs,
        cut.none_yet,
      )
  jobs_taken _ _ _ above below mask old cut counted = absurd counted

  -- no band sweeps more tiles than it may
  pub few_jobs : (bands : List Band) (tss : List (List ℕ)) (after : List Band) (above below : ℕ)
      → AreBandsCut tiles whole.conn limit whole.tiles table above bands below → AreCounted bands tss after
      → jobs_in after ≤ length bands * limit
  few_jobs [] [] [] above below cut counted = omega arith
  few_jobs (band ∷ rest) (ts ∷ tss) (one ∷ others) above below (cut, more) (counted, counted_below) =
      let most = counted.at_most (omega (arith, cut.none_yet)) in
      omega (
        arith,
        few_jobs rest tss others (above + rows_of band.tiling) below more counted_below,
        most,
        cut.limit_is,
      )
  few_jobs _ _ _ above below cut counted = absurd counted

-- ---- the bands after the sweeps

cells_after : (bands : List Band) (tss : List (List ℕ)) (after : List Band) → AreCounted bands tss after
    → all_cells after ≡ all_cells bands
cells_after [] [] [] counted = refl
cells_after (band ∷ rest) (ts ∷ tss) (one ∷ others) (counted, counted_below) =
    omega (
      arith,
      cells_after rest tss others counted_below,
      ap (λ (tiles : Tiles). tiles.width * tiles.height) counted.tiling,
    )
cells_after _ _ _ counted = absurd counted

works_after : (mask image : List ℕ) (bands : List Band) → works_of (strips_of mask image bands) ≡ works_in bands
works_after mask image [] = refl
works_after mask image (band ∷ rest) =
    let n = cells_in band in
    ap (λ l. band.work ++ l) (works_after (drop n mask) (drop n image) rest)

-- ---- the round

-- the core once its image has these cells, and the bands are put back
abbrev pub core_after : Core → List ℕ → List Band → Core
core_after whole new after = record whole {
  image = record whole.image { cells = new };
  tiles = works_in after;
  serial = (whole.serial + jobs_in after) % 2 ^ 64;
}

pub record IsRoundDone (whole : Core) (new : List ℕ) (after : List Band) : Type 0 where
  pub ts : List ℕ
  pub swept : AreSwept whole ts (core_after whole new after)
  pub sound : IsSound (core_after whole new after)
  pub bounded : AreBounded (core_after whole new after) (bounds_in (tiling whole) 0 after)
  pub taken : (t : ℕ) → IsInBands (tiling whole) 0 after t ↔ Contains ts t
  pub jobs : jobs_in after ≡ length ts
  pub fit : AreFit (tiling whole) whole.tiles 0 after

-- nothing stands above
abbrev no_top : Top
no_top = record { cells = []; works = []; table = [] }

is_no_top : (tiles : Tiles) (strips : List Strip) → IsTopOf tiles 0 no_top strips
is_no_top tiles [] = tt
is_no_top tiles (strip ∷ rest) = record { cells = omega arith; works = omega arith; table = omega arith }

module _ (edges_open : EdgesAreOpen) (whole : Core) (sound : IsSound whole) (left : HasOnlySweeps whole) (limit : ℕ)
    (table : List Bounds) (bounded : AreBounded whole table) (bands : List Band)
    (cut : AreBandsCut (tiling whole) whole.conn limit whole.tiles table 0 bands (rows_of (tiling whole))) where
  abbrev strips : List Strip
  strips = strips_of whole.mask.cells whole.image.cells bands

  all_left : AreLeft whole 0 whole.mask.cells whole.image.cells
  all_left =
      let none : top_of (tiling whole) 0 ≡ 0 = omega arith in
      let no_cells : top_of (tiling whole) 0 * whole.mask.width ≡ 0 * whole.mask.width =
      ap (λ n. n * whole.mask.width) none in
      let size = sound.shape.image in
      let image : length whole.image.cells ≡ whole.mask.width * whole.mask.height =
      size.filled ∙ (λ i. size.width i * size.height i) in
      record {
        mask_is = λ k within.
            let same : k ≡ rows_above (tiling whole) 0 * whole.mask.width + k = omega arith in
            ap (λ i. get_or whole.mask.cells i 0) same;
        mask_count = omega (arith, sound.shape.mask, no_cells);
        image_count = omega (arith, image, no_cells);
      }

  stack : AreStacked whole 0 strips
  stack =
      stacked whole sound.shape.tiled limit table bounded.count sound.shape.tiles bands 0 whole.mask.cells
      whole.image.cells cut all_left

  few_cells : length whole.image.cells ≤ all_cells bands
  few_cells =
      cells_cut whole sound.shape.tiled limit table bounded.count sound.shape.tiles bands 0 whole.mask.cells
      whole.image.cells cut all_left

  all_works : whole.tiles ≡ works_of strips
  all_works =
      let none : tiles_above (tiling whole) 0 ≡ 0 = omega arith in
      sym (works_cut whole sound.shape.tiled limit table bounded.count sound.shape.tiles bands 0 whole.mask.cells
      whole.image.cells cut ∙ ap (λ n. drop n whole.tiles) none)

  all_bounded : AreBounded whole (tables_of (tiling whole) 0 strips)
  all_bounded =
      bounded_cut whole whole.conn limit whole.tiles table whole.mask.cells whole.image.cells bands sound.shape.tiled
      bounded cut

  -- what sweeping the bands requires
  pub somewhere : AreSomewhere (tiling whole) 0 strips
  somewhere =
      each_somewhere strips whole 0 no_top edges_open sound left (is_no_top (tiling whole) strips) stack
      (sym (cells_are bands whole.mask.cells whole.image.cells few_cells)) all_works all_bounded

  pub round_done : (new : List ℕ) (after : List Band) → whole.serial < 2 ^ 64
      → AreBandsSwept (tiling whole) 0 whole.mask.cells whole.image.cells bands new after → IsRoundDone whole new after
  round_done new after serial swept =
      let tiles = tiling whole in
      let together = all_swept tiles 0 whole.mask.cells whole.image.cells bands new after swept in
      let tss = together.tss in
      let others = strips_of whole.mask.cells new after in
      let ts = all_taken tiles 0 strips tss in
      let done : IsBandDone whole ts (with_all whole no_top others (length ts)) (tables_of tiles 0 others) =
      stack_runs edges_open strips tss others whole 0 no_top sound left (is_no_top tiles strips) stack
      (sym (cells_are bands whole.mask.cells whole.image.cells few_cells)) all_works all_bounded together.swept in
      let jobs =
      jobs_taken whole sound.shape.tiled limit table bounded.count sound.shape.tiles (only_marked whole left) bands tss
      after 0 (rows_of tiles) whole.mask.cells whole.image.cells cut together.counted in
      let cells : cells_of others ≡ new =
      cells_are after whole.mask.cells new
      (omega (arith, few_cells, together.cells, cells_after bands tss after together.counted)) in
      let serial_then : later_serial whole.serial (length ts) ≡ (whole.serial + jobs_in after) % 2 ^ 64 =
      serials_add whole.serial (length ts) serial ∙ ap (λ n. (whole.serial + n) % 2 ^ 64) (sym jobs) in
      let works = works_after whole.mask.cells new after in
      let final : with_all whole no_top others (length ts) ≡ core_after whole new after =
      λ i. record whole {
        image = record whole.image { cells = cells i };
        tiles = works i;
        serial = serial_then i;
      } in
      let bounded_then : AreBounded (core_after whole new after) (tables_of tiles 0 others) =
      subst (λ core. AreBounded core (tables_of tiles 0 others)) final done.bounded in
      let none : tiles_above tiles 0 ≡ 0 = omega arith in
      record {
        ts = ts;
        swept = subst (AreSwept whole ts) final done.swept;
        sound = subst IsSound final done.sound;
        bounded =
            bounded_back (core_after whole new after) whole.mask.cells new after sound.shape.tiled bounded_then;
        taken =
            taken whole sound.shape.tiled limit table bounded.count sound.shape.tiles (only_marked whole left) bands tss
            after 0 (rows_of tiles) whole.mask.cells whole.image.cells cut together.counted;
        jobs = jobs;
        fit =
            all_fit whole sound.shape.tiled limit table bounded.count sound.shape.tiles (only_marked whole left) bands
            tss after 0 whole.mask.cells whole.image.cells whole.mask.cells new cut stack together.swept
            together.counted
            (λ u within.
            let place : u ≡ tiles_above tiles 0 + u = omega (arith, none) in
            subst (λ t. LieIn (bounds_for (tables_of tiles 0 others) u) (rect_of tiles t)) place
            (bounded_then.lie u within));
      }

  -- no more jobs are taken than each band may take
  pub at_most : (new : List ℕ) (after : List Band)
      → AreBandsSwept (tiling whole) 0 whole.mask.cells whole.image.cells bands new after
      → jobs_in after ≤ length bands * limit
  at_most new after swept =
      let together = all_swept (tiling whole) 0 whole.mask.cells whole.image.cells bands new after swept in
      few_jobs whole sound.shape.tiled limit table bounded.count sound.shape.tiles (only_marked whole left) bands
      together.tss after 0 (rows_of (tiling whole)) cut together.counted

  pub all_ready : AreReady bands
  all_ready =
      ready whole sound.shape.tiled limit table bounded.count sound.shape.tiles bands 0 (rows_of (tiling whole)) cut

-- ---- what is stored then

pub can_take : (core : Core) (table : List Bounds) (gains : List Bool) → IsSound core → HasOnlySweeps core
    → AreBounded core table → length gains ≡ length core.tiles → CanTake (tiling core) 0 core.tiles table gains
can_take core table gains sound left bounded count = record {
  tiled = sound.shape.tiled;
  count = sound.shape.tiles;
  bounds = bounded.count;
  set_count = count ∙ sound.shape.tiles;
  only_marks = λ t from within. only_marked core left t (omega arith) within;
}

-- a set has gained the same tiles, however that is said
gained_as : (old new : List Bool) (P Q : ℕ → Type 0) → ((t : ℕ) → P t ↔ Q t) → HasGained old P new → HasGained old Q new
gained_as old new P Q same gained = record {
  count = gained.count;
  each = λ t. (
    λ has. elim ((gained.each t).0 has) [
      | inl before ↦ inl before
      | inr there ↦ inr ((same t).0 there)
    ],
    λ either. elim either [
      | inl before ↦ (gained.each t).1 (inl before)
      | inr there ↦ (gained.each t).1 (inr ((same t).1 there))
    ],
  );
}

-- the parts of the core after a round
abbrev pub parts_after : Parts → List ℕ → List TileWork → List Bounds → ℕ → Parts
parts_after parts cells work table serial = record parts {
  image = record parts.image { cells = cells };
  work = work;
  bounds = table;
  serial = serial;
}

module _ (parts : Parts) (new : List ℕ) (after : List Band) (done : IsRoundDone (core_of parts) new after)
    (work : List TileWork) (table : List Bounds) (serial : ℕ) (work_is : work ≡ works_in after)
    (table_is : table ≡ bounds_in (tiling (core_of parts)) 0 after)
    (serial_is : serial ≡ (parts.serial + jobs_in after) % 2 ^ 64) where
  core_is : core_after (core_of parts) new after ≡ core_of (parts_after parts new work table serial)
  core_is = λ i. record (core_of parts) {
    image = record parts.image { cells = new };
    tiles = sym work_is i;
    serial = sym serial_is i;
  }

  pub stored_after : IsStored parts → IsStored (parts_after parts new work table serial)
  stored_after stored =
      let count : length parts.work ≡ length work = sym (ap length work_is ∙ done.swept.count) in
      record {
        sound = subst IsSound core_is done.sound;
        bounded =
            subst (AreBoundedOrTold (core_of (parts_after parts new work table serial))) (sym table_is)
            (subst (λ core. AreBoundedOrTold core (bounds_in (tiling (core_of parts)) 0 after)) core_is
            (told_of_bounded (core_after (core_of parts) new after) (bounds_in (tiling (core_of parts)) 0 after)
            done.bounded));
        marks = stored.marks;
        masks = stored.masks;
        no_marks = stored.no_marks ∙ ap (λ n. replicate n false) count;
        none_queued = stored.none_queued ∙ ap (λ n. replicate n false) count;
      }

  pub swept_after : (old now : List Bool) (jobs : ℕ)
      → HasGained old (IsInBands (tiling (core_of parts)) 0 after) now → jobs ≡ jobs_in after
      → AreSweptInto (core_of parts) old (core_of (parts_after parts new work table serial)) now jobs
  swept_after old now jobs gained jobs_are = record {
    ts = done.ts;
    swept = subst (AreSwept (core_of parts) done.ts) core_is done.swept;
    gained = gained_as old now (IsInBands (tiling (core_of parts)) 0 after) (Contains done.ts) done.taken gained;
    jobs_are = jobs_are ∙ done.jobs;
  }

-- ---- the round of a stored core, over what its parts lend

-- so many shares are no more than the whole
shares : (jobs parts bands : ℕ) → bands ≤ parts → bands * (jobs / parts) ≤ jobs
shares jobs parts bands few =
    let most = mul-le bands (jobs / parts) parts (jobs / parts) few (omega arith) in
    omega (arith, most, div-add-mod' jobs parts)

-- what a stored core lends: its tiling, the cells of its mask and of its image, and bands that were cut out of it
pub record IsLent (parts : Parts) (limit : ℕ) (tiles : Tiles) (mask old : List ℕ) (bands : List Band) : Type 0 where
  pub tiles_are : tiles ≡ tiling (core_of parts)
  pub mask_is : mask ≡ parts.markers.mask.cells
  pub old_is : old ≡ parts.image.cells
  pub cut : AreBandsCut tiles parts.conn limit parts.work parts.bounds 0 bands (rows_of tiles)

module _ (edges_open : EdgesAreOpen) (parts : Parts) (stored : IsStored parts) (left : HasOnlySweeps (core_of parts))
  where
    abbrev whole : Core
    whole = core_of parts

    bounded_there : AreBounded whole parts.bounds
    bounded_there = bounded_without_hints whole parts.bounds stored.sound left.no_hints stored.bounded

    pub untouched_there : (tiles : Tiles) → tiles ≡ tiling whole → IsUntouched tiles parts.work parts.bounds
    untouched_there tiles tiles_are =
        subst (λ t. IsUntouched t parts.work parts.bounds) (sym tiles_are)
        (untouched whole parts.bounds stored.sound left bounded_there)

    pub can_take_there : (tiles : Tiles) → tiles ≡ tiling whole → (gains : List Bool)
        → length gains ≡ length parts.work → CanTake tiles 0 parts.work parts.bounds gains
    can_take_there tiles tiles_are gains count =
        subst (λ t. CanTake t 0 parts.work parts.bounds gains) (sym tiles_are)
        (can_take whole parts.bounds gains stored.sound left bounded_there count)

    module _ (limit : ℕ) (tiles : Tiles) (mask old : List ℕ) (bands : List Band)
        (lent : IsLent parts limit tiles mask old bands) where
      cut_there : AreBandsCut (tiling whole) whole.conn limit whole.tiles parts.bounds 0 bands (rows_of (tiling whole))
      cut_there =
          subst (λ t. AreBandsCut t parts.conn limit parts.work parts.bounds 0 bands (rows_of t))
          lent.tiles_are lent.cut

      pub somewhere_there : AreSomewhere tiles 0 (strips_of mask old bands)
      somewhere_there =
          let strips : strips_of parts.markers.mask.cells parts.image.cells bands ≡ strips_of mask old bands =
          λ i. strips_of (sym lent.mask_is i) (sym lent.old_is i) bands in
          subst (AreSomewhere tiles 0) strips
          (subst (λ t. AreSomewhere t 0 (strips_of parts.markers.mask.cells parts.image.cells bands))
          (sym lent.tiles_are)
          (somewhere edges_open whole stored.sound left limit parts.bounds bounded_there bands cut_there))

      pub ready_there : AreReady bands
      ready_there = all_ready edges_open whole stored.sound left limit parts.bounds bounded_there bands cut_there

      module _ (new : List ℕ) (after : List Band) (swept : AreBandsSwept tiles 0 mask old bands new after) where
        swept_there : AreBandsSwept (tiling whole) 0 whole.mask.cells whole.image.cells bands new after
        swept_there =
            subst (λ t. AreBandsSwept t 0 whole.mask.cells whole.image.cells bands new after) lent.tiles_are
            (subst (λ m. AreBandsSwept tiles 0 m whole.image.cells bands new after) lent.mask_is
            (subst (λ o. AreBandsSwept tiles 0 mask o bands new after) lent.old_is swept))

        pub few_there : (jobs cuts : ℕ) → limit ≡ jobs / (cuts + 1) → length bands ≤ cuts + 1 → jobs_in after ≤ jobs
        few_there jobs cuts limit_is few =
            let most =
            at_most edges_open whole stored.sound left limit parts.bounds bounded_there bands cut_there new after
            swept_there in
            let same : length bands * limit ≡ length bands * (jobs / (cuts + 1)) =
            ap (λ n. length bands * n) limit_is in
            omega (arith, most, same, shares jobs (cuts + 1) (length bands) few)

        module _ (serial_fits : parts.serial < 2 ^ 64) where
          done_there : IsRoundDone whole new after
          done_there =
              round_done edges_open whole stored.sound left limit parts.bounds bounded_there bands cut_there new after
              serial_fits swept_there

          pub fit_there : AreFit tiles parts.work 0 after
          fit_there = subst (λ t. AreFit t parts.work 0 after) (sym lent.tiles_are) done_there.fit

          module _ (cells : List ℕ) (work : List TileWork) (table : List Bounds) (gains now : List Bool)
              (serial jobs : ℕ)
              (cells_is : cells ≡ new) (work_is : work ≡ works_in after) (table_is : table ≡ bounds_in tiles 0 after)
              (gained : HasGained gains (IsInBands tiles 0 after) now) (jobs_are : jobs ≡ jobs_in after)
              (serial_is : serial ≡ (parts.serial + jobs) % 2 ^ 64) where
            table_there : table ≡ bounds_in (tiling whole) 0 after
            table_there = table_is ∙ ap (λ t. bounds_in t 0 after) lent.tiles_are

            serial_there : serial ≡ (parts.serial + jobs_in after) % 2 ^ 64
            serial_there = serial_is ∙ ap (λ n. (parts.serial + n) % 2 ^ 64) jobs_are

            gained_there : HasGained gains (IsInBands (tiling whole) 0 after) now
            gained_there = subst (λ t. HasGained gains (IsInBands t 0 after) now) lent.tiles_are gained

            pub stored_there : IsStored (parts_after parts cells work table serial)
            stored_there =
                subst (λ l. IsStored (parts_after parts l work table serial)) (sym cells_is)
                (stored_after parts new after done_there work table serial work_is table_there serial_there stored)

            pub into_there : (before : Core) → whole ≡ before
                → AreSweptInto before gains (core_of (parts_after parts cells work table serial)) now jobs
            into_there before is =
                subst (λ core. AreSweptInto core gains (core_of (parts_after parts cells work table serial))
                now jobs) is
                (subst (λ l. AreSweptInto whole gains (core_of (parts_after parts l work table serial)) now jobs)
                (sym cells_is)
                (swept_after parts new after done_there work table serial work_is table_there serial_there gains
                now jobs
                gained_there jobs_are))
