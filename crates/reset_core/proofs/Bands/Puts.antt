-- Bands that are put back, one below another, into the tables that they were cut out of.
use Rattle.std.proofs.Common.{◌≡◌, ◌⊎◌, ℕ, ◌+◌, ◌*◌, ◌≤◌, inl, inr, sym, ap, ◌∙◌, subst, arith, refl, Bool, List}
use Rattle.std.proofs.Common.{[], ◌∷◌, ◌++◌, length, map, take, drop}
use Rattle.std.proofs.lemmas.List.{append_assoc, append-nil, length-append, length-map, length-take-le, take_all}
use Rattle.std.proofs.lemmas.List.{take_at}
use Rattle.grid_core.specs.{declared.bounds.Bounds.Bounds}
use Rattle.grid_core.specs.Tiles.{Tiles, IsTiled, columns_of, count_of, rows_of}
use Rattle.border_queues.specs.TileWork.{TileWork, idle, work_of}
use Rattle.tile_work.specs.{Cutting.in_whole, Cutting.with_part, Cutting.IsOnlyMarked}
use Rattle.tile_work.specs.TileSet.{HasGained}
use Rattle.std.proofs.lemmas.Nat.{mul-le}
use Rattle.tile_work.proofs.Parts.{length_with_part, get_or_beside_part}
use Rattle.reset_core.specs.declared.replica.bands.Band.{Band}
use Rattle.reset_core.specs.Bands.{rows_above, tiles_above}
use Rattle.reset_core.specs.PuttingBack.{IsFit, AreFit, CanTake, IsInBand, IsInBands, works_in, bounds_in, jobs_in}
use Rattle.reset_core.proofs.Bands.Tiles.{columns_same}

-- what one set has gained and then another one
gained_either : (a b c : List Bool) (P Q : ℕ → Type 0) → HasGained a P b → HasGained b Q c
    → HasGained a (λ t. P t ⊎ Q t) c
gained_either a b c P Q one more = record {
  count = more.count ∙ one.count;
  each = λ t. (
    λ has. elim ((more.each t).0 has) [
      | inl before ↦ elim ((one.each t).0 before) [
        | inl old ↦ inl old
        | inr first ↦ inr (inl first)
      ]
      | inr second ↦ inr (inr second)
    ],
    λ either. elim either [
      | inl old ↦ (more.each t).1 (inl ((one.each t).1 (inl old)))
      | inr gain ↦ elim gain [
        | inl first ↦ (more.each t).1 (inl ((one.each t).1 (inr first)))
        | inr second ↦ (more.each t).1 (inr second)
      ]
    ],
  );
}

gained_nothing : (set : List Bool) → HasGained set (λ t. ⊥) set
gained_nothing set = record {
  count = refl;
  each = λ t. (
    λ has. inl has,
    λ either. elim either [
      | inl has ↦ has
      | inr none ↦ absurd none
    ],
  );
}

-- some of the bands have been put back: those that are left begin at this row of tiles
pub record IsPutSoFar (tiles : Tiles) (works : List TileWork) (set : List Bool) (bands left : List Band) (above : ℕ)
    (works_now : List TileWork) (table_now : List Bounds) (set_now : List Bool) (jobs : ℕ) : Type 0 where
  pub fit : AreFit tiles works above left
  pub can_take : CanTake tiles above works_now table_now set_now
  pub works_left : (t : ℕ) → tiles_above tiles above ≤ t → work_of works_now t ≡ work_of works t
  pub works_put : take (tiles_above tiles above) works_now ++ works_in left ≡ works_in bands
  pub table_put : take (tiles_above tiles above) table_now ++ bounds_in tiles above left ≡ bounds_in tiles 0 bands
  pub set_put : (final : List Bool) → HasGained set_now (IsInBands tiles above left) final
      → HasGained set (IsInBands tiles 0 bands) final
  pub jobs_put : jobs + jobs_in left ≡ jobs_in bands

pub none_put : (tiles : Tiles) (works : List TileWork) (table : List Bounds) (set : List Bool) (bands : List Band)
    → AreFit tiles works 0 bands → CanTake tiles 0 works table set
    → IsPutSoFar tiles works set bands bands 0 works table set 0
none_put tiles works table set bands fit can_take =
    let none : tiles_above tiles 0 ≡ 0 = omega arith in
    record {
      fit = fit;
      can_take = can_take;
      works_left = λ t from. refl;
      works_put = ap (λ n. take n works ++ works_in bands) none;
      table_put = ap (λ n. take n table ++ bounds_in tiles 0 bands) none;
      set_put = λ final gained. gained;
      jobs_put = omega arith;
    }

-- where the tiles below a band begin
next_first : (tiles : Tiles) (works : List TileWork) (above : ℕ) (band : Band) → IsTiled tiles
    → IsFit tiles works above band
    → tiles_above tiles (above + rows_of band.tiling) ≡ tiles_above tiles above + count_of band.tiling
next_first tiles works above band tiled fit =
    let columns = columns_same tiles above band.tiling tiled fit.tiled fit.is_band in
    let count : count_of band.tiling ≡ columns_of tiles * rows_of band.tiling =
    ap (λ n. n * rows_of band.tiling) columns in
    omega (arith, count)

-- the band ends within the tables
pub ends_within : (tiles : Tiles) (works : List TileWork) (above : ℕ) (band : Band) → IsTiled tiles
    → IsFit tiles works above band → tiles_above tiles above + count_of band.tiling ≤ count_of tiles
ends_within tiles works above band tiled fit =
    let most : (above + rows_of band.tiling) * columns_of tiles ≤ rows_of tiles * columns_of tiles =
    mul-le (above + rows_of band.tiling) (columns_of tiles) (rows_of tiles) (columns_of tiles) fit.within
    (omega arith) in
    omega (arith, most, next_first tiles works above band tiled fit)

-- the list up to the end of a part that was put in
take_part : {X : Type 0} (whole part : List X) (first : ℕ) → first ≤ length whole
    → take (first + length part) (take first whole ++ (part ++ drop (first + length part) whole))
    ≡ take first whole ++ part
take_part {X} whole part first within =
    let before = take first whole in
    let behind = drop (first + length part) whole in
    let long : length (before ++ part) ≡ first + length part =
    omega (arith, length-append before part, length-take-le first whole within) in
    ap (take (first + length part)) (sym (append_assoc before part behind))
    ∙ take_at (before ++ part) behind (first + length part) long

module _ (tiles : Tiles) (works : List TileWork) (set : List Bool) (bands : List Band) (band : Band) (rest : List Band)
    (above : ℕ) (works_now : List TileWork) (table_now : List Bounds) (set_now : List Bool) (jobs : ℕ)
    (so_far : IsPutSoFar tiles works set bands (band ∷ rest) above works_now table_now set_now jobs) where
  abbrev first : ℕ
  first = tiles_above tiles above

  abbrev raised : List Bounds
  raised = map (in_whole (rows_above tiles above)) band.bounds

  next : tiles_above tiles (above + rows_of band.tiling) ≡ first + count_of band.tiling
  next = next_first tiles works above band so_far.can_take.tiled so_far.fit.0

  within : first + count_of band.tiling ≤ count_of tiles
  within = ends_within tiles works above band so_far.can_take.tiled so_far.fit.0

  fits : first + length band.work ≤ length works_now
  fits = omega (arith, within, so_far.fit.0.count, so_far.can_take.count)

  table_fits : first + length raised ≤ length table_now
  table_fits =
      let long = length-map band.bounds (in_whole (rows_above tiles above)) in
      omega (arith, within, so_far.fit.0.bounds, so_far.can_take.bounds, long)

  -- what `put_band` requires
  pub fits_now : IsFit tiles works_now above band
  fits_now =
      let fit = so_far.fit.0 in
      record {
        tiled = fit.tiled;
        is_band = fit.is_band;
        within = fit.within;
        count = fit.count;
        bounds = fit.bounds;
        set = fit.set;
        only_marks = fit.only_marks;
        generations = λ u here.
            fit.generations u here
            ∙ ap (λ (w : TileWork). w.generation) (sym (so_far.works_left (first + u) (omega arith)));
        rows = fit.rows;
      }

  -- one band more
  pub one_more_put : (set_then : List Bool) → HasGained set_now (IsInBand tiles above band) set_then
      → IsPutSoFar tiles works set bands rest (above + rows_of band.tiling) (with_part first band.work works_now)
      (with_part first raised table_now) set_then (jobs + band.jobs)
  one_more_put set_then gained =
      let fit = so_far.fit.0 in
      let now = so_far.can_take in
      let works_then = with_part first band.work works_now in
      let table_then = with_part first raised table_now in
      let works_end : tiles_above tiles (above + rows_of band.tiling) ≡ first + length band.work =
      omega (arith, next, fit.count) in
      let long = length-map band.bounds (in_whole (rows_above tiles above)) in
      let table_end : tiles_above tiles (above + rows_of band.tiling) ≡ first + length raised =
      omega (arith, next, fit.bounds, long) in
      let count = length_with_part works_now band.work first fits in
      let still : (t : ℕ) → tiles_above tiles (above + rows_of band.tiling) ≤ t
      → work_of works_then t ≡ work_of works_now t =
      λ t from. get_or_beside_part works_now band.work first fits t idle (inr (omega (arith, from, works_end))) in
      record {
        fit = so_far.fit.1;
        can_take = record {
          tiled = now.tiled;
          count = count ∙ now.count;
          bounds = length_with_part table_now raised first table_fits ∙ now.bounds;
          set_count = gained.count ∙ now.set_count;
          only_marks = λ t from before.
              subst IsOnlyMarked (sym (still t from))
              (now.only_marks t (omega (arith, from, works_end)) (omega (arith, before, count)));
        };
        works_left = λ t from. still t from ∙ so_far.works_left t (omega (arith, from, works_end));
        works_put =
            ap (λ n. take n works_then ++ works_in rest) works_end
            ∙ ap (λ (l : List TileWork). l ++ works_in rest) (take_part works_now band.work first (omega (arith, fits)))
            ∙ append_assoc (take first works_now) band.work (works_in rest) ∙ so_far.works_put;
        table_put =
            ap (λ n. take n table_then ++ bounds_in tiles (above + rows_of band.tiling) rest) table_end
            ∙ ap (λ (l : List Bounds). l ++ bounds_in tiles (above + rows_of band.tiling) rest)
            (take_part table_now raised first (omega (arith, table_fits)))
            ∙ append_assoc (take first table_now) raised (bounds_in tiles (above + rows_of band.tiling) rest)
            ∙ so_far.table_put;
        set_put = λ final more.
            so_far.set_put final
            (gained_either set_now set_then final (IsInBand tiles above band)
            (IsInBands tiles (above + rows_of band.tiling) rest) gained more);
        jobs_put = omega (arith, so_far.jobs_put);
      }

  pub one_more_is : (works_then : List TileWork) (table_then : List Bounds) (set_then : List Bool) (below jobs_then : ℕ)
      → works_then ≡ with_part first band.work works_now → table_then ≡ with_part first raised table_now
      → HasGained set_now (IsInBand tiles above band) set_then → below ≡ above + rows_of band.tiling
      → jobs_then ≡ jobs + band.jobs
      → IsPutSoFar tiles works set bands rest below works_then table_then set_then jobs_then
  one_more_is works_then table_then set_then below jobs_then works_are table_is gained below_is jobs_are =
      subst (λ n. IsPutSoFar tiles works set bands rest n works_then table_then set_then jobs_then) (sym below_is)
      (subst (λ n. IsPutSoFar tiles works set bands rest (above + rows_of band.tiling) works_then table_then set_then n)
      (sym jobs_are)
      (subst (λ w. IsPutSoFar tiles works set bands rest (above + rows_of band.tiling) w table_then set_then
      (jobs + band.jobs)) (sym works_are)
      (subst (λ b. IsPutSoFar tiles works set bands rest (above + rows_of band.tiling)
      (with_part first band.work works_now) b set_then (jobs + band.jobs)) (sym table_is)
      (one_more_put set_then gained))))

-- once no band is left the tables are the bands'
pub record IsAllPut (tiles : Tiles) (set : List Bool) (bands : List Band) (works_now : List TileWork)
    (table_now : List Bounds) (set_now : List Bool) (jobs : ℕ) : Type 0 where
  pub works_are : works_now ≡ works_in bands
  pub table_is : table_now ≡ bounds_in tiles 0 bands
  pub gained : HasGained set (IsInBands tiles 0 bands) set_now
  pub jobs_are : jobs ≡ jobs_in bands

pub all_put : (tiles : Tiles) (works : List TileWork) (set : List Bool) (bands : List Band) (above : ℕ)
    (works_now : List TileWork) (table_now : List Bounds) (set_now : List Bool) (jobs : ℕ)
    → IsPutSoFar tiles works set bands [] above works_now table_now set_now jobs
    → IsAllPut tiles set bands works_now table_now set_now jobs
all_put tiles works set bands above works_now table_now set_now jobs so_far =
    let all : tiles_above tiles above ≡ count_of tiles =
    ap (λ n. n * columns_of tiles) so_far.fit ∙ omega arith in
    let works_all = take_all (tiles_above tiles above) works_now (omega (arith, all, so_far.can_take.count)) in
    let table_all = take_all (tiles_above tiles above) table_now (omega (arith, all, so_far.can_take.bounds)) in
    record {
      works_are = sym works_all ∙ sym (append-nil (take (tiles_above tiles above) works_now)) ∙ so_far.works_put;
      table_is = sym table_all ∙ sym (append-nil (take (tiles_above tiles above) table_now)) ∙ so_far.table_put;
      gained = so_far.set_put set_now (gained_nothing set_now);
      jobs_are = omega (arith, so_far.jobs_put);
    }
