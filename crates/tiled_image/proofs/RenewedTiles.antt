-- A merge renews an image in tiles: the parts of the tiles that are dirty then are let go.
use Rattle.std.proofs.Common.{◌≡◌, ℕ, ◌+◌, ◌<◌, ◌≤◌, Bool, true, List, Option, Some, None, length, set, ap, sym}
use Rattle.std.proofs.Common.{subst, ◌∙◌, inl, inr, arith, refl, slice_index_or, IsTrue}
use Rattle.std.proofs.lemmas.Bool.{cases_eq, cases_lt}
use Rattle.std.proofs.lemmas.List.{get_or-set_other, get_or-set_same, length-set}
use Rattle.grid_core.specs.{declared.pixel.Pixel.Pixel, Rects.IsPart, Rects.in_image}
use Rattle.grid_core.specs.Raster.{Raster, IsInside, IsOfSize, value_at}
use Rattle.grid_core.specs.Tiles.{Tiles, count_of, rect_of, tile_of}
use Rattle.border_queues.specs.TileWork.{TileWork, IsLeast, work_of}
use Rattle.stroke_lattice.specs.{State.State, Change.Turnover}
use Rattle.core_rules.specs.{Hits.IsInTile, Merge.HasRisen}
use Rattle.tile_work.specs.{TileSet.Has, TileSet.IsFirstFrom, WorkTable.IsDirtyTile}
use Rattle.reset_core.specs.MergeSteps.{IsImageRenewed}
use Rattle.tiled_image.specs.{TileParts.AreLetGo, TiledImage.IsKeptAs, TiledImage.IsOfTiling}
use Rattle.tiled_image.proofs.KeptImages.{none_is_no_part, part_within, still_of_tiling}
use Rattle.tiled_image.proofs.Places.{in_tile, tile_within}

-- ---- parts are let go, one after another

-- it holds of the number, which is below this one
abbrev pub HoldsBelow : (ℕ → Type 0) → ℕ → ℕ → Type 0
HoldsBelow P next t = P t × (t < next)

-- the first tile of a set is the least that it has
pub least_of_set : (tiles : List Bool) (next t : ℕ) → IsFirstFrom tiles next t
    → IsLeast (λ n. (next ≤ n) × Has tiles n) t
least_of_set tiles next t is_first = ((is_first.from, is_first.has), λ n both. is_first.first n both.0 both.1)

module _ (P : ℕ → Type 0) (old : List (Option Raster)) where
  pub none_gone : AreLetGo (HoldsBelow P 0) old old
  none_gone = record {
    count = refl;
    gone = λ t below. absurd (omega (arith, below.1));
    others = λ t spared. refl;
  }

  module _ (next : ℕ) (mid : List (Option Raster)) (so_far : AreLetGo (HoldsBelow P next) old mid) where
    -- the part of the next one goes
    module _ (t : ℕ) (least : IsLeast (λ n. (next ≤ n) × P n) t) (within : t < length mid)
        (new : List (Option Raster)) (new_is : new ≡ set mid t None) where
      elsewhere : (u : ℕ) → (u ≡ t → ⊥) → slice_index_or new u None ≡ slice_index_or mid u None
      elsewhere u other =
          ap (λ (parts : List (Option Raster)). slice_index_or parts u None) new_is
          ∙ get_or-set_other mid t u None None other

      gone_below : (u : ℕ) → P u → u < t + 1 → slice_index_or new u None ≡ None
      gone_below u holds below = elim (cases_eq u t) [
        | inl same ↦
            ap (λ n. slice_index_or new n None) same
            ∙ ap (λ (parts : List (Option Raster)). slice_index_or parts t None) new_is
            ∙ get_or-set_same mid t None None within
        | inr other ↦ elim (cases_lt u next) [
          | inl earlier ↦ elsewhere u other ∙ so_far.gone u (holds, earlier)
          | inr from ↦ absurd (omega (arith, below, other, least.1 u (from, holds)))
        ]
      ]

      stays : (u : ℕ) → (HoldsBelow P (t + 1) u → ⊥) → slice_index_or new u None ≡ slice_index_or old u None
      stays u spared =
          elsewhere u (λ same. spared (subst P (sym same) least.0.1, omega (arith, same)))
          ∙ so_far.others u (λ was. spared (was.0, omega (arith, was.1, least.0.0)))

      pub one_more_gone : AreLetGo (HoldsBelow P (t + 1)) old new
      one_more_gone = record {
        count = ap length new_is ∙ length-set mid t None ∙ so_far.count;
        gone = λ u below. gone_below u below.0 below.1;
        others = stays;
      }

    -- where none is left, all are gone
    pub all_gone : ((n : ℕ) → next ≤ n → P n → ⊥) → AreLetGo P old mid
    all_gone none = record {
      count = so_far.count;
      gone = λ t holds. elim (cases_lt t next) [
        | inl earlier ↦ so_far.gone t (holds, earlier)
        | inr from ↦ absurd (none t from holds)
      ];
      others = λ t spared. so_far.others t (λ was. spared was.0);
    }

-- ---- what a merge leaves

module _ (tiles : Tiles) (marks : List Bool) (change : Turnover) (state : State) (marker old new : Raster)
    (work after : List TileWork) (renewed : IsImageRenewed tiles marks change state marker old new work after)
    (old_size : IsOfTiling tiles old) (count : length work ≡ count_of tiles) where
  pub work_count : length after ≡ count_of tiles
  work_count = renewed.raised.count ∙ renewed.reset.count ∙ count

  pub renewed_size : IsOfSize old new
  renewed_size = record {
    width = renewed.raised.size.width ∙ renewed.reset.size.width;
    height = renewed.raised.size.height ∙ renewed.reset.size.height;
    filled = renewed.raised.size.filled;
  }

  -- a tile that is not dirty then
  module _ (t : ℕ) (within : t < count_of tiles) (clean : IsDirtyTile after t → ⊥) where
    in_after : t < length after
    in_after = subst (λ n. t < n) (sym work_count) within

    in_work : t < length work
    in_work = subst (λ n. t < n) (sym count) within

    in_between : t < length renewed.between
    in_between = subst (λ n. t < n) (sym renewed.reset.count) in_work

    clean_between : IsTrue (work_of renewed.between t).dirty → ⊥
    clean_between dirty = clean (in_after, (renewed.raised.dirty t in_between).dirty.1 (inl dirty))

    none_rises : HasRisen tiles t renewed.middle new → ⊥
    none_rises risen = clean (in_after, (renewed.raised.dirty t in_between).dirty.1 (inr risen))

    module _ (p : Pixel) (own : IsInTile tiles t p) where
      -- it was not reset
      middle_value : value_at renewed.middle p ≡ value_at old p
      middle_value = elim (renewed.reset.each t in_work) [
        | inl (marked, is_reset) ↦
            let dirty : (work_of renewed.between t).dirty ≡ true = ap (λ (w : TileWork). w.dirty) is_reset.work in
            absurd (clean_between dirty)
        | inr (spared, is_kept) ↦ is_kept.values p own
      ]

      in_middle : IsInside renewed.middle.width renewed.middle.height p
      in_middle =
          let inside = own.inside in (
            omega (arith, inside.0, renewed.reset.size.width, old_size.width),
            omega (arith, inside.1, renewed.reset.size.height, old_size.height),
          )

      at_most : value_at new p ≤ value_at renewed.middle p
      at_most = elim (cases_lt (value_at renewed.middle p) (value_at new p)) [
        | inl rose ↦ absurd (none_rises (record { p = p; in_tile = own; rose = rose }))
        | inr most ↦ most
      ]

      -- and none of its pixels rises
      new_value : value_at new p ≡ value_at renewed.middle p
      new_value = elim (cases_eq (value_at new p) (value_at renewed.middle p)) [
        | inl equal ↦ equal
        | inr differ ↦
            renewed.raised.values.beyond p in_middle
            (λ under. differ (omega (arith, renewed.raised.values.under p in_middle under, at_most)))
      ]

      -- so it is as it was
      pub clean_value : value_at new p ≡ value_at old p
      clean_value = new_value ∙ middle_value

-- ---- what is kept

-- the image becomes another one, which the rows are, and the parts of the tiles in which it may differ are let go
module _ {whole : Raster} {tiling : Tiles} {rows : Raster} {parts : List (Option Raster)} {newer : List Bool}
    (kept : IsKeptAs whole tiling rows parts newer) (none : (t : ℕ) → Has newer t → ⊥) (new : Raster)
    (size : IsOfSize whole new) (P : ℕ → Type 0) (new_parts : List (Option Raster))
    (gone : AreLetGo P parts new_parts)
    (same : (t : ℕ) → t < count_of tiling → (P t → ⊥) → (p : Pixel) → IsInTile tiling t p
    → value_at new p ≡ value_at whole p) where
  still_cut : (t : ℕ) (m : Raster) → slice_index_or new_parts t None ≡ Some m → IsPart (rect_of tiling t) new m
  still_cut t m there =
      let rect = rect_of tiling t in
      let spared : P t → ⊥ = λ holds. none_is_no_part m (sym (gone.gone t holds) ∙ there) in
      let had : slice_index_or parts t None ≡ Some m = sym (gone.others t spared) ∙ there in
      let was = kept.are_cut.cut t m had in
      let within : t < count_of tiling = subst (λ n. t < n) kept.are_cut.count (part_within parts t m had) in
      record {
        width = was.width;
        height = was.height;
        filled = was.filled;
        values = λ q inside.
            let (in_tiling, own) = in_tile tiling t kept.of_tiling.tiled within q inside in
            was.values q inside
            ∙ sym (same t within spared (in_image rect q) (record { inside = in_tiling; tile = own }));
      }

  pub renewed_kept : IsKeptAs new tiling new new_parts newer
  renewed_kept =
      let of_tiling = still_of_tiling tiling whole kept.of_tiling new size in
      record {
        of_tiling = of_tiling;
        rows_of_tiling = of_tiling;
        are_cut = record {
          width = of_tiling.width;
          height = of_tiling.height;
          count = gone.count ∙ kept.are_cut.count;
          cut = still_cut;
        };
        count = kept.count;
        has_part = λ t has empty. none t has;
        current = λ p inside older. refl;
      }

-- rows that are the image are renewed by a merge
module _ {whole : Raster} {tiling : Tiles} {rows : Raster} {parts : List (Option Raster)} {newer : List Bool}
    {tiles : Tiles} {marks : List Bool} {change : Turnover} {state : State} {marker new : Raster}
    {work after : List TileWork} (kept : IsKeptAs whole tiling rows parts newer) (rows_is : rows ≡ whole)
    (tiles_is : tiles ≡ tiling)
    (renewed : IsImageRenewed tiles marks change state marker rows new work after)
    (count : length work ≡ count_of tiles) where
  on_tiling : IsImageRenewed tiling marks change state marker whole new work after
  on_tiling =
      subst (λ (ts : Tiles). IsImageRenewed ts marks change state marker whole new work after) tiles_is
      (subst (λ (r : Raster). IsImageRenewed tiles marks change state marker r new work after) rows_is renewed)

  counted : length work ≡ count_of tiling
  counted = count ∙ ap count_of tiles_is

  -- there is work at each tile
  pub works_counted : length after ≡ count_of tiling
  works_counted =
      work_count tiling marks change state marker whole new work after on_tiling kept.of_tiling counted

  -- a pixel of a tile that is not dirty then has the value that it had
  pub merged_values : (p : Pixel) → IsInside tiling.width tiling.height p → (IsDirtyTile after (tile_of tiling p) → ⊥)
      → value_at new p ≡ value_at whole p
  merged_values p inside clean =
      clean_value tiling marks change state marker whole new work after on_tiling kept.of_tiling counted
      (tile_of tiling p) (tile_within tiling p kept.of_tiling.tiled inside) clean p
      (record { inside = inside; tile = refl })

  pub merged_size : IsOfSize whole new
  merged_size = renewed_size tiling marks change state marker whole new work after on_tiling kept.of_tiling counted
