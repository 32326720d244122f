-- The parts of tiles are written into the rows, one after another.
use Rattle.std.proofs.Common.{◌≡◌, ℕ, ◌+◌, ◌<◌, Bool, false, List, Option, Some, None, length, replicate, set, ap, sym}
use Rattle.std.proofs.Common.{subst, ◌∙◌, inl, inr, arith, refl, slice_index_or}
use Rattle.std.proofs.lemmas.{Bool.cases_eq, Bool.cases_lt, List.length-replicate, List.length-set}
use Rattle.grid_core.specs.{declared.pixel.Pixel.Pixel, Rects.IsPart, Rects.IsPatch}
use Rattle.grid_core.specs.Raster.{Raster, IsInside, value_at}
use Rattle.grid_core.specs.Tiles.{Tiles, count_of, rect_of, tile_of}
use Rattle.tile_work.specs.TileSet.{Has, HasNoneFrom, IsFirstFrom}
use Rattle.tile_work.proofs.TileSets.{replicate_has_none, taken_has}
use Rattle.tiled_image.specs.TiledImage.{IsKeptAs, IsOfTiling, IsTileWritten, image_of}
use Rattle.tiled_image.proofs.KeptImages.{bit_within, image_is, inside_image, rows_are, still_of_tiling}
use Rattle.tiled_image.proofs.KeptTiles.{part_gone}
use Rattle.tiled_image.proofs.Places.{rect_from_tile, tile_from_rect, value_in_part}

-- ---- one tile

module _ {whole : Raster} {tiling : Tiles} {rows : Raster} {parts : List (Option Raster)} {newer : List Bool}
    (kept : IsKeptAs whole tiling rows parts newer) (t : ℕ) (within : t < count_of tiling) where
  -- the rows get the image's values in one tile
  tile_written : (new : Raster) → IsOfTiling tiling new
      → ((p : Pixel) → IsInside tiling.width tiling.height p → tile_of tiling p ≡ t
      → value_at new p ≡ value_at whole p)
      → ((p : Pixel) → IsInside tiling.width tiling.height p → (tile_of tiling p ≡ t → ⊥)
      → value_at new p ≡ value_at rows p)
      → IsTileWritten whole tiling t parts newer rows new
  tile_written new of_tiling here others = record {
    kept = record {
      of_tiling = kept.of_tiling;
      rows_of_tiling = of_tiling;
      are_cut = kept.are_cut;
      count = kept.count;
      has_part = kept.has_part;
      current = λ p inside older. elim (cases_eq (tile_of tiling p) t) [
        | inl same ↦ here p inside same
        | inr other ↦ others p inside other ∙ kept.current p inside older
      ];
    };
    here = here;
    others = others;
  }

  -- they have them already where the tile is not newer
  pub older_written : (Has newer t → ⊥) → IsTileWritten whole tiling t parts newer rows rows
  older_written older =
      tile_written rows kept.rows_of_tiling
      (λ p inside same. kept.current p inside (λ has. older (subst (λ n. Has newer n) same has)))
      (λ p inside other. refl)

  -- and get them with the tile's part
  pub part_written : (m : Raster) → slice_index_or parts t None ≡ Some m → (new : Raster)
      → IsPart (rect_of tiling t) new m → IsPatch (rect_of tiling t) rows new
      → IsTileWritten whole tiling t parts newer rows new
  part_written m there new is_part patch =
      let rect = rect_of tiling t in
      let tiled = kept.of_tiling.tiled in
      tile_written new (still_of_tiling tiling rows kept.rows_of_tiling new patch.size)
      (λ p inside same.
      let in_rect = rect_from_tile tiling t tiled within p inside same in
      sym (value_in_part rect new m is_part p in_rect)
      ∙ value_in_part rect whole m (kept.are_cut.cut t m there) p in_rect)
      (λ p inside other.
      patch.beyond p (inside_image tiling rows kept.rows_of_tiling p inside)
      (λ in_rect. other (tile_from_rect tiling t tiled within p inside in_rect)))

  module _ (new : Raster) (done : IsTileWritten whole tiling t parts newer rows new) (after : List Bool)
      (after_is : after ≡ set newer t false) where
    taken : (u : ℕ) → Has after u → Has newer u × (u ≡ t → ⊥)
    taken u has =
        (taken_has newer t (bit_within kept t within) u).0 (subst (λ (bits : List Bool). Has bits u) after_is has)

    still_there : (u : ℕ) → Has newer u → (u ≡ t → ⊥) → Has after u
    still_there u has other =
        subst (λ (bits : List Bool). Has bits u) (sym after_is)
        ((taken_has newer t (bit_within kept t within) u).1 (has, other))

    -- once its part is written a tile is not newer
    written_older : IsKeptAs whole tiling new parts after
    written_older = record {
      of_tiling = kept.of_tiling;
      rows_of_tiling = done.kept.rows_of_tiling;
      are_cut = kept.are_cut;
      count = ap length after_is ∙ length-set newer t false ∙ kept.count;
      has_part = λ u has. kept.has_part u (taken u has).0;
      current = λ p inside older. elim (cases_eq (tile_of tiling p) t) [
        | inl same ↦ done.here p inside same
        | inr other ↦ done.kept.current p inside (λ has. older (still_there (tile_of tiling p) has other))
      ];
    }

    -- and the part can be let go
    pub written_and_gone : (new_parts : List (Option Raster)) → new_parts ≡ set parts t None
        → IsKeptAs whole tiling new new_parts after
    written_and_gone new_parts parts_are =
        part_gone written_older t within (λ has. (taken t has).1 refl) new_parts parts_are

-- ---- tile after tile

-- the image is kept, and in the tiles before this one the rows have its values
pub record IsWrittenBefore (next : ℕ) (whole : Raster) (tiling : Tiles) (rows : Raster) (parts : List (Option Raster))
    (newer : List Bool) : Type 0 where
  pub kept : IsKeptAs whole tiling rows parts newer
  pub written : (p : Pixel) → IsInside tiling.width tiling.height p → tile_of tiling p < next
      → value_at rows p ≡ value_at whole p

pub none_written : {whole : Raster} {tiling : Tiles} {rows : Raster} {parts : List (Option Raster)} {newer : List Bool}
    → IsKeptAs whole tiling rows parts newer → IsWrittenBefore 0 whole tiling rows parts newer
none_written kept = record {
  kept = kept;
  written = λ p inside before. absurd (omega (arith, before));
}

module _ {next : ℕ} {whole : Raster} {tiling : Tiles} {rows : Raster} {parts : List (Option Raster)} {newer : List Bool}
    (so_far : IsWrittenBefore next whole tiling rows parts newer) where
  before_first : (t : ℕ) → IsFirstFrom newer next t → (p : Pixel) → IsInside tiling.width tiling.height p
      → tile_of tiling p < t + 1 → (tile_of tiling p ≡ t → ⊥) → value_at rows p ≡ value_at whole p
  before_first t found p inside before other = elim (cases_lt (tile_of tiling p) next) [
    | inl earlier ↦ so_far.written p inside earlier
    | inr from ↦
        so_far.kept.current p inside
        (λ has. omega (arith, before, other, found.first (tile_of tiling p) from has))
  ]

  -- the next one that is newer is written
  pub one_more_written : (t : ℕ) → IsFirstFrom newer next t → (new : Raster)
      → IsTileWritten (image_of tiling rows parts newer) tiling t parts newer rows new
      → IsWrittenBefore (t + 1) whole tiling new parts newer
  one_more_written t found new step =
      let done : IsTileWritten whole tiling t parts newer rows new =
      subst (λ (r : Raster). IsTileWritten r tiling t parts newer rows new) (image_is so_far.kept) step in
      record {
        kept = done.kept;
        written = λ p inside before. elim (cases_eq (tile_of tiling p) t) [
          | inl same ↦ done.here p inside same
          | inr other ↦ done.others p inside other ∙ before_first t found p inside before other
        ];
      }

  -- where none is left, the rows are the image
  pub all_written : HasNoneFrom newer next → rows ≡ whole
  all_written none =
      rows_are so_far.kept (λ p inside. elim (cases_lt (tile_of tiling p) next) [
        | inl earlier ↦ so_far.written p inside earlier
        | inr from ↦ so_far.kept.current p inside (none (tile_of tiling p) from)
      ])

-- where the rows are the image, no tile need be newer
module _ {whole : Raster} {tiling : Tiles} {rows : Raster} {parts : List (Option Raster)} {newer : List Bool}
    (kept : IsKeptAs whole tiling rows parts newer) (new : Raster) (after : List Bool) where
  pub none_newer : new ≡ whole → after ≡ replicate (length newer) false → IsKeptAs whole tiling new parts after
  none_newer new_is after_is = record {
    of_tiling = kept.of_tiling;
    rows_of_tiling = subst (λ (r : Raster). IsOfTiling tiling r) (sym new_is) kept.of_tiling;
    are_cut = kept.are_cut;
    count = ap length after_is ∙ length-replicate (length newer) false ∙ kept.count;
    has_part = λ t has empty.
        replicate_has_none (length newer) t (subst (λ (bits : List Bool). Has bits t) after_is has);
    current = λ p inside older. ap (λ (r : Raster). value_at r p) new_is;
  }
