-- The rim of a tile is written into what the tile is kept in.
use Rattle.std.proofs.Common.{◌≡◌, ◌+◌, ◌<◌, ◌≤◌, ℕ, Bool, true, false, List, Option, Some, None, set, length, ap, sym}
use Rattle.std.proofs.Common.{subst, ◌∙◌, arith, slice_index_or, MatchBool}
use Rattle.std.proofs.{lemmas.Bool.false≢true, lemmas.List.set-get_or, lemmas.List.set-set}
use Rattle.grid_core.specs.{declared.pixel.Pixel.Pixel, Rects.IsInRect}
use Rattle.grid_core.specs.Raster.{Raster, IsInside, value_at}
use Rattle.grid_core.specs.Tiles.{Tiles, count_of, rect_of, tile_of}
use Rattle.tile_work.specs.TileSet.{Has, HasNoneFrom, IsFirstFrom}
use Rattle.tile_work.proofs.TileSets.{taken_has}
use Rattle.tiled_image.specs.RaisedTiles.{IsLaidIn, IsPartWritten, IsRimIn, IsShownBut}
use Rattle.tiled_image.specs.{SharedCopies.IsTileCopied, Shown.value_in}
use Rattle.tiled_image.specs.TiledImage.{IsKept, IsKeptAs, image_of}
use Rattle.tiled_image.proofs.KeptChanges.{IsChangedAt, kept_at}
use Rattle.tiled_image.proofs.KeptImages.{image_is, inside_image, is_kept, none_is_no_part, part_has, still_of_tiling}
use Rattle.tiled_image.proofs.KeptTiles.{IsPut, is_put, still_out}
use Rattle.tiled_image.proofs.LaidRims.{none_raised, tile_else, tile_folded, tile_here, tile_of_tiling}
use Rattle.tiled_image.proofs.LaidRims.{with_tile}
use Rattle.tiled_image.proofs.PartsAt.{either_way}
use Rattle.tiled_image.proofs.Places.{rect_from_tile, tile_from_rect, value_in_part}
use Rattle.tiled_image.proofs.WrittenRims.{tile_value}

-- what is kept then, and which image that is
pub record IsFolded (whole : Raster) (tiling : Tiles) (t : ℕ) (below rows : Raster) (parts : List (Option Raster))
    (newer : List Bool) : Type 0 where
  pub kept : IsKept tiling rows parts newer
  pub folded : IsTileCopied whole tiling t below (image_of tiling rows parts newer)

module _ {below : Raster} {tiling : Tiles} {rows : Raster} {parts : List (Option Raster)} {newer : List Bool}
    (kept : IsKeptAs below tiling rows parts newer) (t : ℕ) (within : t < count_of tiling) (whole : Raster)
    (rims : List ℕ) (laid : IsLaidIn t whole tiling below rims) where
  own_rect : (p : Pixel) → IsInside tiling.width tiling.height p → tile_of tiling p ≡ t
      → IsInRect (rect_of tiling t) p
  own_rect p inside own = rect_from_tile tiling t kept.of_tiling.tiled within p inside own

  -- the rim is written into the tile's part, which is newer then
  module _ (new_parts : List (Option Raster)) (new_newer : List Bool)
      (written : IsPartWritten tiling t rims parts new_parts) (newer_are : new_newer ≡ set newer t true) where
    put : IsPut tiling t below rows written.written new_parts new_newer
    put =
        let was = kept.are_cut.cut t written.part written.was in
        is_put kept t within written.written (written.rim.size.width ∙ was.width)
        (written.rim.size.height ∙ was.height) written.rim.size.filled new_parts new_newer written.is newer_are

    new_value : (p : Pixel) → IsInside tiling.width tiling.height p → tile_of tiling p ≡ t
        → value_in (rect_of tiling t) written.written p ≡ value_at whole p
    new_value p inside own =
        tile_value tiling t kept.of_tiling.tiled within whole (rect_of tiling t) written.part written.written
        (written.rim.written whole laid.rims_are) p (own_rect p inside own) (own_rect p inside own)
        (λ is_inner.
        part_has kept t written.part written.was p (own_rect p inside own) ∙ laid.inner p inside own is_inner)

    pub part_folded : IsFolded whole tiling t below rows new_parts new_newer
    part_folded = record {
      kept = put.kept;
      folded = record {
        of_tiling =
            still_of_tiling tiling below kept.of_tiling (image_of tiling rows new_parts new_newer) put.patch.size;
        here = λ p inside own.
            sym (value_in_part (rect_of tiling t) (image_of tiling rows new_parts new_newer) written.written put.is_part
            p (own_rect p inside own))
            ∙ new_value p inside own;
        others = λ p inside other.
            put.patch.beyond p (inside_image tiling below kept.of_tiling p inside)
            (λ in_rect. other (tile_from_rect tiling t kept.of_tiling.tiled within p inside in_rect));
      };
    }

  -- the tile has no part, and the rim is written into the rows
  module _ (none : slice_index_or parts t None ≡ None) (new_rows : Raster)
      (copied : IsTileCopied whole tiling t rows new_rows) where
    older : Has newer t → ⊥
    older has = kept.has_part t has none

    changed : IsChangedAt tiling t below rows (with_tile tiling below t (value_at new_rows)) new_rows None false
    changed = record {
      tile = within;
      whole_of_tiling = tile_of_tiling tiling below kept.of_tiling t (value_at new_rows);
      rows_of_tiling = copied.of_tiling;
      whole_else = tile_else tiling below kept.of_tiling t (value_at new_rows);
      rows_else = copied.others;
      cut = λ m is. absurd (none_is_no_part m is);
      has_part = λ on empty. false≢true on;
      current = λ off p inside own. sym (tile_here tiling below kept.of_tiling t (value_at new_rows) p inside own);
    }

    kept_then : IsKeptAs (with_tile tiling below t (value_at new_rows)) tiling new_rows parts newer
    kept_then =
        kept_at kept changed parts newer (sym (ap (set parts t) (sym none) ∙ set-get_or parts t None))
        (still_out newer t older)

    pub rows_folded : IsFolded whole tiling t below new_rows parts newer
    rows_folded = record {
      kept = is_kept kept_then;
      folded =
          subst (λ (r : Raster). IsTileCopied whole tiling t below r) (sym (image_is kept_then)) (record {
            of_tiling = tile_of_tiling tiling below kept.of_tiling t (value_at new_rows);
            here = λ p inside own.
                tile_here tiling below kept.of_tiling t (value_at new_rows) p inside own ∙ copied.here p inside own;
            others = tile_else tiling below kept.of_tiling t (value_at new_rows);
          });
    }

  -- in a tile with no part the rows are what is below
  pub laid_in_rows : slice_index_or parts t None ≡ None → IsLaidIn t whole tiling rows rims
  laid_in_rows none = record {
    below_of_tiling = kept.rows_of_tiling;
    rims_are = laid.rims_are;
    inner = λ p inside own is_inner.
        kept.current p inside (λ has. kept.has_part t (subst (λ n. Has newer n) own has) none)
        ∙ laid.inner p inside own is_inner;
  }

-- ---- tile after tile

-- it is raised and not before this one
abbrev pub IsRaisedFrom : ℕ → List Bool → ℕ → Type 0
IsRaisedFrom next raised t = (next ≤ t) × Has raised t

pub none_before : {whole : Raster} {tiling : Tiles} {below : Raster} {rims : List ℕ} (raised : List Bool)
    → IsShownBut (Has raised) whole tiling below rims → IsShownBut (IsRaisedFrom 0 raised) whole tiling below rims
none_before raised shown = record {
  of_tiling = shown.of_tiling;
  below_of_tiling = shown.below_of_tiling;
  rims_are = shown.rims_are;
  inner = shown.inner;
  settled = λ p inside spared. shown.settled p inside (λ has. spared (omega arith, has));
}

module _ (raised : List Bool) (next : ℕ) {whole : Raster} {tiling : Tiles} {below : Raster} {rims : List ℕ}
    (shown : IsShownBut (IsRaisedFrom next raised) whole tiling below rims) where
  pub one_more_folded : (t : ℕ) → IsFirstFrom raised next t → (new : Raster)
      → IsTileCopied whole tiling t below new → IsShownBut (IsRaisedFrom (t + 1) raised) whole tiling new rims
  one_more_folded t found new copied =
      tile_folded shown (IsRaisedFrom (t + 1) raised) t new copied
      (λ u was other. (omega (arith, other, found.first u was.0 was.1), was.1))

  pub all_folded : HasNoneFrom raised next → below ≡ whole
  all_folded none = none_raised shown (λ t was. none t was.0 was.1)

-- one tile
pub one_folded : {whole : Raster} {tiling : Tiles} {below : Raster} {rims : List ℕ} (raised : List Bool)
    → IsShownBut (Has raised) whole tiling below rims → (t : ℕ) → t < length raised → (new : Raster)
    → IsTileCopied whole tiling t below new → (after : List Bool) → after ≡ set raised t false
    → IsShownBut (Has after) whole tiling new rims
one_folded raised shown t within new copied after after_is =
    tile_folded shown (Has after) t new copied
    (λ u had other.
    subst (λ (bits : List Bool). Has bits u) (sym after_is) ((taken_has raised t within u).1 (had, other)))

-- what is kept and laid over it, while tile after tile is folded
pub record IsFoldedBefore (next : ℕ) (whole : Raster) (tiling : Tiles) (rows : Raster) (parts : List (Option Raster))
    (newer raised : List Bool) (rims : List ℕ) : Type 0 where
  pub kept : IsKept tiling rows parts newer
  pub shown : IsShownBut (IsRaisedFrom next raised) whole tiling (image_of tiling rows parts newer) rims

-- ---- a part that is taken out, and put back

module _ (tiling : Tiles) (t : ℕ) (rims : List ℕ) (old : List (Option Raster)) (part : Raster)
    (there : slice_index_or old t None ≡ Some part) (written : Raster) (taken new : List (Option Raster))
    (taken_is : taken ≡ set old t None) (new_is : new ≡ set taken t (Some written)) where
  put_back : new ≡ set old t (Some written)
  put_back =
      new_is ∙ ap (λ (ps : List (Option Raster)). set ps t (Some written)) taken_is
      ∙ set-set old t None (Some written)

  -- with its rim, or as it was
  pub put_back_either : (is_written : Bool)
      → MatchBool is_written (IsRimIn tiling t rims part written) (written ≡ part)
      → MatchBool is_written (IsPartWritten tiling t rims old new) (new ≡ old)
  put_back_either is_written =
      either_way is_written (IsRimIn tiling t rims part written) (written ≡ part)
      (IsPartWritten tiling t rims old new) (new ≡ old)
      (λ rim. record { part = part; written = written; was = there; is = put_back; rim = rim })
      (λ same. put_back ∙ ap (set old t) (ap Some same ∙ sym there) ∙ set-get_or old t None)
