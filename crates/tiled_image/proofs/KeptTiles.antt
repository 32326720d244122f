-- What becomes of rows and parts where a part is cut out, let go, or put in.
use Rattle.std.proofs.Common.{◌≡◌, ℕ, ◌<◌, Bool, true, false, List, Option, Some, None, set, ap, sym, subst, ◌∙◌, refl}
use Rattle.std.proofs.Common.{slice_index_or, if◌then◌else◌}
use Rattle.std.proofs.lemmas.Bool.{false≢true, true≢false}
use Rattle.std.proofs.lemmas.List.{get_or-set_same, get_or-set_other, set-get_or}
use Rattle.grid_core.specs.{declared.pixel.Pixel.Pixel, declared.rect.Rect.Rect}
use Rattle.grid_core.specs.Raster.{Raster, IsFilled, IsInside, value_at}
use Rattle.grid_core.specs.Rects.{IsPart, IsPatch, in_image}
use Rattle.grid_core.specs.Tiles.{Tiles, count_of, rect_of, tile_of}
use Rattle.tile_work.specs.TileSet.{Has}
use Rattle.tile_work.proofs.TileSets.{not_has_false}
use Rattle.tiled_image.specs.{Shown.value_in, TiledImage.IsKept, TiledImage.IsKeptAs, TiledImage.IsOfTiling}
use Rattle.tiled_image.specs.TiledImage.{image_of, kept_value, part_value}
use Rattle.tiled_image.proofs.KeptChanges.{IsChangedAt, kept_at}
use Rattle.tiled_image.proofs.KeptImages.{bit_within, inside_image, inside_tiling, kept_values, none_is_no_part}
use Rattle.tiled_image.proofs.KeptImages.{same_part, slot_within, still_of_tiling}
use Rattle.tiled_image.proofs.Places.{in_tile, place_of_image, rect_from_tile}
use Rattle.tiled_image.proofs.Rasters.{raster_of-filled, value_at-raster_of}

-- a set stays as it is where a tile is taken out that is not in it, or put in that is
pub still_out : (bits : List Bool) (t : ℕ) → (Has bits t → ⊥) → bits ≡ set bits t false
still_out bits t out = sym (ap (set bits t) (sym (not_has_false bits t out)) ∙ set-get_or bits t false)

pub still_in : (bits : List Bool) (t : ℕ) → Has bits t → bits ≡ set bits t true
still_in bits t has = sym (ap (set bits t) (sym has.1) ∙ set-get_or bits t false)

-- a part was put in: it is the new image's part in the tile, which beyond the tile is as it was
pub record IsPut (tiling : Tiles) (t : ℕ) (whole rows part : Raster) (parts : List (Option Raster)) (newer : List Bool)
    : Type 0 where
  pub kept : IsKept tiling rows parts newer
  pub is_part : IsPart (rect_of tiling t) (image_of tiling rows parts newer) part
  pub patch : IsPatch (rect_of tiling t) whole (image_of tiling rows parts newer)

module _ {whole : Raster} {tiling : Tiles} {rows : Raster} {parts : List (Option Raster)} {newer : List Bool}
    (kept : IsKeptAs whole tiling rows parts newer) (t : ℕ) (within : t < count_of tiling) where
  -- ---- a part is cut out, or let go

  -- another part of a tile that is not newer
  other_part : (older : Has newer t → ⊥) (slot : Option Raster)
      → ((m : Raster) → slot ≡ Some m → IsPart (rect_of tiling t) whole m)
      → IsChangedAt tiling t whole rows whole rows slot false
  other_part older slot cut = record {
    tile = within;
    whole_of_tiling = kept.of_tiling;
    rows_of_tiling = kept.rows_of_tiling;
    whole_else = λ p inside other. refl;
    rows_else = λ p inside other. refl;
    cut = cut;
    has_part = λ on none. false≢true on;
    current = λ off p inside same. kept.current p inside (λ has. older (subst (λ n. Has newer n) same has));
  }

  none_is_older : slice_index_or parts t None ≡ None → Has newer t → ⊥
  none_is_older none has = kept.has_part t has none

  -- what is cut out of the rows is the image's part where the tile has none
  pub cut_of_whole : (m : Raster) → slice_index_or parts t None ≡ None → IsPart (rect_of tiling t) rows m
      → IsPart (rect_of tiling t) whole m
  cut_of_whole m none is_part = record {
    width = is_part.width;
    height = is_part.height;
    filled = is_part.filled;
    values = λ q inside.
        let (in_tiling, own) = in_tile tiling t kept.of_tiling.tiled within q inside in
        is_part.values q inside
        ∙ kept.current (in_image (rect_of tiling t) q) in_tiling
        (λ has. none_is_older none (subst (λ n. Has newer n) own has));
  }

  pub cut_out : (m : Raster) → slice_index_or parts t None ≡ None → IsPart (rect_of tiling t) rows m
      → (new_parts : List (Option Raster)) → new_parts ≡ set parts t (Some m)
      → IsKeptAs whole tiling rows new_parts newer
  cut_out m none is_part new_parts parts_are =
      let older = none_is_older none in
      let is_cut = cut_of_whole m none is_part in
      kept_at kept
      (other_part older (Some m) (λ k is. subst (IsPart (rect_of tiling t) whole) (same_part m k is) is_cut))
      new_parts newer parts_are (still_out newer t older)

  -- so with what is stored in place of what was cut out
  pub copy_kept : (rect : Rect) (m copy : Raster) → slice_index_or parts t None ≡ None → rect ≡ rect_of tiling t
      → IsPart rect rows m → copy ≡ m → (new_parts : List (Option Raster)) → new_parts ≡ set parts t (Some copy)
      → IsKeptAs whole tiling rows new_parts newer
  copy_kept rect m copy none rect_is is_part same new_parts parts_are =
      cut_out copy none
      (subst (λ (r : Raster). IsPart (rect_of tiling t) rows r) (sym same)
      (subst (λ (r : Rect). IsPart r rows m) rect_is is_part))
      new_parts parts_are

  pub part_gone : (Has newer t → ⊥) → (new_parts : List (Option Raster)) → new_parts ≡ set parts t None
      → IsKeptAs whole tiling rows new_parts newer
  part_gone older new_parts parts_are =
      kept_at kept (other_part older None (λ m is. absurd (none_is_no_part m is))) new_parts newer parts_are
      (still_out newer t older)

  -- ---- a part is put in

  module _ (part : Raster) (width : part.width ≡ (rect_of tiling t).w) (height : part.height ≡ (rect_of tiling t).h)
      (filled : IsFilled part) where
    -- parts, tiles that are newer, and the image afterwards
    abbrev parts_put : List (Option Raster)
    parts_put = set parts t (Some part)

    abbrev newer_put : List Bool
    newer_put = set newer t true

    abbrev whole_put : Raster
    whole_put = image_of tiling rows parts_put newer_put

    -- what is read is what is kept
    value_put : (p : Pixel) → IsInside tiling.width tiling.height p
        → value_at whole_put p ≡ kept_value tiling rows parts_put newer_put p
    value_put p inside =
        value_at-raster_of rows.width rows.height (kept_value tiling rows parts_put newer_put) p
        (inside_image tiling rows kept.rows_of_tiling p inside)

    put_here : (p : Pixel) → IsInside tiling.width tiling.height p → tile_of tiling p ≡ t
        → value_at whole_put p ≡ value_in (rect_of tiling t) part p
    put_here p inside same =
        value_put p inside
        ∙ ap (λ u. if slice_index_or newer_put u false
        then part_value (rect_of tiling u) (slice_index_or parts_put u None) p
        else value_at rows p) same
        ∙ ap (λ b. if b then part_value (rect_of tiling t) (slice_index_or parts_put t None) p else value_at rows p)
        (get_or-set_same newer t true false (bit_within kept t within))
        ∙ ap (λ slot. part_value (rect_of tiling t) slot p)
        (get_or-set_same parts t (Some part) None (slot_within kept t within))

    put_beside : (p : Pixel) → IsInside tiling.width tiling.height p → (tile_of tiling p ≡ t → ⊥)
        → value_at whole_put p ≡ value_at whole p
    put_beside p inside other =
        let u = tile_of tiling p in
        value_put p inside
        ∙ ap (λ b. if b then part_value (rect_of tiling u) (slice_index_or parts_put u None) p else value_at rows p)
        (get_or-set_other newer t u true false other)
        ∙ ap (λ slot. if slice_index_or newer u false then part_value (rect_of tiling u) slot p else value_at rows p)
        (get_or-set_other parts t u (Some part) None other)
        ∙ kept_values kept p inside

    whole_put_of_tiling : IsOfTiling tiling whole_put
    whole_put_of_tiling =
        still_of_tiling tiling rows kept.rows_of_tiling whole_put (record {
          width = refl;
          height = refl;
          filled = raster_of-filled rows.width rows.height (kept_value tiling rows parts_put newer_put);
        })

    put_is_part : IsPart (rect_of tiling t) whole_put part
    put_is_part = record {
      width = width;
      height = height;
      filled = filled;
      values = λ q inside.
          let rect = rect_of tiling t in
          let (in_tiling, own) = in_tile tiling t kept.of_tiling.tiled within q inside in
          sym (put_here (in_image rect q) in_tiling own ∙ ap (λ (r : Pixel). value_at part r) (place_of_image rect q));
    }

    put_is_patch : IsPatch (rect_of tiling t) whole whole_put
    put_is_patch = record {
      size = record {
        width = kept.rows_of_tiling.width ∙ sym kept.of_tiling.width;
        height = kept.rows_of_tiling.height ∙ sym kept.of_tiling.height;
        filled = whole_put_of_tiling.sized.filled;
      };
      beyond = λ p inside outside.
          let in_tiling = inside_tiling tiling whole kept.of_tiling p inside in
          put_beside p in_tiling
          (λ same. outside (rect_from_tile tiling t kept.of_tiling.tiled within p in_tiling same));
    }

    part_put : IsChangedAt tiling t whole rows whole_put rows (Some part) true
    part_put = record {
      tile = within;
      whole_of_tiling = whole_put_of_tiling;
      rows_of_tiling = kept.rows_of_tiling;
      whole_else = put_beside;
      rows_else = λ p inside other. refl;
      cut = λ k is. subst (IsPart (rect_of tiling t) whole_put) (same_part part k is) put_is_part;
      has_part = λ on none. none_is_no_part part (sym none);
      current = λ off p inside same. absurd (true≢false off);
    }

    put_in : IsKept tiling rows parts_put newer_put
    put_in = kept_at kept part_put parts_put newer_put refl refl

    -- what is kept then
    pub is_put : (new_parts : List (Option Raster)) (new_newer : List Bool) → new_parts ≡ parts_put
        → new_newer ≡ newer_put → IsPut tiling t whole rows part new_parts new_newer
    is_put new_parts new_newer parts_are newer_are =
        subst (λ (ps : List (Option Raster)). IsPut tiling t whole rows part ps new_newer) (sym parts_are)
        (subst (λ (bits : List Bool). IsPut tiling t whole rows part parts_put bits) (sym newer_are)
        (record { kept = put_in; is_part = put_is_part; patch = put_is_patch }))
