-- What becomes of rows and parts where one pixel of the image gets another value.
use Rattle.std.proofs.Common.{◌≡◌, ℕ, ◌<◌, Bool, true, false, List, Option, Some, None, set, ap, sym, subst, ◌∙◌, refl}
use Rattle.std.proofs.Common.{inl, inr, slice_index_or, if◌then◌else◌}
use Rattle.std.proofs.lemmas.Bool.{both_ways, cases_Bool, false≢true, true≢false}
use Rattle.std.proofs.lemmas.List.{length-set, set-get_or}
use Rattle.grid_core.specs.{declared.pixel.Pixel.Pixel, declared.rect.Rect.Rect}
use Rattle.grid_core.specs.Raster.{Raster, IsFilled, IsInside, IsOfSize, index_of, value_at, with_value}
use Rattle.grid_core.specs.Rects.{IsInRect, IsPart, in_image}
use Rattle.grid_core.specs.Tiles.{Tiles, count_of, rect_of, tile_of}
use Rattle.grid_core.proofs.{Cells.set_is_read, Cells.set_keeps_others, Pixels.same_pixel_or_not}
use Rattle.tile_work.specs.TileSet.{Has}
use Rattle.tile_work.proofs.TileSets.{is_there}
use Rattle.tiled_image.specs.{Shown.place_in, TiledImage.IsKeptAs, TiledImage.IsOfTiling}
use Rattle.tiled_image.proofs.KeptChanges.{IsChangedAt, kept_at}
use Rattle.tiled_image.proofs.KeptImages.{inside_image, none_is_no_part, same_part, still_of_tiling}
use Rattle.tiled_image.proofs.KeptTiles.{still_in, still_out}
use Rattle.tiled_image.proofs.Places.{image_of_place, in_tile, place_inside, place_of_image, rect_from_tile}
use Rattle.tiled_image.proofs.Places.{tile_within}

-- ---- images

pub set_keeps_size : (r : Raster) (p : Pixel) (v : ℕ) → IsFilled r → IsOfSize r (with_value r p v)
set_keeps_size r p v filled = record {
  width = refl;
  height = refl;
  filled = length-set r.cells (index_of r.width p) v ∙ filled;
}

-- images that are alike at a pixel are so still where a pixel of both gets the same value
pub set_alike : (a b : Raster) (p q : Pixel) (v : ℕ) → IsFilled a → IsFilled b → IsInside a.width a.height p
    → IsInside b.width b.height p → IsInside a.width a.height q → IsInside b.width b.height q
    → value_at a q ≡ value_at b q → value_at (with_value a p v) q ≡ value_at (with_value b p v) q
set_alike a b p q v filled_a filled_b p_in_a p_in_b q_in_a q_in_b same = elim (same_pixel_or_not q p) [
  | inl here ↦
      ap (λ (r : Pixel). value_at (with_value a p v) r) here ∙ set_is_read a p v filled_a p_in_a
      ∙ sym (ap (λ (r : Pixel). value_at (with_value b p v) r) here ∙ set_is_read b p v filled_b p_in_b)
  | inr other ↦
      set_keeps_others a p q v p_in_a q_in_a other ∙ same ∙ sym (set_keeps_others b p q v p_in_b q_in_b other)
]

-- a part is still the image's where a pixel of both gets the same value
set_part : (rect : Rect) (whole m : Raster) (p : Pixel) (v : ℕ) → IsFilled whole → IsInside whole.width whole.height p
    → IsInRect rect p
    → ((q : Pixel) → IsInside rect.w rect.h q → IsInside whole.width whole.height (in_image rect q))
    → IsPart rect whole m → IsPart rect (with_value whole p v) (with_value m (place_in rect p) v)
set_part rect whole m p v filled inside in_rect lies is_part =
    let place = place_in rect p in
    let within : (q : Pixel) → IsInside rect.w rect.h q → IsInside m.width m.height q = λ q in_part.
    (subst (λ w. q.x < w) (sym is_part.width) in_part.0, subst (λ h. q.y < h) (sym is_part.height) in_part.1) in
    let here = place_inside rect p in_rect in
    let back = image_of_place rect p in_rect in
    record {
      width = is_part.width;
      height = is_part.height;
      filled = length-set m.cells (index_of m.width place) v ∙ is_part.filled;
      values = λ q in_part. elim (same_pixel_or_not q place) [
        | inl same ↦
            ap (λ (r : Pixel). value_at (with_value m place v) r) same
            ∙ set_is_read m place v is_part.filled (within place here)
            ∙ sym (ap (λ (r : Pixel). value_at (with_value whole p v) r) (ap (in_image rect) same ∙ back)
            ∙ set_is_read whole p v filled inside)
        | inr other ↦
            set_keeps_others m place q v (within place here) (within q in_part) other ∙ is_part.values q in_part
            ∙ sym (set_keeps_others whole p (in_image rect q) v inside (lies q in_part)
            (λ same. other (sym (place_of_image rect q) ∙ ap (place_in rect) same)))
      ];
    }

-- ---- what is kept

module _ {whole : Raster} {tiling : Tiles} {rows : Raster} {parts : List (Option Raster)} {newer : List Bool}
    (kept : IsKeptAs whole tiling rows parts newer) (p : Pixel) (v t : ℕ)
    (inside : IsInside tiling.width tiling.height p) (own : tile_of tiling p ≡ t) where
  within : t < count_of tiling
  within = subst (λ n. n < count_of tiling) own (tile_within tiling p kept.of_tiling.tiled inside)

  set_of_tiling : (r : Raster) → IsOfTiling tiling r → IsOfTiling tiling (with_value r p v)
  set_of_tiling r of_tiling =
      still_of_tiling tiling r of_tiling (with_value r p v) (set_keeps_size r p v of_tiling.sized.filled)

  -- the other tiles stay
  set_else : (r : Raster) → IsOfTiling tiling r → (q : Pixel) → IsInside tiling.width tiling.height q
      → (tile_of tiling q ≡ t → ⊥) → value_at (with_value r p v) q ≡ value_at r q
  set_else r of_tiling q in_tiling other =
      set_keeps_others r p q v (inside_image tiling r of_tiling p inside) (inside_image tiling r of_tiling q in_tiling)
      (λ same. other (ap (tile_of tiling) same ∙ own))

  set_cut : (m : Raster) → slice_index_or parts t None ≡ Some m
      → IsPart (rect_of tiling t) (with_value whole p v) (with_value m (place_in (rect_of tiling t) p) v)
  set_cut m there =
      let tiled = kept.of_tiling.tiled in
      let rect = rect_of tiling t in
      set_part rect whole m p v kept.of_tiling.sized.filled (inside_image tiling whole kept.of_tiling p inside)
      (rect_from_tile tiling t tiled within p inside own)
      (λ q in_part.
      inside_image tiling whole kept.of_tiling (in_image rect q) (in_tile tiling t tiled within q in_part).0)
      (kept.are_cut.cut t m there)

  -- the rows have the value, and the tile has this part, if one
  rows_set : (Has newer t → ⊥) → (slot : Option Raster)
      → ((m : Raster) → slot ≡ Some m → IsPart (rect_of tiling t) (with_value whole p v) m)
      → IsChangedAt tiling t whole rows (with_value whole p v) (with_value rows p v) slot false
  rows_set older slot cut = record {
    tile = within;
    whole_of_tiling = set_of_tiling whole kept.of_tiling;
    rows_of_tiling = set_of_tiling rows kept.rows_of_tiling;
    whole_else = set_else whole kept.of_tiling;
    rows_else = set_else rows kept.rows_of_tiling;
    cut = cut;
    has_part = λ on none. false≢true on;
    current = λ off q in_tiling same.
        set_alike rows whole p q v kept.rows_of_tiling.sized.filled kept.of_tiling.sized.filled
        (inside_image tiling rows kept.rows_of_tiling p inside) (inside_image tiling whole kept.of_tiling p inside)
        (inside_image tiling rows kept.rows_of_tiling q in_tiling)
        (inside_image tiling whole kept.of_tiling q in_tiling)
        (kept.current q in_tiling (λ has. older (subst (λ n. Has newer n) same has)));
  }

  -- the part alone has the value
  part_set : (m : Raster) → slice_index_or parts t None ≡ Some m
      → IsChangedAt tiling t whole rows (with_value whole p v) rows
      (Some (with_value m (place_in (rect_of tiling t) p) v)) true
  part_set m there =
      let new = with_value m (place_in (rect_of tiling t) p) v in
      record {
        tile = within;
        whole_of_tiling = set_of_tiling whole kept.of_tiling;
        rows_of_tiling = kept.rows_of_tiling;
        whole_else = set_else whole kept.of_tiling;
        rows_else = λ q in_tiling other. refl;
        cut = λ k is. subst (IsPart (rect_of tiling t) (with_value whole p v)) (same_part new k is) (set_cut m there);
        has_part = λ on none. none_is_no_part new (sym none);
        current = λ off q in_tiling same. absurd (true≢false off);
      }

  -- the tile has no part
  pub rows_alone_set : slice_index_or parts t None ≡ None
      → IsKeptAs (with_value whole p v) tiling (with_value rows p v) parts newer
  rows_alone_set none =
      let older : Has newer t → ⊥ = λ has. kept.has_part t has none in
      kept_at kept
      (rows_set older (slice_index_or parts t None) (λ m there. absurd (none_is_no_part m (sym none ∙ there))))
      parts newer (sym (set-get_or parts t None)) (still_out newer t older)

  -- its part has the value, and the rows have it too unless the tile is newer
  pub part_and_rows_set : (m : Raster) → slice_index_or parts t None ≡ Some m → (new_parts : List (Option Raster))
      → new_parts ≡ set parts t (Some (with_value m (place_in (rect_of tiling t) p) v)) → (new_rows : Raster)
      → new_rows ≡ (if slice_index_or newer t false then rows else with_value rows p v)
      → IsKeptAs (with_value whole p v) tiling new_rows new_parts newer
  part_and_rows_set m there new_parts parts_are new_rows rows_are =
      let new = with_value m (place_in (rect_of tiling t) p) v in
      let Kept : Raster → Type 0 = λ r. IsKeptAs (with_value whole p v) tiling r new_parts newer in
      elim (cases_Bool (slice_index_or newer t false)) [
        | inl on ↦
            let same : new_rows ≡ rows = rows_are ∙ ap (λ b. if b then rows else with_value rows p v) on in
            subst Kept (sym same)
            (kept_at kept (part_set m there) new_parts newer parts_are (still_in newer t (is_there newer t on)))
        | inr off ↦
            let same : new_rows ≡ with_value rows p v =
            rows_are ∙ ap (λ b. if b then rows else with_value rows p v) off in
            let older : Has newer t → ⊥ = λ has. both_ways (slice_index_or newer t false) off has.1 in
            let cut = λ (k : Raster) (is : Some new ≡ Some k).
            subst (IsPart (rect_of tiling t) (with_value whole p v)) (same_part new k is) (set_cut m there) in
            subst Kept (sym same)
            (kept_at kept (rows_set older (Some new) cut) new_parts newer parts_are (still_out newer t older))
      ]
