-- What is kept as rows and parts stays kept where one tile changes.
use Rattle.std.proofs.Common.{◌≡◌, ℕ, ◌<◌, Bool, true, false, List, Option, Some, None, set, sym, subst, ◌∙◌, inl, inr}
use Rattle.std.proofs.Common.{slice_index_or}
use Rattle.std.proofs.lemmas.Bool.{cases_eq, false_from_ne_true}
use Rattle.std.proofs.lemmas.List.{get_or-set_same, get_or-set_other, length-set}
use Rattle.grid_core.specs.{declared.pixel.Pixel.Pixel, Raster.Raster, Raster.IsInside, Raster.value_at}
use Rattle.grid_core.specs.{Rects.IsPart, Rects.in_image}
use Rattle.grid_core.specs.Tiles.{Tiles, count_of, rect_of, tile_of}
use Rattle.tile_work.specs.TileSet.{Has}
use Rattle.tile_work.proofs.TileSets.{is_there}
use Rattle.tiled_image.specs.TiledImage.{IsOfTiling, IsKeptAs}
use Rattle.tiled_image.proofs.{KeptImages.bit_within, KeptImages.part_within, KeptImages.slot_within, Places.in_tile}

-- image and rows change in this tile alone, which then has this part, if one, and this bit says whether it is newer
pub record IsChangedAt (tiling : Tiles) (t : ℕ) (whole rows new_whole new_rows : Raster) (slot : Option Raster)
    (bit : Bool) : Type 0 where
  pub tile : t < count_of tiling
  pub whole_of_tiling : IsOfTiling tiling new_whole
  pub rows_of_tiling : IsOfTiling tiling new_rows
  pub whole_else : (p : Pixel) → IsInside tiling.width tiling.height p → (tile_of tiling p ≡ t → ⊥)
      → value_at new_whole p ≡ value_at whole p
  pub rows_else : (p : Pixel) → IsInside tiling.width tiling.height p → (tile_of tiling p ≡ t → ⊥)
      → value_at new_rows p ≡ value_at rows p
  pub cut : (m : Raster) → slot ≡ Some m → IsPart (rect_of tiling t) new_whole m
  pub has_part : bit ≡ true → slot ≡ None → ⊥
  pub current : bit ≡ false → (p : Pixel) → IsInside tiling.width tiling.height p → tile_of tiling p ≡ t
      → value_at new_rows p ≡ value_at new_whole p

module _ {whole : Raster} {tiling : Tiles} {rows : Raster} {parts : List (Option Raster)} {newer : List Bool} {t : ℕ}
    {new_whole new_rows : Raster} {slot : Option Raster} {bit : Bool} (kept : IsKeptAs whole tiling rows parts newer)
    (change : IsChangedAt tiling t whole rows new_whole new_rows slot bit) where
  slot_here : slice_index_or (set parts t slot) t None ≡ slot
  slot_here = get_or-set_same parts t slot None (slot_within kept t change.tile)

  bit_here : slice_index_or (set newer t bit) t false ≡ bit
  bit_here = get_or-set_same newer t bit false (bit_within kept t change.tile)

  -- the parts of the other tiles are still those of the image
  others_cut : (u : ℕ) (m : Raster) → (u ≡ t → ⊥) → slice_index_or parts u None ≡ Some m
      → IsPart (rect_of tiling u) new_whole m
  others_cut u m other there =
      let rect = rect_of tiling u in
      let was = kept.are_cut.cut u m there in
      let within : u < count_of tiling = subst (λ n. u < n) kept.are_cut.count (part_within parts u m there) in
      record {
        width = was.width;
        height = was.height;
        filled = was.filled;
        values = λ q inside.
            let (in_tiling, own) = in_tile tiling u kept.of_tiling.tiled within q inside in
            was.values q inside
            ∙ sym (change.whole_else (in_image rect q) in_tiling (λ same. other (sym own ∙ same)));
      }

  all_cut : (u : ℕ) (m : Raster) → slice_index_or (set parts t slot) u None ≡ Some m
      → IsPart (rect_of tiling u) new_whole m
  all_cut u m there = elim (cases_eq u t) [
    | inl same ↦
        let here : slice_index_or (set parts t slot) t None ≡ Some m =
        subst (λ n. slice_index_or (set parts t slot) n None ≡ Some m) same there in
        subst (λ n. IsPart (rect_of tiling n) new_whole m) (sym same) (change.cut m (sym slot_here ∙ here))
    | inr other ↦ others_cut u m other (sym (get_or-set_other parts t u slot None other) ∙ there)
  ]

  newer_have_parts : (u : ℕ) → Has (set newer t bit) u → slice_index_or (set parts t slot) u None ≡ None → ⊥
  newer_have_parts u has none = elim (cases_eq u t) [
    | inl same ↦
        let on : slice_index_or (set newer t bit) t false ≡ true =
        subst (λ n. slice_index_or (set newer t bit) n false ≡ true) same has.1 in
        let empty : slice_index_or (set parts t slot) t None ≡ None =
        subst (λ n. slice_index_or (set parts t slot) n None ≡ None) same none in
        change.has_part (sym bit_here ∙ on) (sym slot_here ∙ empty)
    | inr other ↦
        kept.has_part u (is_there newer u (sym (get_or-set_other newer t u bit false other) ∙ has.1))
        (sym (get_or-set_other parts t u slot None other) ∙ none)
  ]

  rows_are_current : (p : Pixel) → IsInside tiling.width tiling.height p
      → (Has (set newer t bit) (tile_of tiling p) → ⊥) → value_at new_rows p ≡ value_at new_whole p
  rows_are_current p inside older = elim (cases_eq (tile_of tiling p) t) [
    | inl same ↦
        let off : bit ≡ false = false_from_ne_true bit (λ on. older (is_there (set newer t bit) (tile_of tiling p)
        (subst (λ n. slice_index_or (set newer t bit) n false ≡ true) (sym same) (bit_here ∙ on)))) in
        change.current off p inside same
    | inr other ↦
        change.rows_else p inside other
        ∙ kept.current p inside (λ has. older (is_there (set newer t bit) (tile_of tiling p)
        (get_or-set_other newer t (tile_of tiling p) bit false other ∙ has.1)))
        ∙ sym (change.whole_else p inside other)
  ]

  pub kept_at : (new_parts : List (Option Raster)) (new_newer : List Bool) → new_parts ≡ set parts t slot
      → new_newer ≡ set newer t bit → IsKeptAs new_whole tiling new_rows new_parts new_newer
  kept_at new_parts new_newer parts_are newer_are =
      let still : IsKeptAs new_whole tiling new_rows (set parts t slot) (set newer t bit) = record {
        of_tiling = change.whole_of_tiling;
        rows_of_tiling = change.rows_of_tiling;
        are_cut = record {
          width = change.whole_of_tiling.width;
          height = change.whole_of_tiling.height;
          count = length-set parts t slot ∙ kept.are_cut.count;
          cut = all_cut;
        };
        count = length-set newer t bit ∙ kept.count;
        has_part = newer_have_parts;
        current = rows_are_current;
      } in
      subst (λ (ps : List (Option Raster)). IsKeptAs new_whole tiling new_rows ps new_newer) (sym parts_are)
      (subst (λ (bits : List Bool). IsKeptAs new_whole tiling new_rows (set parts t slot) bits) (sym newer_are) still)
