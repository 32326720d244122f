-- Masks of tiles, some of which were cut out.
use Rattle.std.proofs.Common.{◌≡◌, ℕ, ◌<◌, inl, inr, List, Option, Some, None, map, length, set, sym, ◌∙◌, ap, subst}
use Rattle.std.proofs.Common.{slice_index_or}
use Rattle.std.proofs.lemmas.Bool.{cases_eq}
use Rattle.std.proofs.lemmas.List.{get_or-map, get_or-set_same, get_or-set_other, length-map, length-set, map-set}
use Rattle.std.specs.{Arc.arc_value, declared.sync.Arc.Arc}
use Rattle.grid_core.specs.{Raster.Raster, Rects.IsPart, Tiles.Tiles, Tiles.count_of, Tiles.rect_of}
use Rattle.tile_generations.specs.CutMasks.{AreTileMasks, cut_mask}

-- the mask at a place, as contracts see it
pub cut_at : {Z : Type 0} (tiles : List (Option (Arc Raster Z))) (masks : List (Option Raster)) (t : ℕ)
    (kept : Option (Arc Raster Z)) → map cut_mask tiles ≡ masks → t < length masks
    → kept ≡ slice_index_or tiles t kept → slice_index_or masks t None ≡ cut_mask kept
cut_at tiles masks t kept view lt at =
    let within = subst (λ n. t < n) (length-map tiles cut_mask) (subst (λ l. t < length l) (sym view) lt) in
    ap (λ l. slice_index_or l t None) (sym view) ∙ get_or-map cut_mask tiles t kept None within ∙ ap cut_mask (sym at)

same_mask : (a b : Raster) → Some a ≡ Some b → a ≡ b
same_mask a b h = cc

-- a mask more is cut out
cut_more : (whole : Raster) (tiling : Tiles) (masks : List (Option Raster)) (t : ℕ) (mask : Raster)
    → AreTileMasks whole tiling masks → t < count_of tiling → IsPart (rect_of tiling t) whole mask
    → AreTileMasks whole tiling (set masks t (Some mask))
cut_more whole tiling masks t mask are lt part = record {
  width = are.width;
  height = are.height;
  count = length-set masks t (Some mask) ∙ are.count;
  cut = λ u other there. elim (cases_eq u t) [
    | inl same ↦
        let here = get_or-set_same masks t (Some mask) None (subst (λ n. t < n) (sym are.count) lt) in
        let found = subst (λ n. slice_index_or (set masks t (Some mask)) n None ≡ Some other) same there in
        subst (λ n. IsPart (rect_of tiling n) whole other) (sym same)
        (subst (IsPart (rect_of tiling t) whole) (same_mask mask other (sym here ∙ found)) part)
    | inr apart ↦ are.cut u other (sym (get_or-set_other masks t u (Some mask) None apart) ∙ there)
  ];
}

-- and the table as it is stored has it
pub stored_more : {Z : Type 0} (tiles : List (Option (Arc Raster Z))) (masks : List (Option Raster)) (whole : Raster)
    (tiling : Tiles) (t : ℕ) (mask : Arc Raster Z) → map cut_mask tiles ≡ masks → AreTileMasks whole tiling masks
    → t < count_of tiling → IsPart (rect_of tiling t) whole (arc_value mask)
    → AreTileMasks whole tiling (map cut_mask (set tiles t (Some mask)))
stored_more tiles masks whole tiling t mask view are lt part =
    subst (AreTileMasks whole tiling)
    (sym (map-set cut_mask tiles t (Some mask) ∙ ap (λ l. set l t (Some (arc_value mask))) view))
    (cut_more whole tiling masks t (arc_value mask) are lt part)
