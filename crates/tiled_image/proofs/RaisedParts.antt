-- Parts to which tiles are raised: the image is nowhere above them but on the rims of the tiles.
use Rattle.std.proofs.Common.{◌≡◌, ◌<◌, ◌≤◌, ◌⊎◌, ℕ, Bool, true, List, Option, Some, None, set, length, max}
use Rattle.std.proofs.Common.{ap, sym, subst, ◌∙◌, inl, inr, arith, refl, le_of_eq}
use Rattle.std.proofs.lemmas.{Bool.cases_eq, Bool.cases_lt, List.length-set}
use Rattle.std.specs.Prelude.{⊤}
use Rattle.grid_core.specs.{declared.bounds.Bounds.Bounds, declared.pixel.Pixel.Pixel, declared.rect.Rect.Rect}
use Rattle.grid_core.specs.{Bounds.AreEmpty, Rects.IsInRect, Rects.IsPart, Rects.IsPatch}
use Rattle.grid_core.specs.{Raster.Raster, Raster.IsFilled, Raster.IsInside, Raster.value_at, Rects.RectFits}
use Rattle.grid_core.specs.Rects.{in_image}
use Rattle.grid_core.specs.Tiles.{Tiles, count_of, rect_of, tile_of}
use Rattle.grid_core.proofs.Pixels.{same_pixel}
use Rattle.core_rules.specs.Image.{IsJoinedWith}
use Rattle.reset_core.specs.Parts.{AreBoundsAbove}
use Rattle.tile_generations.specs.Rims.{Rim}
use Rattle.tile_work.specs.TileSet.{Has}
use Rattle.tile_work.proofs.TileSets.{put_has}
use Rattle.tiled_image.specs.declared.rims.Edge.{Edge}
use Rattle.tiled_image.specs.RaisedTiles.{IsEdgeAt, IsInner, IsLaidIn, IsShownBut, edge_at, whole_of}
use Rattle.tiled_image.specs.Raising.{AreBoundsOver, IsBelowInside, IsBelowRim, greater_of}
use Rattle.tiled_image.specs.Rims.{AreRimsOf, IsRimChanged, IsRimOf, strip_at}
use Rattle.tiled_image.specs.{Shown.value_in, Sides.HasValues}
use Rattle.tiled_image.specs.{AllKept.IsKeptWithAll, SharedCopies.Copies, SharedCopies.HaveChanged}
use Rattle.tiled_image.specs.TiledImage.{IsOfTiling, TiledRaster, image_of, tiled_raster}
use Rattle.tiled_image.proofs.KeptImages.{inside_image, inside_tiling, still_of_tiling}
use Rattle.tiled_image.proofs.{AllKept.with_all, KeptTiles.is_put, SharedCopies.still_copies}
use Rattle.tiled_image.proofs.LaidRims.{edge_at_is, tile_else, tile_here, tile_of_tiling, whole_is, with_tile}
use Rattle.tiled_image.proofs.Places.{image_in_rect, in_tile, pixel_in_tile, place_of_image, rect_from_tile}
use Rattle.tiled_image.proofs.{Places.tile_from_rect, Places.value_in_part, TileRims.changed_rims}

-- ---- the rim of a rectangle, and what lies inside it

on_edge_or_none : (rect : Rect) (p : Pixel) (at : Option Edge) → IsEdgeAt rect p at
    → ((edge : Edge) × IsInRect (strip_at edge rect) p) ⊎ IsInner rect p
on_edge_or_none rect p None is_inner = inr is_inner
on_edge_or_none rect p (Some edge) there = inl (edge, there)

-- a pixel of a rectangle lies on its rim or not
pub rim_or_inner : (rect : Rect) (p : Pixel) → IsInRect rect p
    → ((edge : Edge) × IsInRect (strip_at edge rect) p) ⊎ IsInner rect p
rim_or_inner rect p inside = on_edge_or_none rect p (edge_at rect p) (edge_at_is rect p inside)

-- a piece's value at a pixel of it
value_of_piece : (rect : Rect) (piece : Raster) (p : Pixel)
    → value_in rect piece (in_image rect p) ≡ value_at piece p
value_of_piece rect piece p = ap (λ (q : Pixel). value_at piece q) (place_of_image rect p)

-- ---- bounds of the pixels of a rim where the image is above

-- the rim of a tile is that of the image that contracts see
pub rim_seen : (now : TiledRaster) (tiling : Tiles) (whole : Raster) (rims : List ℕ) (tile : ℕ)
    → tiled_raster tiling whole ≡ now → AreRimsOf tiling whole rims → tile < count_of tiling
    → IsRimOf now.tiling now.image rims tile
rim_seen now tiling whole rims tile view are within =
    subst (λ (r : TiledRaster). IsRimOf r.tiling r.image rims tile) view (are.values tile within)

-- so are the bounds that were found for it
pub bounds_seen : (now : TiledRaster) (tiling : Tiles) (rims : List ℕ) (tile : ℕ) (rim : Rim) (bounds : Bounds)
    (value : Pixel → ℕ) → tiling ≡ now.tiling → IsRimOf now.tiling now.image rims tile
    → ((image : Raster) (shown : Pixel → ℕ) → IsRimOf tiling image rims tile
    → HasValues (rect_of tiling tile) shown rim → AreBoundsOver (rect_of tiling tile) image shown bounds)
    → HasValues (rect_of now.tiling tile) value rim
    → AreBoundsOver (rect_of now.tiling tile) now.image value bounds
bounds_seen now tiling rims tile rim bounds value is own found has =
    subst (λ (ts : Tiles). IsRimOf ts now.image rims tile → HasValues (rect_of ts tile) value rim
    → AreBoundsOver (rect_of ts tile) now.image value bounds) is (found now.image value) own has

module _ (rect : Rect) (image : Raster) (value : Pixel → ℕ) (bounds : Bounds)
    (over : AreBoundsOver rect image value bounds) where
  -- where there is none, the image is nowhere above on the rim
  none_over : AreEmpty bounds → (edge : Edge) (p : Pixel) → IsInRect (strip_at edge rect) p
      → value_at image p ≤ value p
  none_over empty edge p there = elim (cases_lt (value p) (value_at image p)) [
    | inl above ↦
        let in_bounds = over.above edge p there above in
        elim empty [
          | inl thin ↦ absurd (omega (arith, thin, in_bounds.0, in_bounds.1))
          | inr flat ↦ absurd (omega (arith, flat, in_bounds.2, in_bounds.3))
        ]
    | inr not_above ↦ not_above
  ]

  -- so the values on the rim are the greater ones
  pub greater_on_rim : AreEmpty bounds → (edge : Edge) (p : Pixel) → IsInRect (strip_at edge rect) p
      → value p ≡ greater_of image value p
  greater_on_rim empty edge p there = omega (arith, none_over empty edge p there)

  -- and where it is not above inside either, it is nowhere above
  pub none_above : AreEmpty bounds → IsBelowInside rect image value → (p : Pixel) → IsInRect rect p
      → value_at image p ≤ value p
  none_above empty low p inside = elim (rim_or_inner rect p inside) [
    | inl on_rim ↦ none_over empty on_rim.0 p on_rim.1
    | inr is_inner ↦ low p inside is_inner
  ]

-- they bound all pixels where the image is above a piece, if it is nowhere above it inside
pub bounds_of_rim : (rect : Rect) (image piece : Raster) (bounds : Bounds)
    → AreBoundsOver rect image (value_in rect piece) bounds → IsBelowInside rect image (value_in rect piece)
    → AreBoundsAbove rect rect.h image piece bounds
bounds_of_rim rect image piece bounds over low = record {
  lie = over.lie;
  above = λ p inside high.
      let q = in_image rect p in
      let there = image_in_rect rect p inside in
      let higher = subst (λ v. v < value_at image q) (sym (value_of_piece rect piece p)) high in
      elim (rim_or_inner rect q there) [
        | inl on_rim ↦ over.above on_rim.0 q on_rim.1 higher
        | inr is_inner ↦ absurd (omega (arith, higher, low q there is_inner))
      ];
}

-- ---- a part is put in

-- where the old image is nowhere above the part, it is joined with it then
pub put_joins : (rect : Rect) (part old new : Raster) → IsPart rect new part → IsPatch rect old new
    → ((p : Pixel) → IsInRect rect p → value_at old p ≤ value_in rect part p) → IsJoinedWith rect part old new
put_joins rect part old new is_part patch low = record {
  size = patch.size;
  within = λ p inside.
      let q = in_image rect p in
      let lower = subst (λ v. value_at old q ≤ v) (value_of_piece rect part p)
      (low q (image_in_rect rect p inside)) in
      omega (arith, lower, is_part.values p inside);
  beyond = patch.beyond;
}

-- ---- a part is put in below rims that are raised to its own

module _ (raised : List Bool) {whole : Raster} {tiling : Tiles} {below : Raster} {rims : List ℕ}
    (shown : IsShownBut (Has raised) whole tiling below rims) (t : ℕ) (within : t < count_of tiling)
    (count : length raised ≡ count_of tiling) (part : Raster) where
  -- the whole image afterwards
  abbrev raised_whole : Raster
  raised_whole = with_tile tiling whole t (greater_of whole (value_in (rect_of tiling t) part))

  raised_else : (p : Pixel) → IsInside tiling.width tiling.height p → (tile_of tiling p ≡ t → ⊥)
      → value_at raised_whole p ≡ value_at whole p
  raised_else = tile_else tiling whole shown.of_tiling t (greater_of whole (value_in (rect_of tiling t) part))

  raised_here : (p : Pixel) → IsInside tiling.width tiling.height p → tile_of tiling p ≡ t
      → value_at raised_whole p ≡ greater_of whole (value_in (rect_of tiling t) part) p
  raised_here = tile_here tiling whole shown.of_tiling t (greater_of whole (value_in (rect_of tiling t) part))

  -- the raised rims are its own
  raised_rims : (new_rims : List ℕ)
      → IsRimChanged tiling t (λ _. ⊤) (greater_of whole (value_in (rect_of tiling t) part)) rims new_rims
      → AreRimsOf tiling raised_whole new_rims
  raised_rims new_rims changed =
      changed_rims tiling shown.of_tiling.tiled t within (λ _. ⊤)
      (greater_of whole (value_in (rect_of tiling t) part)) rims new_rims changed whole raised_whole shown.rims_are
      (λ p. inl tt)
      (λ p in_rect holds.
      let (inside, own) = pixel_in_tile tiling t shown.of_tiling.tiled within p in_rect in
      sym (raised_here p inside own))
      (λ p inside other. raised_else p inside (λ own. other own tt))

  -- it is the old one joined with the part
  raised_joined : IsJoinedWith (rect_of tiling t) part whole raised_whole
  raised_joined = record {
    size = record {
      width = refl;
      height = refl;
      filled =
          let value = greater_of whole (value_in (rect_of tiling t) part) in
          (tile_of_tiling tiling whole shown.of_tiling t value).sized.filled;
    };
    within = λ p inside.
        let rect = rect_of tiling t in
        let (in_tiling, own) = in_tile tiling t shown.of_tiling.tiled within p inside in
        raised_here (in_image rect p) in_tiling own
        ∙ ap (λ v. max (value_at whole (in_image rect p)) v) (value_of_piece rect part p);
    beyond = λ p there outside.
        let inside = inside_tiling tiling whole shown.of_tiling p there in
        raised_else p inside (λ own. outside (rect_from_tile tiling t shown.of_tiling.tiled within p inside own));
  }

  module _ (new_below : Raster) (is_part : IsPart (rect_of tiling t) new_below part)
      (patch : IsPatch (rect_of tiling t) below new_below)
      (low : IsBelowInside (rect_of tiling t) whole (value_in (rect_of tiling t) part)) where
    inner_here : (p : Pixel) → IsInside tiling.width tiling.height p → tile_of tiling p ≡ t
        → IsInner (rect_of tiling t) p → value_at new_below p ≡ value_at raised_whole p
    inner_here p inside own is_inner =
        let there = rect_from_tile tiling t shown.of_tiling.tiled within p inside own in
        omega (
          arith,
          low p there is_inner,
          value_in_part (rect_of tiling t) new_below part is_part p there,
          raised_here p inside own,
        )

    below_else : (p : Pixel) → IsInside tiling.width tiling.height p → (tile_of tiling p ≡ t → ⊥)
        → value_at below p ≡ value_at whole p → value_at new_below p ≡ value_at raised_whole p
    below_else p inside other same =
        patch.beyond p (inside_image tiling below shown.below_of_tiling p inside)
        (λ in_rect. other (tile_from_rect tiling t shown.of_tiling.tiled within p inside in_rect))
        ∙ same ∙ sym (raised_else p inside other)

    raised_shown : (new_rims : List ℕ)
        → AreRimsOf tiling raised_whole new_rims
        → (new : List Bool) → new ≡ set raised t true
        → IsShownBut (Has new) raised_whole tiling new_below new_rims
    raised_shown new_rims rims_are new new_is = record {
      of_tiling = tile_of_tiling tiling whole shown.of_tiling t (greater_of whole (value_in (rect_of tiling t) part));
      below_of_tiling = still_of_tiling tiling below shown.below_of_tiling new_below patch.size;
      rims_are = rims_are;
      inner = λ p inside is_inner. elim (cases_eq (tile_of tiling p) t) [
        | inl own ↦ inner_here p inside own (subst (λ n. IsInner (rect_of tiling n) p) own is_inner)
        | inr other ↦ below_else p inside other (shown.inner p inside is_inner)
      ];
      settled = λ p inside spared.
          let bit : t < length raised = subst (λ n. t < n) (sym count) within in
          let gained = λ (held : Has (set raised t true) (tile_of tiling p)).
          spared (subst (λ (bits : List Bool). Has bits (tile_of tiling p)) (sym new_is) held) in
          elim (cases_eq (tile_of tiling p) t) [
            | inl own ↦ absurd (gained ((put_has raised t bit (tile_of tiling p)).1 (inr own)))
            | inr other ↦
                below_else p inside other (shown.settled p inside (λ had.
                gained ((put_has raised t bit (tile_of tiling p)).1 (inl had))))
          ];
    }

-- all that is kept is kept still, and the whole image is joined with the part
pub record IsRaisedIn (tiling : Tiles) (t : ℕ) (part whole rows : Raster) (parts : List (Option Raster))
    (newer : List Bool) (copies : Copies) (raised : List Bool) (rims : List ℕ) : Type 0 where
  pub kept : IsKeptWithAll tiling rows parts newer copies raised rims
  pub joined : IsJoinedWith (rect_of tiling t) part whole (whole_of tiling rows parts newer rims)

pub raised_in : (tiling : Tiles) (t : ℕ) (part rows : Raster) (parts new_parts : List (Option Raster))
    (newer new_newer : List Bool) (copies new_copies : Copies) (raised new_raised : List Bool) (rims new_rims : List ℕ)
    → IsKeptWithAll tiling rows parts newer copies raised rims → t < count_of tiling
    → part.width ≡ (rect_of tiling t).w → part.height ≡ (rect_of tiling t).h → IsFilled part
    → IsBelowInside (rect_of tiling t) (whole_of tiling rows parts newer rims) (value_in (rect_of tiling t) part)
    → new_parts ≡ set parts t (Some part) → new_newer ≡ set newer t true → HaveChanged (λ u. u ≡ t) copies new_copies
    → new_raised ≡ set raised t true
    → IsRimChanged tiling t (λ _. ⊤)
    (greater_of (whole_of tiling rows parts newer rims) (value_in (rect_of tiling t) part)) rims new_rims
    → IsRaisedIn tiling t part (whole_of tiling rows parts newer rims) rows new_parts new_newer new_copies new_raised
    new_rims
raised_in tiling t part rows parts new_parts newer new_newer copies new_copies raised new_raised rims new_rims all
    within width height filled low parts_are newer_are copies_are raised_are rims_are =
    let whole = whole_of tiling rows parts newer rims in
    let shown = all.shown in
    let done = is_put all.kept t within part width height filled new_parts new_newer parts_are newer_are in
    let after = with_tile tiling whole t (greater_of whole (value_in (rect_of tiling t) part)) in
    let new_shown =
    raised_shown raised shown t within all.count part (image_of tiling rows new_parts new_newer) done.is_part done.patch
    low new_rims (raised_rims raised shown t within all.count part new_rims rims_are) new_raised raised_are in
    record {
      kept =
          with_all new_raised done.kept new_shown (ap length raised_are ∙ length-set raised t true ∙ all.count)
          (still_copies all.copies_are new_copies (λ u. u ≡ t) copies_are after
          (raised_else raised shown t within all.count part));
      joined =
          subst (λ (r : Raster). IsJoinedWith (rect_of tiling t) part whole r) (sym (whole_is done.kept new_shown))
          (raised_joined raised shown t within all.count part);
    }

-- ---- a piece that is the image but on the rim

-- a part of a part is one of the whole image
pub part_of_part : (rect : Rect) (whole part piece : Raster) → IsPart rect whole part
    → IsPart (record rect { x = 0; y = 0 }) part piece → IsPart rect whole piece
part_of_part rect whole part piece is_part same = record {
  width = same.width;
  height = same.height;
  filled = same.filled;
  values = λ p inside.
      same.values p inside
      ∙ ap (λ (q : Pixel). value_at part q)
      (same_pixel (in_image (record rect { x = 0; y = 0 }) p) p (omega arith) (omega arith))
      ∙ is_part.values p inside;
}

pub all_of_part : (rect : Rect) (whole part : Raster) → IsPart rect whole part → 0 < rect.w → 0 < rect.h
    → RectFits part.width part.height (record rect { x = 0; y = 0 })
all_of_part rect whole part is_part some_width some_height = record {
  some_width = some_width;
  some_height = some_height;
  columns = omega (arith, is_part.width);
  rows = omega (arith, is_part.height);
}

-- a tile's part in the image below is the whole one's but on the rim, where it may be below that
pub below_rim : (tiling : Tiles) (t : ℕ) (whole below : Raster) (rims : List ℕ) (piece : Raster)
    → IsOfTiling tiling whole → t < count_of tiling → IsLaidIn t whole tiling below rims
    → IsPart (rect_of tiling t) below piece
    → ((edge : Edge) (p : Pixel) → IsInRect (strip_at edge (rect_of tiling t)) p
    → value_in (rect_of tiling t) piece p ≤ value_at whole p)
    → IsBelowRim (rect_of tiling t) whole piece
below_rim tiling t whole below rims piece of_tiling within laid is_part rim_low =
    let rect = rect_of tiling t in
    let same : (p : Pixel) → IsInRect rect p → IsInner rect p → value_at whole p ≡ value_in rect piece p =
    λ p there is_inner.
    let (inside, own) = pixel_in_tile tiling t of_tiling.tiled within p there in
    sym (value_in_part rect below piece is_part p there ∙ laid.inner p inside own is_inner) in
    record {
      at_most = record {
        width = is_part.width;
        height = is_part.height;
        filled = is_part.filled;
        values = λ p inside.
            let q = in_image rect p in
            let there = image_in_rect rect p inside in
            subst (λ v. v ≤ value_at whole q) (value_of_piece rect piece p) (elim (rim_or_inner rect q there) [
              | inl on_rim ↦ rim_low on_rim.0 q on_rim.1
              | inr is_inner ↦ le_of_eq (sym (same q there is_inner))
            ]);
      };
      inner = same;
    }
