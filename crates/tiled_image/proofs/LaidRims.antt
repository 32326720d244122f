-- The rims of tiles, laid over an image: which image is shown then, and what becomes of it.
use Rattle.std.proofs.Common.{◌≡◌, ◌-◌, ◌+◌, ◌<◌, ℕ, zero, suc, Bool, false, true, List, Option, Some, None, set}
use Rattle.std.proofs.Common.{length, ap, sym, subst, ◌∙◌, inl, inr, arith, refl, if◌then◌else◌}
use Rattle.std.proofs.lemmas.Bool.{cases_eq, eq-eqb, ne_eqb}
use Rattle.std.specs.Prelude.{◌==◌}
use Rattle.grid_core.specs.{declared.pixel.Pixel.Pixel, declared.rect.Rect.Rect, Rects.IsInRect, Rects.IsPart}
use Rattle.grid_core.specs.Raster.{Raster, IsInside, value_at, with_value}
use Rattle.grid_core.specs.Rects.{IsPatch, in_image}
use Rattle.grid_core.specs.Tiles.{Tiles, count_of, rect_of, tile_of}
use Rattle.grid_core.proofs.{Cells.equal_images, Cells.set_keeps_others}
use Rattle.tile_work.specs.TileSet.{Has}
use Rattle.tile_work.proofs.TileSets.{put_has, taken_has}
use Rattle.tiled_image.specs.declared.rims.Edge.{Edge}
use Rattle.tiled_image.specs.declared.rims.Edge.TheVariants as edges
use Rattle.tiled_image.specs.RaisedTiles.{IsEdgeAt, IsInner, IsLaidIn, IsShownBut, edge_at, edge_by, shown_of, value_on}
use Rattle.tiled_image.specs.RaisedTiles.{whole_of}
use Rattle.tiled_image.specs.Rims.{AreRimsOf, strip_at, strip_of}
use Rattle.tiled_image.specs.{SharedCopies.IsTileCopied, Shown.Shows, Shown.value_in}
use Rattle.tiled_image.specs.TiledImage.{IsKeptAs, IsOfTiling, raster_of}
use Rattle.tiled_image.proofs.KeptImages.{image_is, inside_image, inside_tiling, still_of_tiling}
use Rattle.tiled_image.proofs.{KeptPixels.set_alike, KeptPixels.set_keeps_size, Rasters.is_raster_of}
use Rattle.tiled_image.proofs.Rasters.{raster_of-filled, value_at-raster_of}
use Rattle.tiled_image.proofs.Places.{in_tile, pixel_in_tile, place_of_image, rect_from_tile, tile_from_rect}
use Rattle.tiled_image.proofs.Places.{tile_within, value_in_part}
use Rattle.tiled_image.proofs.Strips.{pixel_of_strip}

-- ---- the edge at which a pixel lies

no_edge : (rect : Rect) (p : Pixel) (a b c d : ℕ) → suc a ≡ p.y - rect.y → suc b ≡ rect.y + rect.h - 1 - p.y
    → suc c ≡ p.x - rect.x → suc d ≡ rect.x + rect.w - 1 - p.x → (edge : Edge) → IsInRect (strip_at edge rect) p → ⊥
no_edge rect p a b c d above under left right edges.Top inside = omega (arith, above, inside.2, inside.3)
no_edge rect p a b c d above under left right edges.Bottom inside = omega (arith, under, inside.2, inside.3)
no_edge rect p a b c d above under left right edges.Left inside = omega (arith, left, inside.0, inside.1)
no_edge rect p a b c d above under left right edges.Right inside = omega (arith, right, inside.0, inside.1)

edge_by_is : (rect : Rect) (p : Pixel) → IsInRect rect p → (a b c d : ℕ) → a ≡ p.y - rect.y
    → b ≡ rect.y + rect.h - 1 - p.y → c ≡ p.x - rect.x → d ≡ rect.x + rect.w - 1 - p.x
    → IsEdgeAt rect p (edge_by a b c d)
edge_by_is rect p inside zero b c d above under left right =
    (inside.0, inside.1, inside.2, omega (arith, above, inside.2))
edge_by_is rect p inside (suc a) zero c d above under left right =
    (inside.0, inside.1, omega (arith, under, inside.3), omega (arith, inside.3))
edge_by_is rect p inside (suc a) (suc b) zero d above under left right =
    (inside.0, omega (arith, left, inside.0), inside.2, inside.3)
edge_by_is rect p inside (suc a) (suc b) (suc c) zero above under left right =
    (omega (arith, right, inside.1), omega (arith, inside.1), inside.2, inside.3)
edge_by_is rect p inside (suc a) (suc b) (suc c) (suc d) above under left right =
    no_edge rect p a b c d above under left right

pub edge_at_is : (rect : Rect) (p : Pixel) → IsInRect rect p → IsEdgeAt rect p (edge_at rect p)
edge_at_is rect p inside =
    edge_by_is rect p inside (p.y - rect.y) (rect.y + rect.h - 1 - p.y) (p.x - rect.x) (rect.x + rect.w - 1 - p.x) refl
    refl refl refl

-- ---- one tile of another image

-- the image with these values in one tile
abbrev pub with_tile : Tiles → Raster → ℕ → (Pixel → ℕ) → Raster
with_tile tiling image t value =
    raster_of image.width image.height (λ p. if tile_of tiling p == t then value p else value_at image p)

module _ (tiling : Tiles) (image : Raster) (of_tiling : IsOfTiling tiling image) (t : ℕ) (value : Pixel → ℕ) where
  pub tile_of_tiling : IsOfTiling tiling (with_tile tiling image t value)
  tile_of_tiling = still_of_tiling tiling image of_tiling (with_tile tiling image t value) (record {
    width = refl;
    height = refl;
    filled = raster_of-filled image.width image.height
        (λ p. if tile_of tiling p == t then value p else value_at image p);
  })

  read : (p : Pixel) → IsInside tiling.width tiling.height p
      → value_at (with_tile tiling image t value) p ≡ (if tile_of tiling p == t then value p else value_at image p)
  read p inside =
      value_at-raster_of image.width image.height
      (λ q. if tile_of tiling q == t then value q else value_at image q) p
      (inside_image tiling image of_tiling p inside)

  pub tile_here : (p : Pixel) → IsInside tiling.width tiling.height p → tile_of tiling p ≡ t
      → value_at (with_tile tiling image t value) p ≡ value p
  tile_here p inside same =
      read p inside ∙ ap (λ b. if b then value p else value_at image p) (eq-eqb (tile_of tiling p) t same)

  pub tile_else : (p : Pixel) → IsInside tiling.width tiling.height p → (tile_of tiling p ≡ t → ⊥)
      → value_at (with_tile tiling image t value) p ≡ value_at image p
  tile_else p inside other =
      read p inside ∙ ap (λ b. if b then value p else value_at image p) (ne_eqb (tile_of tiling p) t other)

-- ---- which image is shown

module _ {P : ℕ → Type 0} {whole : Raster} {tiling : Tiles} {below : Raster} {rims : List ℕ}
    (shown : IsShownBut P whole tiling below rims) where
  value_on_is : (p : Pixel) → IsInside tiling.width tiling.height p → (at : Option Edge)
      → IsEdgeAt (rect_of tiling (tile_of tiling p)) p at
      → value_on tiling below rims (tile_of tiling p) p at ≡ value_at whole p
  value_on_is p inside None is_inner = shown.inner p inside is_inner
  value_on_is p inside (Some edge) in_strip =
      shown.rims_are.values (tile_of tiling p) (tile_within tiling p shown.of_tiling.tiled inside) edge p in_strip

  own_rect : (p : Pixel) → IsInside tiling.width tiling.height p → IsInRect (rect_of tiling (tile_of tiling p)) p
  own_rect p inside =
      let tiled = shown.of_tiling.tiled in
      rect_from_tile tiling (tile_of tiling p) tiled (tile_within tiling p tiled inside) p inside refl

  pub shown_is : shown_of tiling below rims ≡ whole
  shown_is =
      is_raster_of below.width below.height
      (λ p. value_on tiling below rims (tile_of tiling p) p (edge_at (rect_of tiling (tile_of tiling p)) p)) whole
      shown.of_tiling.sized.filled
      (shown.of_tiling.width ∙ sym shown.below_of_tiling.width)
      (shown.of_tiling.height ∙ sym shown.below_of_tiling.height)
      (λ p there.
      let inside = inside_tiling tiling below shown.below_of_tiling p there in
      value_on_is p inside (edge_at (rect_of tiling (tile_of tiling p)) p)
      (edge_at_is (rect_of tiling (tile_of tiling p)) p (own_rect p inside)))

  pub is_shown : IsShownBut P (shown_of tiling below rims) tiling below rims
  is_shown = subst (λ (r : Raster). IsShownBut P r tiling below rims) (sym shown_is) shown

  -- where nothing is raised, the image below is the whole one
  pub none_raised : ((t : ℕ) → P t → ⊥) → below ≡ whole
  none_raised none =
      equal_images below whole shown.below_of_tiling.sized.filled shown.of_tiling.sized.filled
      (shown.below_of_tiling.width ∙ sym shown.of_tiling.width)
      (shown.below_of_tiling.height ∙ sym shown.of_tiling.height)
      (λ p there. shown.settled p (inside_tiling tiling below shown.below_of_tiling p there) (none (tile_of tiling p)))

  -- a tile of it
  pub laid_in : (t : ℕ) → IsLaidIn t whole tiling below rims
  laid_in t = record {
    below_of_tiling = shown.below_of_tiling;
    rims_are = shown.rims_are;
    inner = λ p inside own is_inner.
        shown.inner p inside (subst (λ n. IsInner (rect_of tiling n) p) (sym own) is_inner);
  }

  -- a tile that is not raised has the whole image's values
  pub settled_part : (t : ℕ) → t < count_of tiling → (P t → ⊥) → (m : Raster) → IsPart (rect_of tiling t) below m
      → IsPart (rect_of tiling t) whole m
  settled_part t within spared m is_part = record {
    width = is_part.width;
    height = is_part.height;
    filled = is_part.filled;
    values = λ q inside.
        let (in_tiling, own) = in_tile tiling t shown.of_tiling.tiled within q inside in
        is_part.values q inside
        ∙ shown.settled (in_image (rect_of tiling t) q) in_tiling (λ had. spared (subst P own had));
  }

  -- so what shows it below shows the whole image's values
  pub settled_shows : (t : ℕ) → t < count_of tiling → (P t → ⊥) → (source : Raster) (at : Rect)
      → Shows (rect_of tiling t) below source at → Shows (rect_of tiling t) whole source at
  settled_shows t within spared source at shows = record {
    width = shows.width;
    height = shows.height;
    lies = shows.lies;
    values = λ p in_rect.
        let (inside, own) = pixel_in_tile tiling t shown.of_tiling.tiled within p in_rect in
        shows.values p in_rect ∙ shown.settled p inside (λ had. spared (subst P own had));
  }

  -- the image below gets the whole one's values in a tile
  pub tile_folded : (Q : ℕ → Type 0) (t : ℕ) (new : Raster) → IsTileCopied whole tiling t below new
      → ((u : ℕ) → P u → (u ≡ t → ⊥) → Q u) → IsShownBut Q whole tiling new rims
  tile_folded Q t new copied less = record {
    of_tiling = shown.of_tiling;
    below_of_tiling = copied.of_tiling;
    rims_are = shown.rims_are;
    inner = λ p inside is_inner. elim (cases_eq (tile_of tiling p) t) [
      | inl same ↦ copied.here p inside same
      | inr other ↦ copied.others p inside other ∙ shown.inner p inside is_inner
    ];
    settled = λ p inside spared. elim (cases_eq (tile_of tiling p) t) [
      | inl same ↦ copied.here p inside same
      | inr other ↦
          copied.others p inside other
          ∙ shown.settled p inside (λ had. spared (less (tile_of tiling p) had other))
    ];
  }

-- an image of which these are the rims is shown over itself
pub plainly_shown : (P : ℕ → Type 0) (tiling : Tiles) (whole : Raster) (rims : List ℕ) → IsOfTiling tiling whole
    → AreRimsOf tiling whole rims → IsShownBut P whole tiling whole rims
plainly_shown P tiling whole rims of_tiling are = record {
  of_tiling = of_tiling;
  below_of_tiling = of_tiling;
  rims_are = are;
  inner = λ p inside is_inner. refl;
  settled = λ p inside spared. refl;
}

-- the whole image, of which the one below is kept
pub whole_is : {P : ℕ → Type 0} {whole below : Raster} {tiling : Tiles} {rows : Raster} {parts : List (Option Raster)}
    → {newer : List Bool} {rims : List ℕ} → IsKeptAs below tiling rows parts newer
    → IsShownBut P whole tiling below rims → whole_of tiling rows parts newer rims ≡ whole
whole_is {P} {whole} {below} {tiling} {rows} {parts} {newer} {rims} kept shown =
    ap (λ (r : Raster). shown_of tiling r rims) (image_is kept) ∙ shown_is shown

-- ---- a pixel gets another value

module _ (raised : List Bool) {whole : Raster} {tiling : Tiles} {below : Raster} {rims new_rims : List ℕ}
    (shown : IsShownBut (Has raised) whole tiling below rims) (t : ℕ) (within : t < count_of tiling)
    (count : length raised ≡ count_of tiling) (p : Pixel) (v : ℕ) (inside : IsInside tiling.width tiling.height p)
    (own : tile_of tiling p ≡ t) (rims_are : AreRimsOf tiling (with_value whole p v) new_rims) where
  set_whole_of_tiling : IsOfTiling tiling (with_value whole p v)
  set_whole_of_tiling =
      still_of_tiling tiling whole shown.of_tiling (with_value whole p v)
      (set_keeps_size whole p v shown.of_tiling.sized.filled)

  others_stay : (q : Pixel) → IsInside tiling.width tiling.height q → (q ≡ p → ⊥)
      → value_at whole q ≡ value_at (with_value whole p v) q
  others_stay q in_tiling other =
      sym (set_keeps_others whole p q v (inside_image tiling whole shown.of_tiling p inside)
      (inside_image tiling whole shown.of_tiling q in_tiling) other)

  bit : t < length raised
  bit = subst (λ n. t < n) (sym count) within

  -- on the rim of its tile: it is written there alone, and the tile is raised
  pub rim_set : (edge : Edge) → IsInRect (strip_of tiling t edge) p → (new : List Bool) → new ≡ set raised t true
      → IsShownBut (Has new) (with_value whole p v) tiling below new_rims
  rim_set edge in_strip new new_is = record {
    of_tiling = set_whole_of_tiling;
    below_of_tiling = shown.below_of_tiling;
    rims_are = rims_are;
    inner = λ q in_tiling is_inner.
        shown.inner q in_tiling is_inner
        ∙ others_stay q in_tiling (λ same.
        is_inner edge (subst (λ (r : Pixel). IsInRect (strip_of tiling (tile_of tiling r) edge) r) (sym same)
        (subst (λ n. IsInRect (strip_of tiling n edge) p) (sym own) in_strip)));
    settled = λ q in_tiling spared.
        let gained = λ (held : Has (set raised t true) (tile_of tiling q)).
        spared (subst (λ (bits : List Bool). Has bits (tile_of tiling q)) (sym new_is) held) in
        shown.settled q in_tiling (λ had. gained ((put_has raised t bit (tile_of tiling q)).1 (inl had)))
        ∙ others_stay q in_tiling (λ same.
        gained ((put_has raised t bit (tile_of tiling q)).1 (inr (ap (tile_of tiling) same ∙ own))));
  }

  -- elsewhere: it is written into what lies below
  set_both : (q : Pixel) → IsInside tiling.width tiling.height q → value_at below q ≡ value_at whole q
      → value_at (with_value below p v) q ≡ value_at (with_value whole p v) q
  set_both q in_tiling same =
      set_alike below whole p q v shown.below_of_tiling.sized.filled shown.of_tiling.sized.filled
      (inside_image tiling below shown.below_of_tiling p inside) (inside_image tiling whole shown.of_tiling p inside)
      (inside_image tiling below shown.below_of_tiling q in_tiling)
      (inside_image tiling whole shown.of_tiling q in_tiling) same

  pub inner_set : IsShownBut (Has raised) (with_value whole p v) tiling (with_value below p v) new_rims
  inner_set = record {
    of_tiling = set_whole_of_tiling;
    below_of_tiling =
        still_of_tiling tiling below shown.below_of_tiling (with_value below p v)
        (set_keeps_size below p v shown.below_of_tiling.sized.filled);
    rims_are = rims_are;
    inner = λ q in_tiling is_inner. set_both q in_tiling (shown.inner q in_tiling is_inner);
    settled = λ q in_tiling spared. set_both q in_tiling (shown.settled q in_tiling spared);
  }

-- the rims stay where a pixel off the rim of its tile gets another value
pub inner_rims : (tiling : Tiles) (whole : Raster) (rims : List ℕ) (t : ℕ) (p : Pixel) (v : ℕ)
    → IsOfTiling tiling whole → AreRimsOf tiling whole rims → IsInside tiling.width tiling.height p
    → tile_of tiling p ≡ t → IsInner (rect_of tiling t) p → AreRimsOf tiling (with_value whole p v) rims
inner_rims tiling whole rims t p v of_tiling are inside own is_inner = record {
  count = are.count;
  values = λ u in_u edge q in_strip.
      let (in_tiling, of_u) = pixel_of_strip tiling u of_tiling.tiled in_u edge q in_strip in
      are.values u in_u edge q in_strip
      ∙ sym (set_keeps_others whole p q v (inside_image tiling whole of_tiling p inside)
      (inside_image tiling whole of_tiling q in_tiling) (λ same.
      let u_is : u ≡ t = sym of_u ∙ ap (tile_of tiling) same ∙ own in
      is_inner edge (subst (λ n. IsInRect (strip_of tiling n edge) p) u_is
      (subst (λ (r : Pixel). IsInRect (strip_of tiling u edge) r) same in_strip))));
}

-- ---- a part is put in

module _ (raised : List Bool) {whole : Raster} {tiling : Tiles} {below : Raster} {rims : List ℕ}
    (shown : IsShownBut (Has raised) whole tiling below rims) (t : ℕ) (within : t < count_of tiling)
    (count : length raised ≡ count_of tiling) (part new_below : Raster)
    (is_part : IsPart (rect_of tiling t) new_below part) (patch : IsPatch (rect_of tiling t) below new_below) where
  -- the whole image afterwards
  abbrev put_whole : Raster
  put_whole = with_tile tiling whole t (value_in (rect_of tiling t) part)

  pub put_else : (p : Pixel) → IsInside tiling.width tiling.height p → (tile_of tiling p ≡ t → ⊥)
      → value_at (with_tile tiling whole t (value_in (rect_of tiling t) part)) p ≡ value_at whole p
  put_else = tile_else tiling whole shown.of_tiling t (value_in (rect_of tiling t) part)

  new_here : (p : Pixel) → IsInside tiling.width tiling.height p → tile_of tiling p ≡ t
      → value_at new_below p ≡ value_at put_whole p
  new_here p inside own =
      sym (value_in_part (rect_of tiling t) new_below part is_part p
      (rect_from_tile tiling t shown.of_tiling.tiled within p inside own))
      ∙ sym (tile_here tiling whole shown.of_tiling t (value_in (rect_of tiling t) part) p inside own)

  new_else : (p : Pixel) → IsInside tiling.width tiling.height p → (tile_of tiling p ≡ t → ⊥)
      → value_at below p ≡ value_at whole p → value_at new_below p ≡ value_at put_whole p
  new_else p inside other same =
      patch.beyond p (inside_image tiling below shown.below_of_tiling p inside)
      (λ in_rect. other (tile_from_rect tiling t shown.of_tiling.tiled within p inside in_rect))
      ∙ same ∙ sym (put_else p inside other)

  pub put_shown : (new_rims : List ℕ)
      → AreRimsOf tiling (with_tile tiling whole t (value_in (rect_of tiling t) part)) new_rims
      → (new : List Bool) → new ≡ set raised t false
      → IsShownBut (Has new) (with_tile tiling whole t (value_in (rect_of tiling t) part)) tiling new_below new_rims
  put_shown new_rims rims_are new new_is = record {
    of_tiling = tile_of_tiling tiling whole shown.of_tiling t (value_in (rect_of tiling t) part);
    below_of_tiling = still_of_tiling tiling below shown.below_of_tiling new_below patch.size;
    rims_are = rims_are;
    inner = λ p inside is_inner. elim (cases_eq (tile_of tiling p) t) [
      | inl own ↦ new_here p inside own
      | inr other ↦ new_else p inside other (shown.inner p inside is_inner)
    ];
    settled = λ p inside spared. elim (cases_eq (tile_of tiling p) t) [
      | inl own ↦ new_here p inside own
      | inr other ↦
          new_else p inside other (shown.settled p inside (λ had.
          spared (subst (λ (bits : List Bool). Has bits (tile_of tiling p)) (sym new_is)
          ((taken_has raised t (subst (λ n. t < n) (sym count) within) (tile_of tiling p)).1 (had, other)))))
    ];
  }

  pub put_whole_part : IsPart (rect_of tiling t) (with_tile tiling whole t (value_in (rect_of tiling t) part)) part
  put_whole_part = record {
    width = is_part.width;
    height = is_part.height;
    filled = is_part.filled;
    values = λ q inside.
        let rect = rect_of tiling t in
        let (in_tiling, own) = in_tile tiling t shown.of_tiling.tiled within q inside in
        sym (tile_here tiling whole shown.of_tiling t (value_in rect part) (in_image rect q) in_tiling own
        ∙ ap (λ (r : Pixel). value_at part r) (place_of_image rect q));
  }

  pub put_whole_patch : IsPatch (rect_of tiling t) whole
      (with_tile tiling whole t (value_in (rect_of tiling t) part))
  put_whole_patch = record {
    size = record {
      width = refl;
      height = refl;
      filled = (tile_of_tiling tiling whole shown.of_tiling t (value_in (rect_of tiling t) part)).sized.filled;
    };
    beyond = λ p there outside.
        let inside = inside_tiling tiling whole shown.of_tiling p there in
        put_else p inside
        (λ own. outside (rect_from_tile tiling t shown.of_tiling.tiled within p inside own));
  }
