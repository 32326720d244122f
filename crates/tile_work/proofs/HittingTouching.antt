-- The tiles that are linked with a tile are among those that touch it.
use Rattle.std.proofs.Common.{◌≡◌, ℕ, ◌+◌, ◌<◌, ◌≤◌, ◌⊎◌, inl, inr, Bool, List, length, get_or, ap, sym, ◌∙◌, subst}
use Rattle.std.proofs.Common.{arith, ◌↔◌, Contains}
use Rattle.std.proofs.{lemmas.Bool.cases_eq, lemmas.Grind.get_or_default_zero, lemmas.List.Elements.Contains-get_or}
use Rattle.grid_core.specs.{declared.conn.Conn.Conn, declared.pixel.Pixel.Pixel, declared.rect.Rect.Rect, Raster.Raster}
use Rattle.grid_core.specs.{Raster.value_at, Raster.IsInside, Rects.IsInRect, Rects.RectFits}
use Rattle.grid_core.specs.{TileLaws.EachPixelInOneTile, TileLaws.NeighboursLieInTouchingTiles}
use Rattle.grid_core.specs.Tiles.{Tiles, IsTiled, AreTouching, tile_of, count_of, rect_of}
use Rattle.tile_work.specs.{TileSet.Has, Marks.Adds, Marks.SomeIn, Marks.IsLightBeside, Marks.IsLinkedInto}
use Rattle.core_rules.specs.Hits.{HoldsOne, AreLinked}
use Rattle.tile_work.proofs.HittingMarks.{adds_more}

-- the tile is one of the first of these, and linked
abbrev pub AreAmong : List ℕ → ℕ → (ℕ → Type 0) → ℕ → Type 0
AreAmong items n linked t = (i : ℕ) × (i < n) × (get_or items i 0 ≡ t) × linked t

module _ (items : List ℕ) (linked : ℕ → Type 0) where
  pub one_more_among : (n : ℕ) {u : ℕ} {m q m1 q1 m2 q2 : List Bool} → get_or items n 0 ≡ u
      → Adds (AreAmong items n linked) m q m1 q1 → Adds (λ t. (t ≡ u) × linked t) m1 q1 m2 q2
      → Adds (AreAmong items (n + 1) linked) m q m2 q2
  one_more_among n item a b =
      adds_more a b
      (λ t (i, below, is, link). elim (cases_eq i n) [
        | inl same ↦ inr (sym is ∙ ap (λ k. get_or items k 0) same ∙ item, link)
        | inr other ↦ inl (i, omega (arith, below, other), is, link)
      ])
      (λ t (i, below, is, link). (i, omega (arith, below), is, link))
      (λ t (same, link). (n, omega arith, item ∙ sym same, link))

  pub all_among : (n tile : ℕ) {m q m1 q1 : List Bool} → Has m tile
      → ((t : ℕ) → linked t → (tile ≡ t) ⊎ Contains items t) → length items ≤ n
      → Adds (AreAmong items n linked) m q m1 q1 → Adds linked m q m1 q1
  all_among n tile {m = m} {m1 = m1} own touching all a = record {
    grows = a.grows;
    marked = λ t. (
      λ has. elim ((a.marked t).0 has) [ inl had ↦ inl had | inr (i, below, is, link) ↦ inr link ],
      λ either. elim either [
        | inl had ↦ a.grows.kept t had
        | inr link ↦ elim (touching t link) [
          | inl same ↦ a.grows.kept t (subst (Has m) same own)
          | inr (k, below, is) ↦ (a.marked t).1
              (inr (k, omega (arith, below, all), sym (get_or_default_zero items k t below) ∙ is, link))
        ]
      ],
    );
  }

-- ---- tiles and their rectangles

module _ (tiles : Tiles) (tiled : IsTiled tiles) (one : EachPixelInOneTile) (v : ℕ) (is_v : v < count_of tiles)
    (rect : Rect) (is : rect ≡ rect_of tiles v) where
  pub rect_to_tile : RectFits tiles.width tiles.height rect → (P : Pixel → Type 0) → SomeIn rect P → HoldsOne tiles P v
  rect_to_tile fits P (p, in_rect, has) =
      let inside : IsInside tiles.width tiles.height p =
      (omega (arith, in_rect.1, fits.columns), omega (arith, in_rect.3, fits.rows)) in
      let tile = ((one tiles p tiled inside).1 v is_v).0 (subst (λ r. IsInRect r p) is in_rect) in
      (p, record { inside = inside; tile = tile }, has)

  pub tile_to_rect : (P : Pixel → Type 0) → HoldsOne tiles P v → SomeIn rect P
  tile_to_rect P (p, in_tile, has) =
      (p, subst (λ r. IsInRect r p) (sym is) (((one tiles p tiled in_tile.inside).1 v is_v).1 in_tile.tile), has)

module _ (tiles : Tiles) (image : Raster) (conn : Conn) (tiled : IsTiled tiles) (one : EachPixelInOneTile) (t u : ℕ)
    (is_t : t < count_of tiles) (is_u : u < count_of tiles) (a b : Rect) (is_a : a ≡ rect_of tiles t)
    (is_b : b ≡ rect_of tiles u) where
  pub rects_to_tiles : RectFits tiles.width tiles.height a → RectFits tiles.width tiles.height b
      → SomeIn a (IsLinkedInto image conn b) → AreLinked tiles image conn t u
  unfolding rect_to_tile
  rects_to_tiles fits_a fits_b (p, in_rect, (above, some)) =
      let from = rect_to_tile tiles tiled one t is_t a is_a fits_a (λ p. 0 < value_at image p) (p, in_rect, above) in
      let to = rect_to_tile tiles tiled one u is_u b is_b fits_b (IsLightBeside image conn p) some in
      record {
        p = p;
        q = to.0;
        from = from.1;
        to = to.1;
        beside = to.2.0;
        from_above = above;
        to_above = to.2.1;
      }

  pub tiles_to_rects : AreLinked tiles image conn t u → SomeIn a (IsLinkedInto image conn b)
  tiles_to_rects link =
      tile_to_rect tiles tiled one t is_t a is_a (IsLinkedInto image conn b) (
        link.p,
        link.from,
        (
          link.from_above,
          tile_to_rect tiles tiled one u is_u b is_b (IsLightBeside image conn link.p)
              (link.q, link.to, (link.beside, link.to_above)),
        ),
      )

-- linked tiles are one or touch
pub linked_touch : (tiles : Tiles) (image : Raster) (conn : Conn) (t u : ℕ) → IsTiled tiles
    → NeighboursLieInTouchingTiles → AreLinked tiles image conn t u → (t ≡ u) ⊎ AreTouching tiles t u
linked_touch tiles image conn t u tiled touch link =
    subst (λ a. (a ≡ u) ⊎ AreTouching tiles a u) link.from.tile
    (subst (λ b. (tile_of tiles link.p ≡ b) ⊎ AreTouching tiles (tile_of tiles link.p) b) link.to.tile
    (touch tiles conn link.p link.q tiled link.from.inside link.to.inside link.beside))

pub linked_is_tile : (tiles : Tiles) (image : Raster) (conn : Conn) (t u : ℕ) → IsTiled tiles → EachPixelInOneTile
    → AreLinked tiles image conn t u → u < count_of tiles
linked_is_tile tiles image conn t u tiled one link =
    subst (λ b. b < count_of tiles) link.to.tile (one tiles link.q tiled link.to.inside).0

module _ (tiles : Tiles) (image : Raster) (conn : Conn) (t : ℕ) (items result : List ℕ) (same : items ≡ result)
    (members : (u : ℕ) → Contains result u ↔ (AreTouching tiles t u × (u < count_of tiles))) where
  pub listed_is_tile : (i : ℕ) → i < length items → get_or items i 0 < count_of tiles
  listed_is_tile i within =
      ((members (get_or items i 0)).0 (subst (λ xs. Contains xs (get_or items i 0)) same
      (Contains-get_or items i 0 within))).1

  pub linked_is_listed : IsTiled tiles → NeighboursLieInTouchingTiles → EachPixelInOneTile → (u : ℕ)
      → AreLinked tiles image conn t u → (t ≡ u) ⊎ Contains items u
  linked_is_listed tiled touch one u link = elim (linked_touch tiles image conn t u tiled touch link) [
    | inl own ↦ inl own
    | inr touching ↦ inr (subst (λ xs. Contains xs u) (sym same)
        ((members u).1 (touching, linked_is_tile tiles image conn t u tiled one link)))
  ]
