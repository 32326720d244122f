-- Open edges rest on the values of an image on the tile's border and beside it, and on a mask's beside it, alone.
use Rattle.std.proofs.Common.{◌≡◌, ℕ, ◌+◌, ◌-◌, ◌<◌, true, [], ◌∷◌, refl, ap, sym, ◌∙◌, inl, inr, arith}
use Rattle.std.proofs.Common.{◌≢◌, ◌&&◌, not, nat_eq, nat_lt, cond, if◌then◌else◌, Contains}
use Rattle.std.proofs.lemmas.Bool.Decides.{eqb_tells}
use Rattle.std.specs.List.{range_with_len}
use Rattle.grid_core.specs.{declared.conn.Conn.Conn, declared.pixel.Pixel.Pixel, declared.rect.Rect.Rect}
use Rattle.grid_core.specs.{Neighbours.AreNeighbours, Raster.Raster, Raster.IsInside, Raster.value_at}
use Rattle.grid_core.specs.RasterLaws.{NeighboursByRows}
use Rattle.grid_core.specs.{Rects.IsInRect, Rects.RectFits, Rows.rows_around, TileLaws.EachPixelInOneTile}
use Rattle.grid_core.specs.{TileLaws.TilesLieInside, Tiles.Tiles, Tiles.IsTiled, Tiles.count_of, Tiles.tile_of}
use Rattle.grid_core.specs.Tiles.{rect_of}
use Rattle.border_queues.specs.OpenEdges.{Sender, level_to, hint_to, hints_to, hints_from, row_of, pixels_of}
use Rattle.border_queues.specs.OpenEdges.{open_edges, from_corner, sender_by, with_tile}
use Rattle.border_queues.specs.Around.{IsRimmedRingOf, IsRingOf, around_of, in_patch}
use Rattle.border_queues.specs.{Laws.SameAroundSameEdges, Laws.SameImageSameEdges}
use Rattle.border_queues.specs.Borders.{image_by, moved, moved_back, seen_from}
use Rattle.grid_core.proofs.Common.{same_flat_map, in_flat_map, in_map, in_range}
use Rattle.grid_core.proofs.Rectangles.{in_rect_inside}
use Rattle.border_queues.proofs.Around.{near_to_neighbour, near_in_widened, unmoved_back}
use Rattle.border_queues.proofs.Interior.{border_or_interior, inner_tells_none}
use Rattle.border_queues.proofs.Told.{hint_if, told_each}

-- the pixels of a rectangle lie in it
pub pixels_in_rect : (rect : Rect) (p : Pixel) → Contains (pixels_of rect) p → IsInRect rect p
pixels_in_rect rect p there =
    let (y, in_rows, in_row) = in_flat_map (row_of rect) (range_with_len rect.y rect.h) p there in
    let (x, in_columns, same) = in_map (λ x. record { x = x; y = y }) (range_with_len rect.x rect.w) p in_row in
    let down = in_range rect.y rect.h y in_rows in
    let across = in_range rect.x rect.w x in_columns in
    let column = ap (λ (q : Pixel). q.x) same in
    let row = ap (λ (q : Pixel). q.y) same in
    (omega (arith, across, column), omega (arith, across, column), omega (arith, down, row), omega (arith, down, row))

-- and so in an image that the rectangle fits
pub pixels_inside : (width height : ℕ) (rect : Rect) (p : Pixel) → RectFits width height rect
    → Contains (pixels_of rect) p → IsInside width height p
pixels_inside width height rect p fits there =
    let found = pixels_in_rect rect p there in
    (omega (arith, found, fits.columns), omega (arith, found, fits.rows))

-- a tile tells its own pixels nothing
own_hint : (s : Sender) (value : ℕ) (q : Pixel) → nat_eq (tile_of s.tiles q) s.tile ≡ true → hint_if s value q ≡ []
own_hint s value q own =
    ap (λ b. cond (not b && nat_lt (s.image q) (level_to s value q)) (hint_to s value q ∷ []) []) own

-- what a pixel of another tile is told rests on the values of image and mask there
same_hint : (s : Sender) (mask image : Pixel → ℕ) (value : ℕ) (q : Pixel)
    → (tile_of s.tiles q ≢ s.tile → (s.image q ≡ image q) × (s.mask q ≡ mask q))
    → hint_if s value q ≡ hint_if (record s { mask = mask; image = image }) value q
same_hint s mask image value q same = elim (eqb_tells (tile_of s.tiles q) s.tile) [
  | inl (passes, own) ↦
      own_hint s value q passes ∙ sym (own_hint (record s { mask = mask; image = image }) value q passes)
  | inr (fails, other) ↦
      let both = same other in
      λ i. hint_if (record s { mask = λ _. both.1 i; image = λ _. both.0 i }) value q
]

-- the hints from a pixel rest on the image's value there, and on those of image and mask at its neighbours in other
-- tiles
same_from : (s : Sender) (mask image : Pixel → ℕ) (p : Pixel) → NeighboursByRows
    → IsInside s.tiles.width s.tiles.height p → s.image p ≡ image p
    → ((q : Pixel) → AreNeighbours s.conn p q → IsInside s.tiles.width s.tiles.height q → tile_of s.tiles q ≢ s.tile
    → (s.image q ≡ image q) × (s.mask q ≡ mask q))
    → hints_from s p ≡ hints_from (record s { mask = mask; image = image }) p
same_from s mask image p by_rows inside here beside =
    let qs = rows_around s.conn s.tiles.width s.tiles.height p in
    let other : Sender = record s { mask = mask; image = image } in
    ap (λ v. hints_to s v qs) here
    ∙ told_each s (image p) qs
    ∙ same_flat_map (hint_if s (image p)) (hint_if other (image p)) qs (λ q there.
    let found = ((by_rows s.conn s.tiles.width s.tiles.height p inside).0 q).0 there in
    same_hint s mask image (image p) q (beside q found.0 found.1))
    ∙ sym (told_each other (image p) qs)

pub same_around_same_edges : EachPixelInOneTile → NeighboursByRows → TilesLieInside → SameAroundSameEdges
same_around_same_edges in_one by_rows lie_inside s mask image tiled within same_mask same_beside same_border =
    let rect = rect_of s.tiles s.tile in
    let other : Sender = record s { mask = mask; image = image } in
    let fits = lie_inside s.tiles s.tile tiled within in
    let owned : (q : Pixel) → IsInside s.tiles.width s.tiles.height q → IsInRect rect q → tile_of s.tiles q ≡ s.tile =
    λ q inside. ((in_one s.tiles q tiled inside).1 s.tile within).0 in
    same_flat_map (hints_from s) (hints_from other) (pixels_of rect) (λ p there.
    let found = pixels_in_rect rect p there in
    let inside = pixels_inside s.tiles.width s.tiles.height rect p fits there in
    elim (border_or_interior rect p found) [
      | inl border ↦ same_from s mask image p by_rows inside (same_border p found border) (λ q beside to_inside outer.
          let around =
          near_in_widened s.tiles.width s.tiles.height rect q to_inside
          (near_to_neighbour rect s.conn p q found beside) in
          let beyond : IsInRect rect q → ⊥ = λ own. outer (owned q to_inside own) in
          (same_beside q to_inside around beyond, same_mask q to_inside around beyond))
      | inr interior ↦
          inner_tells_none s rect p by_rows inside owned interior
          ∙ sym (inner_tells_none other rect p by_rows inside owned interior)
    ])

pub same_image_same_edges : EachPixelInOneTile → NeighboursByRows → TilesLieInside → SameImageSameEdges
same_image_same_edges in_one by_rows lie_inside s image tiled within same =
    let rect = rect_of s.tiles s.tile in
    let fits = lie_inside s.tiles s.tile tiled within in
    same_around_same_edges in_one by_rows lie_inside s s.mask image tiled within (λ q inside around outer. refl)
    (λ q inside around outer. same q inside)
    (λ p found border. same p (in_rect_inside s.tiles.width s.tiles.height rect p fits found))

-- ---- a patch in place of the image

-- a patch that has the tile's own pixels, too, is seen as it is
patch_part : (t : Tiles) (tile : ℕ) (patch : Raster) (corner origin p : Pixel)
    → corner.x + origin.x ≡ (rect_of t tile).x → corner.y + origin.y ≡ (rect_of t tile).y
    → (tile_of t p ≡ tile → IsInRect (rect_of t tile) p)
    → image_by t tile patch corner patch origin p ≡ seen_from origin patch p
patch_part t tile patch corner origin p left top own =
    let there = value_at patch (moved corner (from_corner (rect_of t tile) p)) in
    let beyond = seen_from origin patch p in
    elim (eqb_tells (tile_of t p) tile) [
      | inl (passes, same) ↦
          let found = own same in
          let column : corner.x + (p.x - (rect_of t tile).x) ≡ p.x - origin.x = omega (arith, found, left) in
          let row : corner.y + (p.y - (rect_of t tile).y) ≡ p.y - origin.y = omega (arith, found, top) in
          ap (λ b. if b then there else beyond) passes ∙ (λ i. value_at patch (record { x = column i; y = row i }))
      | inr (fails, other) ↦ ap (λ b. if b then there else beyond) fails
    ]

-- a tile has the open edges by rings of a mask and an image that it has by these, if the image's has the tile's border
pub ring_has_edges : SameAroundSameEdges → EachPixelInOneTile → (t : Tiles) (conn : Conn) (tile generation : ℕ)
    (image mask : Pixel → ℕ) (patch limits : Raster) (corner origin : Pixel) → IsTiled t → tile < count_of t
    → RectFits t.width t.height (rect_of t tile)
    → origin ≡ record { x = (around_of t tile).x; y = (around_of t tile).y }
    → corner.x + origin.x ≡ (rect_of t tile).x → corner.y + origin.y ≡ (rect_of t tile).y
    → IsRimmedRingOf t tile image patch → IsRingOf t tile mask limits
    → open_edges (sender_by t conn (seen_from origin limits) (image_by t tile patch corner patch origin) tile
    generation) ≡ open_edges (sender_by t conn mask image tile generation)
ring_has_edges same_edges in_one t conn tile generation image mask patch limits corner origin tiled within fits begins
    left top rimmed limit =
    let own = image_by t tile patch corner patch origin in
    let seen : (p : Pixel) → IsInside t.width t.height p → own p ≡ in_patch t tile patch p =
    λ p inside. patch_part t tile patch corner origin p left top (((in_one t p tiled inside).1 tile within).1)
    ∙ ap (λ (o : Pixel). seen_from o patch p) begins in
    same_edges (sender_by t conn (seen_from origin limits) own tile generation) mask image tiled within
    (λ q inside around outer.
    ap (λ (o : Pixel). seen_from o limits q) begins ∙ limit.values q inside around outer)
    (λ q inside around outer. seen q inside ∙ rimmed.ring.values q inside around outer)
    (λ p found border.
    seen p (in_rect_inside t.width t.height (rect_of t tile) p fits found) ∙ rimmed.border p found border)

-- ---- the image itself

-- an image with its own values on a tile is itself, where it is so elsewhere
own_part : (t : Tiles) (tile : ℕ) (image beyond : Pixel → ℕ) (corner p : Pixel) → corner.x ≡ (rect_of t tile).x
    → corner.y ≡ (rect_of t tile).y → (tile_of t p ≡ tile → IsInRect (rect_of t tile) p) → beyond p ≡ image p
    → with_tile t tile (λ q. image (moved corner q)) beyond p ≡ image p
own_part t tile image beyond corner p left top own elsewhere =
    let there = image (moved corner (from_corner (rect_of t tile) p)) in
    elim (eqb_tells (tile_of t p) tile) [
      | inl (passes, same) ↦
          let found = own same in
          let column : corner.x + (p.x - (rect_of t tile).x) ≡ p.x = omega (arith, found, left) in
          let row : corner.y + (p.y - (rect_of t tile).y) ≡ p.y = omega (arith, found, top) in
          ap (λ b. if b then there else beyond p) passes ∙ (λ i. image (record { x = column i; y = row i }))
      | inr (fails, other) ↦ ap (λ b. if b then there else beyond p) fails ∙ elsewhere
    ]

-- and so at each pixel of the tiling
pub own_image : EachPixelInOneTile → (t : Tiles) (tile : ℕ) (image : Pixel → ℕ) (rect : Rect) → IsTiled t
    → tile < count_of t → rect ≡ rect_of t tile → (p : Pixel) → IsInside t.width t.height p
    → with_tile t tile (λ q. image (moved (record { x = rect.x; y = rect.y }) q))
    (λ q. image (moved_back (record { x = 0; y = 0 }) q)) p ≡ image p
own_image in_one t tile image rect tiled within same p inside =
    own_part t tile image (λ q. image (moved_back (record { x = 0; y = 0 }) q)) (record { x = rect.x; y = rect.y }) p
    (ap (λ (r : Rect). r.x) same) (ap (λ (r : Rect). r.y) same) (((in_one t p tiled inside).1 tile within).1)
    (ap (λ (f : Pixel → ℕ). f p) (unmoved_back image))
