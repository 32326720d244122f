-- The strips of tiles, and where their values stand in a list of rims.
use Rattle.std.proofs.Common.{◌≡◌, ℕ, zero, suc, ◌+◌, ◌-◌, ◌*◌, ◌<◌, ◌≤◌, ◌⊎◌, ap, refl, sym, ◌∙◌, inl, inr, arith}
use Rattle.std.proofs.{lemmas.Bool.cases_lt, lemmas.Nat.mul-add-lt, lemmas.Nat.mul-le}
use Rattle.grid_core.specs.{declared.pixel.Pixel.Pixel, declared.rect.Rect.Rect, Bounds.LieIn, Bounds.bounds_of}
use Rattle.grid_core.specs.{Raster.IsInside, Raster.index_of, Rects.IsInRect}
use Rattle.grid_core.specs.Tiles.{Tiles, IsTiled, column_of, columns_of, count_of, rect_of, row_of, rows_of, tile_of}
use Rattle.grid_core.proofs.{Pixels.same_pixel, Spans.spans-le, Tilings.some_side, Tilings.tiles_lie_inside}
use Rattle.tiled_image.specs.declared.rims.Edge.{Edge}
use Rattle.tiled_image.specs.declared.rims.Edge.TheVariants as edges
use Rattle.tiled_image.specs.{Shown.place_in, Rims.order_of, Rims.rank_of, Rims.room_of, Rims.start_of, Rims.strip_at}
use Rattle.tiled_image.specs.Rims.{StandApart, strip_of}
use Rattle.tiled_image.proofs.Places.{in_wider, pixel_in_tile}

-- ---- a strip of a rectangle

pub some_strip : (edge : Edge) (rect : Rect) → 0 < rect.w → 0 < rect.h
    → (0 < (strip_at edge rect).w) × (0 < (strip_at edge rect).h)
some_strip edges.Top rect width height = (width, omega arith)
some_strip edges.Bottom rect width height = (width, omega arith)
some_strip edges.Left rect width height = (omega arith, height)
some_strip edges.Right rect width height = (omega arith, height)

pub strip_lies : (edge : Edge) (rect : Rect) → 0 < rect.w → 0 < rect.h → LieIn (bounds_of (strip_at edge rect)) rect
strip_lies edges.Top rect width height = (omega arith, omega arith, omega arith, omega (arith, height))
strip_lies edges.Bottom rect width height = (omega arith, omega arith, omega (arith, height), omega (arith, height))
strip_lies edges.Left rect width height = (omega arith, omega (arith, width), omega arith, omega arith)
strip_lies edges.Right rect width height = (omega (arith, width), omega (arith, width), omega arith, omega arith)

pub strip_within : (edge : Edge) (rect : Rect) (side : ℕ) → rect.w ≤ side → rect.h ≤ side
    → (strip_at edge rect).w * (strip_at edge rect).h ≤ side
strip_within edges.Top rect side width height = omega (arith, width)
strip_within edges.Bottom rect side width height = omega (arith, width)
strip_within edges.Left rect side width height = omega (arith, height)
strip_within edges.Right rect side width height = omega (arith, height)

pub cell_within : (strip : Rect) (side : ℕ) (p : Pixel) → strip.w * strip.h ≤ side → IsInRect strip p
    → index_of strip.w (place_in strip p) < side
cell_within strip side p room inside =
    let column : p.x - strip.x < strip.w = omega (arith, inside.0, inside.1) in
    let row : p.y - strip.y < strip.h = omega (arith, inside.2, inside.3) in
    omega (arith, mul-add-lt (p.y - strip.y) strip.w (p.x - strip.x) strip.h row column, room)

pub no_rows : (y w x : ℕ) → y ≡ 0 → y * w + x ≡ x + y
no_rows y w x none =
    let line : y * w ≡ 0 * w = ap (λ n. n * w) none in
    omega (arith, line, none)

-- a pixel stands as far from the strip's first cell as its column and its row are from the first ones
pub steps : (edge : Edge) (rect : Rect) (p : Pixel) → IsInRect (strip_at edge rect) p
    → index_of (strip_at edge rect).w (place_in (strip_at edge rect) p)
    ≡ p.x - (strip_at edge rect).x + (p.y - (strip_at edge rect).y)
steps edges.Top rect p inside = no_rows (p.y - rect.y) rect.w (p.x - rect.x) (omega (arith, inside.2, inside.3))
steps edges.Bottom rect p inside =
    no_rows (p.y - (rect.y + rect.h - 1)) rect.w (p.x - rect.x) (omega (arith, inside.2, inside.3))
steps edges.Left rect p inside = omega arith
steps edges.Right rect p inside = omega arith

-- so two pixels of a strip stand at two places
one_step : (edge : Edge) (rect : Rect) (p q : Pixel) → IsInRect (strip_at edge rect) p → IsInRect (strip_at edge rect) q
    → q.x - (strip_at edge rect).x + (q.y - (strip_at edge rect).y)
    ≡ p.x - (strip_at edge rect).x + (p.y - (strip_at edge rect).y)
    → q ≡ p
one_step edges.Top rect p q at_p at_q same =
    same_pixel q p (omega (arith, same, at_p.0, at_p.2, at_p.3, at_q.0, at_q.2, at_q.3))
    (omega (arith, at_p.2, at_p.3, at_q.2, at_q.3))
one_step edges.Bottom rect p q at_p at_q same =
    same_pixel q p (omega (arith, same, at_p.0, at_p.2, at_p.3, at_q.0, at_q.2, at_q.3))
    (omega (arith, at_p.2, at_p.3, at_q.2, at_q.3))
one_step edges.Left rect p q at_p at_q same =
    same_pixel q p (omega (arith, at_p.0, at_p.1, at_q.0, at_q.1))
    (omega (arith, same, at_p.0, at_p.1, at_p.2, at_q.0, at_q.1, at_q.2))
one_step edges.Right rect p q at_p at_q same =
    same_pixel q p (omega (arith, at_p.0, at_p.1, at_q.0, at_q.1))
    (omega (arith, same, at_p.0, at_p.1, at_p.2, at_q.0, at_q.1, at_q.2))

pub one_place : (edge : Edge) (rect : Rect) (p q : Pixel) → IsInRect (strip_at edge rect) p
    → IsInRect (strip_at edge rect) q
    → index_of (strip_at edge rect).w (place_in (strip_at edge rect) q)
    ≡ index_of (strip_at edge rect).w (place_in (strip_at edge rect) p)
    → q ≡ p
one_place edge rect p q at_p at_q same =
    one_step edge rect p q at_p at_q (sym (steps edge rect q at_q) ∙ same ∙ steps edge rect p at_p)

-- ---- places in the list

pub rank_below : (edge : Edge) → rank_of edge < 4
rank_below edges.Top = omega arith
rank_below edges.Bottom = omega arith
rank_below edges.Left = omega arith
rank_below edges.Right = omega arith

abbrev edge_of : ℕ → Edge
edge_of zero = edges.Top
edge_of (suc zero) = edges.Bottom
edge_of (suc (suc zero)) = edges.Left
edge_of (suc (suc (suc n))) = edges.Right

edge_of_rank : (edge : Edge) → edge_of (rank_of edge) ≡ edge
edge_of_rank edges.Top = refl
edge_of_rank edges.Bottom = refl
edge_of_rank edges.Left = refl
edge_of_rank edges.Right = refl

-- edges of one rank are one edge
pub same_edge : (e edge : Edge) → rank_of e ≡ rank_of edge → e ≡ edge
same_edge e edge same = sym (edge_of_rank e) ∙ ap edge_of same ∙ edge_of_rank edge

-- strips of two tiles are two strips
pub other_order : (t tile : ℕ) (e edge : Edge) → (t ≡ tile → ⊥) → order_of t e ≡ order_of tile edge → ⊥
other_order t tile e edge other same = other (omega (arith, same, rank_below e, rank_below edge))

-- a place in a strip lies outside each other strip
pub outside_strip : (side strip other k : ℕ) → (other ≡ strip → ⊥) → k < side
    → (other * side + k < strip * side) ⊎ (strip * side + side ≤ other * side + k)
outside_strip side strip other k differ below = elim (cases_lt other strip) [
  | inl before ↦ inl (omega (arith, mul-add-lt other side k strip before below))
  | inr not_before ↦
      let after : strip + 1 ≤ other = omega (arith, not_before, differ) in
      let rows : (strip + 1) * side ≤ other * side = mul-le (strip + 1) side other side after (omega arith) in
      inr (omega (arith, rows))
]

strip_end : (tile count rank side : ℕ) → tile < count → rank < 4 → (tile * 4 + rank) * side + side ≤ count * 4 * side
strip_end tile count rank side within below =
    let next : tile * 4 + rank + 1 ≤ count * 4 = omega (arith, within, below) in
    let rows : (tile * 4 + rank + 1) * side ≤ count * 4 * side =
    mul-le (tile * 4 + rank + 1) side (count * 4) side next (omega arith) in
    omega (arith, rows)

-- ---- sizes

-- there are no more tiles than pixels
pub count_within : (tiling : Tiles) → IsTiled tiling → count_of tiling ≤ 67108864
count_within tiling tiled =
    let some = some_side tiling tiled in
    let tiles : count_of tiling ≤ tiling.width * tiling.height =
    mul-le (columns_of tiling) (rows_of tiling) tiling.width tiling.height (spans-le tiling.width tiling.side some)
    (spans-le tiling.height tiling.side some) in
    omega (arith, tiles, tiled.size.pixels_within)

pub room_within : (count side : ℕ) → count ≤ 67108864 → side ≤ 256 → count * 4 * side ≤ 68719476736
room_within count side few small = mul-le (count * 4) side 268435456 256 (omega (arith, few)) small

-- ---- the strip of a tile

module _ (tiling : Tiles) (tile : ℕ) (tiled : IsTiled tiling) (within : tile < count_of tiling) where
  -- a tile's rectangle in numbers that a program has
  pub tile_small : ((rect_of tiling tile).x + (rect_of tiling tile).w < 4294967296)
      × ((rect_of tiling tile).y + (rect_of tiling tile).h < 4294967296)
  tile_small =
      let fits = tiles_lie_inside tiling tile tiled within in (
        omega (arith, fits.columns, tiled.size.width_within),
        omega (arith, fits.rows, tiled.size.height_within),
      )

  module _ (edge : Edge) where
    pub tile_strip_some : (0 < (strip_of tiling tile edge).w) × (0 < (strip_of tiling tile edge).h)
    tile_strip_some =
        let fits = tiles_lie_inside tiling tile tiled within in
        some_strip edge (rect_of tiling tile) fits.some_width fits.some_height

    pub tile_strip_lies : LieIn (bounds_of (strip_of tiling tile edge)) (rect_of tiling tile)
    tile_strip_lies =
        let fits = tiles_lie_inside tiling tile tiled within in
        strip_lies edge (rect_of tiling tile) fits.some_width fits.some_height

    -- so is its strip
    pub tile_strip_small : ((strip_of tiling tile edge).x + (strip_of tiling tile edge).w < 4294967296)
        × ((strip_of tiling tile edge).y + (strip_of tiling tile edge).h < 4294967296)
    tile_strip_small =
        let lies = tile_strip_lies in
        let small = tile_small in (omega (arith, lies.1, small.0), omega (arith, lies.3, small.1))

    pub tile_strip_within : (strip_of tiling tile edge).w * (strip_of tiling tile edge).h ≤ tiling.side
    tile_strip_within = strip_within edge (rect_of tiling tile) tiling.side (omega arith) (omega arith)

    pub in_strip_room : (p : Pixel) → IsInRect (strip_of tiling tile edge) p
        → index_of (strip_of tiling tile edge).w (place_in (strip_of tiling tile edge) p) < tiling.side
    in_strip_room p inside = cell_within (strip_of tiling tile edge) tiling.side p tile_strip_within inside

    pub strip_ends : start_of tiling tile edge + tiling.side ≤ room_of tiling
    strip_ends = strip_end tile (count_of tiling) (rank_of edge) tiling.side within (rank_below edge)

    pub start_small : start_of tiling tile edge + tiling.side ≤ 68719476736
    start_small =
        omega (
          arith,
          strip_ends,
          room_within (count_of tiling) tiling.side (count_within tiling tiled) tiled.tile_side.at_most,
        )

    -- its pixels are the tile's
    pub strip_in_tile : (p : Pixel) → IsInRect (strip_of tiling tile edge) p → IsInRect (rect_of tiling tile) p
    strip_in_tile p inside = in_wider (strip_of tiling tile edge) (rect_of tiling tile) p tile_strip_lies inside

    pub pixel_of_strip : (p : Pixel) → IsInRect (strip_of tiling tile edge) p
        → IsInside tiling.width tiling.height p × (tile_of tiling p ≡ tile)
    pixel_of_strip p inside = pixel_in_tile tiling tile tiled within p (strip_in_tile p inside)

-- where the pixel stands
pub place_is : (tiling : Tiles) (tile : ℕ) (edge : Edge) (strip : Rect) (p : Pixel) (start : ℕ)
    → strip ≡ strip_of tiling tile edge → start ≡ start_of tiling tile edge
    → IsInRect (strip_of tiling tile edge) p
    → start + (p.x - strip.x + (p.y - strip.y))
    ≡ start_of tiling tile edge + index_of (strip_of tiling tile edge).w (place_in (strip_of tiling tile edge) p)
place_is tiling tile edge strip p start strip_is start_is inside =
    let far : p.x - strip.x + (p.y - strip.y)
    ≡ index_of (strip_of tiling tile edge).w (place_in (strip_of tiling tile edge) p) =
    ap (λ (r : Rect). p.x - r.x + (p.y - r.y)) strip_is ∙ sym (steps edge (rect_of tiling tile) p inside) in
    λ i. start_is i + far i

-- ---- two tiles

span_apart : (a b side size : ℕ) → size ≤ side → a * side < b * side → a * side + size ≤ b * side
span_apart a b side size small less = elim (cases_lt a b) [
  | inl before ↦
      let rows : (a + 1) * side ≤ b * side = mul-le (a + 1) side b side (omega (arith, before)) (omega arith) in
      omega (arith, rows, small)
  | inr not_before ↦
      let rows : b * side ≤ a * side = mul-le b side a side not_before (omega arith) in
      absurd (omega (arith, rows, less))
]

pub tiles_apart : (tiling : Tiles) (a b : ℕ) → IsTiled tiling → a < count_of tiling → b < count_of tiling
    → (b ≡ a → ⊥) → StandApart (rect_of tiling a) (rect_of tiling b)
tiles_apart tiling a b tiled within_a within_b differ =
    let one = rect_of tiling a in
    let other = rect_of tiling b in
    let side = tiling.side in
    record {
      above = span_apart (row_of tiling a) (row_of tiling b) side one.h (omega arith);
      below = span_apart (row_of tiling b) (row_of tiling a) side other.h (omega arith);
      left = span_apart (column_of tiling a) (column_of tiling b) side one.w (omega arith);
      right = span_apart (column_of tiling b) (column_of tiling a) side other.w (omega arith);
      other = λ same_y same_x.
          let corner : Pixel = record { x = one.x; y = one.y } in
          let fits_a = tiles_lie_inside tiling a tiled within_a in
          let fits_b = tiles_lie_inside tiling b tiled within_b in
          let in_a : IsInRect one corner =
          (omega arith, omega (arith, fits_a.some_width), omega arith, omega (arith, fits_a.some_height)) in
          let in_b : IsInRect other corner = (
            omega (arith, same_x),
            omega (arith, same_x, fits_b.some_width),
            omega (arith, same_y),
            omega (arith, same_y, fits_b.some_height),
          ) in
          differ (sym (pixel_in_tile tiling b tiled within_b corner in_b).1
          ∙ (pixel_in_tile tiling a tiled within_a corner in_a).1);
    }
