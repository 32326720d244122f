-- Tiles: in which one a pixel lies, and which touch.
use Rattle.std.proofs.Common.{◌≡◌, ℕ, ◌+◌, ◌-◌, ◌*◌, ◌/◌, ◌<◌, ◌≤◌, ◌⊎◌, inl, inr, ap, sym, ◌∙◌, subst, arith, ◌↔◌, min}
use Rattle.std.proofs.lemmas.Bool.{cases_eq}
use Rattle.std.proofs.lemmas.Nat.{div-add-mod', div_below, mod_below, mul-add-lt, div-mul-add, mod-mul-add}
use Rattle.grid_core.specs.{declared.conn.Conn.Conn, declared.pixel.Pixel.Pixel, Raster.IsInside}
use Rattle.grid_core.specs.{Neighbours.AreNeighbours, Rects.IsInRect, Rects.RectFits, Rects.in_image}
use Rattle.grid_core.specs.Tiles.{Tiles, IsTiled, AreTouching, columns_of, rows_of, count_of, column_of, row_of}
use Rattle.grid_core.specs.Tiles.{tile_of, rect_of}
use Rattle.grid_core.proofs.{Pixels.near, Rectangles.rect_pixels_lie_in_rect, Rectangles.in_rect_inside}
use Rattle.grid_core.proofs.Spans.{some_span, span_of-within, span_begins, in_span, span_from, near_spans}

-- a tile's side is positive
pub some_side : (t : Tiles) → IsTiled t → 0 < t.side
some_side t tiled = omega (arith, tiled.tile_side.at_least)

pub some_columns : (t : Tiles) → IsTiled t → 0 < columns_of t
some_columns t tiled = some_span t.width t.side (some_side t tiled) tiled.size.some_width

-- ---- columns and rows of tiles

pub column_of-within : (t : Tiles) (tile : ℕ) → IsTiled t → column_of t tile < columns_of t
column_of-within t tile tiled = mod_below tile (columns_of t) (some_columns t tiled)

pub row_of-within : (t : Tiles) (tile : ℕ) → IsTiled t → tile < count_of t → row_of t tile < rows_of t
row_of-within t tile tiled within =
    div_below tile (columns_of t) (rows_of t) (some_columns t tiled) (omega (arith, within))

pub tile_of-within : (t : Tiles) (p : Pixel) → IsTiled t → IsInside t.width t.height p → tile_of t p < count_of t
tile_of-within t p tiled inside =
    let side = some_side t tiled in
    mul-add-lt (p.y / t.side) (columns_of t) (p.x / t.side) (rows_of t)
    (span_of-within p.y t.height t.side side inside.1) (span_of-within p.x t.width t.side side inside.0)

pub column_of-tile_of : (t : Tiles) (p : Pixel) → IsTiled t → IsInside t.width t.height p
    → column_of t (tile_of t p) ≡ p.x / t.side
column_of-tile_of t p tiled inside =
    mod-mul-add (p.y / t.side) (columns_of t) (p.x / t.side)
    (span_of-within p.x t.width t.side (some_side t tiled) inside.0)

pub row_of-tile_of : (t : Tiles) (p : Pixel) → IsTiled t → IsInside t.width t.height p
    → row_of t (tile_of t p) ≡ p.y / t.side
row_of-tile_of t p tiled inside =
    div-mul-add (p.y / t.side) (columns_of t) (p.x / t.side)
    (span_of-within p.x t.width t.side (some_side t tiled) inside.0)

-- a tile is the one at its column and row
pub tile_at_place : (t : Tiles) (tile : ℕ) → row_of t tile * columns_of t + column_of t tile ≡ tile
tile_at_place t tile = div-add-mod' tile (columns_of t)

-- ---- a pixel lies in its tile and in no other

in_its_tile : (t : Tiles) (p : Pixel) → IsTiled t → IsInside t.width t.height p → IsInRect (rect_of t (tile_of t p)) p
in_its_tile t p tiled inside =
    let side = some_side t tiled in
    let across = in_span p.x t.width t.side side inside.0 in
    let down = in_span p.y t.height t.side side inside.1 in
    let column = column_of-tile_of t p tiled inside in
    let row = row_of-tile_of t p tiled inside in
    let In : ℕ → ℕ → Type 0 = λ c r.
    (c * t.side ≤ p.x) × (p.x < c * t.side + min t.side (t.width - c * t.side)) × (r * t.side ≤ p.y)
    × (p.y < r * t.side + min t.side (t.height - r * t.side)) in
    subst (λ c. In c (row_of t (tile_of t p))) (sym column)
    (subst (λ r. In (p.x / t.side) r) (sym row) (across.0, across.1, down.0, down.1))

its_tile_from : (t : Tiles) (tile : ℕ) (p : Pixel) → IsTiled t → IsInRect (rect_of t tile) p → tile_of t p ≡ tile
its_tile_from t tile p tiled found =
    let side = some_side t tiled in
    let column = span_from p.x t.width t.side (column_of t tile) side found.0 found.1 in
    let row = span_from p.y t.height t.side (row_of t tile) side found.2 found.3 in
    ap (λ r. r * columns_of t + p.x / t.side) row ∙ ap (λ c. row_of t tile * columns_of t + c) column
    ∙ tile_at_place t tile

pub each_pixel_in_one_tile : (t : Tiles) (p : Pixel) → IsTiled t → IsInside t.width t.height p
    → (tile_of t p < count_of t)
    × ((tile : ℕ) → tile < count_of t → IsInRect (rect_of t tile) p ↔ (tile_of t p ≡ tile))
each_pixel_in_one_tile t p tiled inside = (
  tile_of-within t p tiled inside,
  λ tile within. (
    λ found. its_tile_from t tile p tiled found,
    λ same. subst (λ k. IsInRect (rect_of t k) p) same (in_its_tile t p tiled inside),
  ),
)

pub tiles_lie_inside : (t : Tiles) (tile : ℕ) → IsTiled t → tile < count_of t
    → RectFits t.width t.height (rect_of t tile)
tiles_lie_inside t tile tiled within =
    let side = some_side t tiled in
    let left = span_begins (column_of t tile) t.width t.side side (column_of-within t tile tiled) in
    let top = span_begins (row_of t tile) t.height t.side side (row_of-within t tile tiled within) in
    record {
      some_width = omega (arith, left, side);
      some_height = omega (arith, top, side);
      columns = omega (arith, left);
      rows = omega (arith, top);
    }

pub tile_pixels : (t : Tiles) (tile : ℕ) (q : Pixel) → IsTiled t → tile < count_of t
    → (IsInside t.width t.height q × (tile_of t q ≡ tile))
    ↔ ((p : Pixel) × IsInside (rect_of t tile).w (rect_of t tile).h p × (in_image (rect_of t tile) p ≡ q))
tile_pixels t tile q tiled within =
    let in_rect = rect_pixels_lie_in_rect (rect_of t tile) q in (
      λ (inside, same). in_rect.0 (subst (λ k. IsInRect (rect_of t k) q) same (in_its_tile t q tiled inside)),
      λ found.
          let there : IsInRect (rect_of t tile) q = in_rect.1 found in (
            in_rect_inside t.width t.height (rect_of t tile) q (tiles_lie_inside t tile tiled within) there,
            its_tile_from t tile q tiled there,
          ),
    )

-- ---- neighbouring pixels

pub neighbours_lie_in_touching_tiles : (t : Tiles) (conn : Conn) (p q : Pixel) → IsTiled t
    → IsInside t.width t.height p → IsInside t.width t.height q → AreNeighbours conn p q
    → (tile_of t p ≡ tile_of t q) ⊎ AreTouching t (tile_of t p) (tile_of t q)
neighbours_lie_in_touching_tiles t conn p q tiled inside_p inside_q beside =
    let side = some_side t tiled in
    elim (cases_eq (tile_of t p) (tile_of t q)) [
      | inl same ↦ inl same
      | inr other ↦ inr (record {
        other = other;
        columns = omega (
          arith,
          near_spans p.x q.x t.side side (near conn p q beside).0,
          column_of-tile_of t p tiled inside_p,
          column_of-tile_of t q tiled inside_q,
        );
        rows = omega (
          arith,
          near_spans p.y q.y t.side side (near conn p q beside).1,
          row_of-tile_of t p tiled inside_p,
          row_of-tile_of t q tiled inside_q,
        );
      })
    ]
