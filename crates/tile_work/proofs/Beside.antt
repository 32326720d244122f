-- Where a pixel's tile stands among those at and around another one.
use Rattle.std.proofs.Common.{◌≡◌, ℕ, ◌+◌, ◌-◌, ◌*◌, ◌/◌, ◌%◌, ◌<◌, ◌≤◌, inl, inr, min, refl, sym, ap}
use Rattle.std.proofs.Common.{subst, ◌∙◌, arith}
use Rattle.std.proofs.lemmas.Bool.{cases_order}
use Rattle.grid_core.specs.{declared.pixel.Pixel.Pixel, declared.rect.Rect.Rect, Neighbours.apart}
use Rattle.grid_core.specs.Tiles.{Tiles, columns_of, count_of, column_of, row_of, tile_of}
use Rattle.grid_core.proofs.Spans.{in_span}
use Rattle.grid_core.proofs.Tilings.{some_side, column_of-tile_of, row_of-tile_of, tile_of-within, tile_at_place}
use Rattle.tile_work.specs.declared.work_table.beside.TilesBeside.{TilesBeside}
use Rattle.tile_work.specs.Beside.{IsBeside, IsPixelNear, place_among}

-- ---- numbers

-- a coordinate in the span q, seen from the span c, which is that one or next to it
span_beside : (x w s c q first len side : ℕ) → q * s ≤ x → x < q * s + min s (w - q * s) → apart c q ≤ 1
    → first ≡ c * s → len ≡ min s (w - c * s) → (x < first → side ≡ 0) → (first ≤ x → x < first + len → side ≡ 1)
    → (first + len ≤ x → side ≡ 2) → c + side ≡ q + 1
span_beside x w s c q first len side from before near first_is len_is ahead in_it behind = elim (cases_order q c) [
  | inl same ↦
      let begins : q * s ≡ c * s = ap (λ n. n * s) same in
      let is = in_it (omega arith) (omega arith) in
      omega (arith, is)
  | inr (inl less) ↦
      let next : q + 1 ≡ c = omega arith in
      let begins : (q + 1) * s ≡ c * s = ap (λ n. n * s) next in
      let is = ahead (omega (arith, begins)) in
      omega (arith, is)
  | inr (inr more) ↦
      let next : q ≡ c + 1 = omega arith in
      let begins : q * s ≡ (c + 1) * s = ap (λ n. n * s) next in
      let is = behind (omega (arith, begins)) in
      omega (arith, is)
]

-- the number of a tile, by its row and column among those at and around the tile `from`
number_beside : (columns from_row from_column t_row t_column row column from t : ℕ)
    → from_row * columns + from_column ≡ from → t_row * columns + t_column ≡ t → from_row + row ≡ t_row + 1
    → from_column + column ≡ t_column + 1 → from + row * columns + column ≡ t + (columns + 1)
number_beside columns from_row from_column t_row t_column row column from t from_is t_is row_is column_is =
    let rows : (from_row + row) * columns ≡ (t_row + 1) * columns = ap (λ n. n * columns) row_is in
    omega (arith, rows)

-- ---- the tile at a place

-- the tile at a place among those at and around another one
abbrev pub tile_among : Tiles → ℕ → ℕ → ℕ
tile_among tiles tile k = tile + k / 3 * columns_of tiles + k % 3 - (columns_of tiles + 1)

at_place : (columns from_row from_column t_row t_column from t k : ℕ) → from_row * columns + from_column ≡ from
    → t_row * columns + t_column ≡ t → apart from_column t_column ≤ 1 → apart from_row t_row ≤ 1
    → k ≡ 3 * (t_row + 1 - from_row) + (t_column + 1 - from_column)
    → from + k / 3 * columns + k % 3 - (columns + 1) ≡ t
at_place columns from_row from_column t_row t_column from t k from_is t_is near_columns near_rows k_is =
    let row_is : from_row + k / 3 ≡ t_row + 1 = omega arith in
    let column_is : from_column + k % 3 ≡ t_column + 1 = omega arith in
    let number = number_beside columns from_row from_column t_row t_column (k / 3) (k % 3) from t from_is t_is row_is
    column_is in
    omega (arith, number)

-- a tile that is near is the one at its place
pub at_its_place : (tiles : Tiles) (tile t : ℕ) → apart (column_of tiles tile) (column_of tiles t) ≤ 1
    → apart (row_of tiles tile) (row_of tiles t) ≤ 1 → tile_among tiles tile (place_among tiles tile t) ≡ t
at_its_place tiles tile t near_columns near_rows =
    at_place (columns_of tiles) (row_of tiles tile) (column_of tiles tile) (row_of tiles t) (column_of tiles t) tile t
    (place_among tiles tile t) (tile_at_place tiles tile) (tile_at_place tiles t) near_columns near_rows refl

-- ---- the tile of a pixel

module _ {b : TilesBeside} {p : Pixel} (beside : IsBeside b) (near : IsPixelNear b.tiling b.tile p) where
  pub column_is : (side : ℕ) → (p.x < b.rect.x → side ≡ 0) → (b.rect.x ≤ p.x → p.x < b.rect.x + b.rect.w → side ≡ 1)
      → (b.rect.x + b.rect.w ≤ p.x → side ≡ 2)
      → column_of b.tiling b.tile + side ≡ column_of b.tiling (tile_of b.tiling p) + 1
  column_is side ahead in_it behind =
      let t = b.tiling in
      let is = column_of-tile_of t p beside.tiled near.inside in
      let span = in_span p.x t.width t.side (some_side t beside.tiled) near.inside.0 in
      let close : apart (column_of t b.tile) (p.x / t.side) ≤ 1 =
      subst (λ n. apart (column_of t b.tile) n ≤ 1) is near.columns in
      span_beside p.x t.width t.side (column_of t b.tile) (p.x / t.side) b.rect.x b.rect.w side span.0 span.1 close
      (ap (λ (r : Rect). r.x) beside.rect_is) (ap (λ (r : Rect). r.w) beside.rect_is) ahead in_it behind
      ∙ ap (λ n. n + 1) (sym is)

  pub row_is : (side : ℕ) → (p.y < b.rect.y → side ≡ 0) → (b.rect.y ≤ p.y → p.y < b.rect.y + b.rect.h → side ≡ 1)
      → (b.rect.y + b.rect.h ≤ p.y → side ≡ 2)
      → row_of b.tiling b.tile + side ≡ row_of b.tiling (tile_of b.tiling p) + 1
  row_is side ahead in_it behind =
      let t = b.tiling in
      let is = row_of-tile_of t p beside.tiled near.inside in
      let span = in_span p.y t.height t.side (some_side t beside.tiled) near.inside.1 in
      let close : apart (row_of t b.tile) (p.y / t.side) ≤ 1 =
      subst (λ n. apart (row_of t b.tile) n ≤ 1) is near.rows in
      span_beside p.y t.height t.side (row_of t b.tile) (p.y / t.side) b.rect.y b.rect.h side span.0 span.1 close
      (ap (λ (r : Rect). r.y) beside.rect_is) (ap (λ (r : Rect). r.h) beside.rect_is) ahead in_it behind
      ∙ ap (λ n. n + 1) (sym is)

  pub tile_within : tile_of b.tiling p < count_of b.tiling
  tile_within = tile_of-within b.tiling p beside.tiled near.inside

  module _ (row column : ℕ) (row_here : row_of b.tiling b.tile + row ≡ row_of b.tiling (tile_of b.tiling p) + 1)
      (column_here : column_of b.tiling b.tile + column ≡ column_of b.tiling (tile_of b.tiling p) + 1) where
    pub number_is : b.tile + row * b.columns + column ≡ tile_of b.tiling p + (b.columns + 1)
    number_is =
        let t = b.tiling in
        subst (λ n. b.tile + row * n + column ≡ tile_of t p + (n + 1)) (sym beside.columns_are)
        (number_beside (columns_of t) (row_of t b.tile) (column_of t b.tile) (row_of t (tile_of t p))
        (column_of t (tile_of t p)) row column b.tile (tile_of t p) (tile_at_place t b.tile)
        (tile_at_place t (tile_of t p)) row_here column_here)

    pub place_is : 3 * row + column ≡ place_among b.tiling b.tile (tile_of b.tiling p)
    place_is = omega (arith, row_here, column_here)
