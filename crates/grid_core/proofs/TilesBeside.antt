-- The tiles that touch a tile are the neighbours of its place among the tiles.
use Rattle.std.proofs.Common.{◌≡◌, ℕ, zero, suc, ◌+◌, ◌*◌, ◌<◌, ◌≤◌, List, [], ◌∷◌, inl, inr, length, get_or, map, ap}
use Rattle.std.proofs.Common.{sym, ◌∙◌, subst, arith, add-one, ◌↔◌, Contains}
use Rattle.std.proofs.{lemmas.Bool.cases_lt, lemmas.List.Elements.Contains-get_or}
use Rattle.std.proofs.lemmas.Nat.{div-mul-add, mod-mul-add, mul-add-lt, mul-le}
use Rattle.std.proofs.lemmas.List.{get_or-map, length-map}
use Rattle.std.specs.List.Sorted.{IsStrictlyIncreasing}
use Rattle.grid_core.specs.{declared.conn.Conn.TheVariants.Eight, declared.pixel.Pixel.Pixel}
use Rattle.grid_core.specs.Raster.{IsInside, index_of}
use Rattle.grid_core.specs.Neighbours.{apart, AreNeighbours, IsBefore, IsInRasterOrder}
use Rattle.grid_core.specs.Tiles.{Tiles, IsTiled, AreTouching, columns_of, rows_of, count_of, column_of, row_of}
use Rattle.grid_core.proofs.{Common.in_map, Tilings.column_of-within, Tilings.row_of-within, Tilings.tile_at_place}

-- ---- images of lists

-- the image of an element is an element of the image
pub Contains-map : {X : Type 0} (f : X → ℕ) (xs : List X) (x : X) → Contains xs x → Contains (map f xs) (f x)
Contains-map f xs x (k, within, there) =
    (k, subst (λ n. k < n) (sym (length-map xs f)) within, get_or-map f xs k x (f x) within ∙ ap f there)

-- ---- in raster order places rise

raster_step : (qs : List Pixel) (k : ℕ) (d : Pixel) → IsInRasterOrder qs → suc k < length qs
    → IsBefore (get_or qs k d) (get_or qs (suc k) d)
raster_step [] k d order within = absurd (omega arith)
raster_step (p ∷ []) k d order within = absurd (omega arith)
raster_step (p ∷ q ∷ rest) zero d order within = order.0.0
raster_step (p ∷ q ∷ rest) (suc k) d order within = raster_step (q ∷ rest) k d order.1 (omega arith)

pub before_rises : (w : ℕ) (p q : Pixel) → IsBefore p q → p.x < w → index_of w p < index_of w q
before_rises w p q (inl above) within =
    let row : (p.y + 1) * w ≤ q.y * w = mul-le (p.y + 1) w q.y w (omega arith) (omega arith) in
    omega (arith, row)
before_rises w p q (inr (same, left)) within = omega (arith, ap (λ y. y * w) same)

pub raster_order_rises : (w : ℕ) (qs : List Pixel) → IsInRasterOrder qs → ((q : Pixel) → Contains qs q → q.x < w)
    → IsStrictlyIncreasing (map (index_of w) qs)
raster_order_rises w qs order columns k within =
    let none : Pixel = record { x = 0; y = 0 } in
    let next : k + 1 < length qs = subst (λ n. k + 1 < n) (length-map qs (index_of w)) within in
    let here : k < length qs = omega arith in
    let step : IsBefore (get_or qs k none) (get_or qs (k + 1) none) =
    subst (λ n. IsBefore (get_or qs k none) (get_or qs n none)) (sym (add-one k))
    (raster_step qs k none order (omega arith)) in
    let rise = before_rises w (get_or qs k none) (get_or qs (k + 1) none) step
    (columns (get_or qs k none) (Contains-get_or qs k none here)) in
    omega (arith, rise, get_or-map (index_of w) qs k none 0 here, get_or-map (index_of w) qs (k + 1) none 0 next)

-- ---- tiles that touch

-- the place of a tile among the tiles: its column and row
abbrev pub place_of : Tiles → ℕ → Pixel
place_of t tile = record { x = column_of t tile; y = row_of t tile }

neighbour_touches : (t : Tiles) (tile : ℕ) (q : Pixel) → AreNeighbours Eight (place_of t tile) q
    → IsInside (columns_of t) (rows_of t) q
    → AreTouching t tile (index_of (columns_of t) q) × (index_of (columns_of t) q < count_of t)
neighbour_touches t tile q beside inside =
    let column : column_of t (index_of (columns_of t) q) ≡ q.x = mod-mul-add q.y (columns_of t) q.x inside.0 in
    let row : row_of t (index_of (columns_of t) q) ≡ q.y = div-mul-add q.y (columns_of t) q.x inside.0 in (
      record {
        other = λ same.
            let same_column : column_of t tile ≡ q.x = ap (column_of t) same ∙ column in
            let same_row : row_of t tile ≡ q.y = ap (row_of t) same ∙ row in
            omega (arith, beside);
        columns = omega (arith, column, beside);
        rows = omega (arith, row, beside);
      },
      mul-add-lt q.y (columns_of t) q.x (rows_of t) inside.1 inside.0,
    )

touching_is_neighbour : (t : Tiles) (tile other : ℕ) → IsTiled t → AreTouching t tile other → other < count_of t
    → AreNeighbours Eight (place_of t tile) (place_of t other) × IsInside (columns_of t) (rows_of t) (place_of t other)
touching_is_neighbour t tile other tiled touch within =
    let apart_at_all : 1 ≤ apart (column_of t tile) (column_of t other) + apart (row_of t tile) (row_of t other) =
    elim (cases_lt 0 (apart (column_of t tile) (column_of t other) + apart (row_of t tile) (row_of t other))) [
      | inl some ↦ omega (arith, some)
      | inr none ↦
          let column : column_of t tile ≡ column_of t other = omega (arith, none) in
          let row : row_of t tile ≡ row_of t other = omega (arith, none) in
          absurd (touch.other (sym (tile_at_place t tile) ∙ ap (λ r. r * columns_of t + column_of t tile) row
          ∙ ap (λ c. row_of t other * columns_of t + c) column ∙ tile_at_place t other))
    ]
    in
    ((touch.columns, touch.rows, apart_at_all), (column_of-within t other tiled, row_of-within t other tiled within))

pub touching_tiles : (t : Tiles) (tile : ℕ) (qs : List Pixel) → IsTiled t
    → ((q : Pixel) → Contains qs q
    ↔ (AreNeighbours Eight (place_of t tile) q × IsInside (columns_of t) (rows_of t) q))
    → (other : ℕ) → Contains (map (index_of (columns_of t)) qs) other
    ↔ (AreTouching t tile other × (other < count_of t))
touching_tiles t tile qs tiled around other = (
  λ found.
      let (q, there, same) = in_map (index_of (columns_of t)) qs other found in
      let beside = (around q).0 there in
      subst (λ n. AreTouching t tile n × (n < count_of t)) same (neighbour_touches t tile q beside.0 beside.1),
  λ (touch, within).
      subst (Contains (map (index_of (columns_of t)) qs)) (tile_at_place t other)
      (Contains-map (index_of (columns_of t)) qs (place_of t other)
      ((around (place_of t other)).1 (touching_is_neighbour t tile other tiled touch within))),
)
