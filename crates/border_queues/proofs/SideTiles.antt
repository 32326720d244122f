-- The tiles beyond the sides of a tile: each is another one, and has all pixels beyond its side.
use Rattle.std.proofs.Common.{◌≡◌, ◌≢◌, ℕ, zero, suc, ◌+◌, ◌-◌, ◌*◌, ◌/◌, ◌<◌, ◌≤◌, min, arith, refl, ap, sym, ◌∙◌}
use Rattle.std.proofs.lemmas.{Nat.div_below, Nat.le-div}
use Rattle.grid_core.specs.{declared.pixel.Pixel.Pixel, Rects.IsInRect}
use Rattle.grid_core.specs.Tiles.{Tiles, IsTiled, columns_of, count_of, column_of, row_of, tile_of, rect_of}
use Rattle.grid_core.proofs.Spans.{span_from, span_of-within}
use Rattle.grid_core.proofs.Tilings.{some_side, some_columns, column_of-within, tile_of-within, tile_at_place}
use Rattle.grid_core.proofs.Tilings.{tiles_lie_inside}
use Rattle.border_queues.specs.Sides.{at}

-- the tile beyond a side of a tile, where the image goes on there
abbrev pub above_of : Tiles → ℕ → ℕ
above_of tiles t = tile_of tiles (at (rect_of tiles t).x ((rect_of tiles t).y - 1))

abbrev pub below_of : Tiles → ℕ → ℕ
below_of tiles t = tile_of tiles (at (rect_of tiles t).x ((rect_of tiles t).y + (rect_of tiles t).h))

abbrev pub left_of : Tiles → ℕ → ℕ
left_of tiles t = tile_of tiles (at ((rect_of tiles t).x - 1) (rect_of tiles t).y)

abbrev pub right_of : Tiles → ℕ → ℕ
right_of tiles t = tile_of tiles (at ((rect_of tiles t).x + (rect_of tiles t).w) (rect_of tiles t).y)

-- the image goes on beyond a side of a tile
abbrev pub GoesOnAbove : Tiles → ℕ → Type 0
GoesOnAbove tiles t = 0 < (rect_of tiles t).y

abbrev pub GoesOnBelow : Tiles → ℕ → Type 0
GoesOnBelow tiles t = (rect_of tiles t).y + (rect_of tiles t).h < tiles.height

abbrev pub GoesOnLeft : Tiles → ℕ → Type 0
GoesOnLeft tiles t = 0 < (rect_of tiles t).x

abbrev pub GoesOnRight : Tiles → ℕ → Type 0
GoesOnRight tiles t = (rect_of tiles t).x + (rect_of tiles t).w < tiles.width

-- the pixel before a span lies in the span before it
before_span : (k s : ℕ) → 0 < s → 0 < k * s → (k * s - 1) / s + 1 ≡ k
before_span zero s positive some = absurd (omega arith)
before_span (suc k) s positive some =
    let below : (suc k * s - 1) / s < suc k = div_below (suc k * s - 1) s (suc k) positive (omega arith) in
    let least : k ≤ (suc k * s - 1) / s = le-div k (suc k * s - 1) s positive (omega arith) in
    omega arith

-- and the one after it in the span after it
after_span : (k n s : ℕ) → 0 < s → k * s + min s (n - k * s) < n → (k * s + min s (n - k * s)) / s ≡ k + 1
after_span k n s positive more =
    let next : ℕ = k * s + min s (n - k * s) in
    let whole : k * s + min s (n - k * s) ≡ k * s + s = omega arith in
    let below : next / s < k + 2 = div_below next s (k + 2) positive (omega arith) in
    let least : k + 1 ≤ next / s = le-div (k + 1) next s positive (omega arith) in
    omega arith

-- in which column of tiles the columns of a tile lie, and in which row its rows
column_in : (tiles : Tiles) (t x : ℕ) → IsTiled tiles → (rect_of tiles t).x ≤ x
    → x < (rect_of tiles t).x + (rect_of tiles t).w → x / tiles.side ≡ column_of tiles t
column_in tiles t x tiled from before =
    span_from x tiles.width tiles.side (column_of tiles t) (some_side tiles tiled) from before

row_in : (tiles : Tiles) (t y : ℕ) → IsTiled tiles → (rect_of tiles t).y ≤ y
    → y < (rect_of tiles t).y + (rect_of tiles t).h → y / tiles.side ≡ row_of tiles t
row_in tiles t y tiled from before =
    span_from y tiles.height tiles.side (row_of tiles t) (some_side tiles tiled) from before

-- the number of a tile, by its row and its column of tiles, and those of the tiles a row up and a row down
tile_at : (w r c t a b : ℕ) → r * w + c ≡ t → a ≡ r → b ≡ c → a * w + b ≡ t
tile_at w r c t a b is row column = ap (λ k. k * w + b) row ∙ ap (λ k. r * w + k) column ∙ is

next_row : (a w b t : ℕ) → (a + 1) * w + b ≡ t → a * w + b + w ≡ t
next_row a w b t is = omega (arith, is)

row_below : (w r c t : ℕ) → r * w + c ≡ t → (r + 1) * w + c ≡ t + w
row_below w r c t is = omega (arith, is)

-- each pixel of the rectangle lies in the tile
pub lies_in_tile : (tiles : Tiles) (t : ℕ) (q : Pixel) → IsTiled tiles → IsInRect (rect_of tiles t) q
    → tile_of tiles q ≡ t
lies_in_tile tiles t q tiled found =
    tile_at (columns_of tiles) (row_of tiles t) (column_of tiles t) t (q.y / tiles.side) (q.x / tiles.side)
    (tile_at_place tiles t) (row_in tiles t q.y tiled found.2 found.3) (column_in tiles t q.x tiled found.0 found.1)

-- the number of the tile above, below, to the left, and to the right
is_above : (tiles : Tiles) (t x : ℕ) → IsTiled tiles → GoesOnAbove tiles t → (rect_of tiles t).x ≤ x
    → x < (rect_of tiles t).x + (rect_of tiles t).w
    → tile_of tiles (at x ((rect_of tiles t).y - 1)) + columns_of tiles ≡ t
is_above tiles t x tiled some from before =
    let w : ℕ = columns_of tiles in
    let above : ℕ = ((rect_of tiles t).y - 1) / tiles.side in
    let row : above + 1 ≡ row_of tiles t = before_span (row_of tiles t) tiles.side (some_side tiles tiled) some in
    let is = tile_at w (row_of tiles t) (column_of tiles t) t (above + 1) (x / tiles.side) (tile_at_place tiles t) row
    (column_in tiles t x tiled from before) in
    next_row above w (x / tiles.side) t is

is_below : (tiles : Tiles) (t x : ℕ) → IsTiled tiles → GoesOnBelow tiles t
    → (rect_of tiles t).x ≤ x → x < (rect_of tiles t).x + (rect_of tiles t).w
    → tile_of tiles (at x ((rect_of tiles t).y + (rect_of tiles t).h)) ≡ t + columns_of tiles
is_below tiles t x tiled more from before =
    let w : ℕ = columns_of tiles in
    let row = after_span (row_of tiles t) tiles.height tiles.side (some_side tiles tiled) more in
    let is = row_below w (row_of tiles t) (column_of tiles t) t (tile_at_place tiles t) in
    tile_at w (row_of tiles t + 1) (column_of tiles t) (t + w)
    (((rect_of tiles t).y + (rect_of tiles t).h) / tiles.side) (x / tiles.side) is row
    (column_in tiles t x tiled from before)

is_left : (tiles : Tiles) (t y : ℕ) → IsTiled tiles → GoesOnLeft tiles t → (rect_of tiles t).y ≤ y
    → y < (rect_of tiles t).y + (rect_of tiles t).h
    → tile_of tiles (at ((rect_of tiles t).x - 1) y) + 1 ≡ t
is_left tiles t y tiled some from before =
    let w : ℕ = columns_of tiles in
    let left : ℕ = ((rect_of tiles t).x - 1) / tiles.side in
    let column : left + 1 ≡ column_of tiles t =
    before_span (column_of tiles t) tiles.side (some_side tiles tiled) some in
    let is = tile_at w (row_of tiles t) (column_of tiles t) t (y / tiles.side) (left + 1) (tile_at_place tiles t)
    (row_in tiles t y tiled from before) column in
    omega (arith, is)

is_right : (tiles : Tiles) (t y : ℕ) → IsTiled tiles → GoesOnRight tiles t
    → (rect_of tiles t).y ≤ y → y < (rect_of tiles t).y + (rect_of tiles t).h
    → tile_of tiles (at ((rect_of tiles t).x + (rect_of tiles t).w) y) ≡ t + 1
is_right tiles t y tiled more from before =
    let w : ℕ = columns_of tiles in
    let right : ℕ = ((rect_of tiles t).x + (rect_of tiles t).w) / tiles.side in
    let column : right ≡ column_of tiles t + 1 =
    after_span (column_of tiles t) tiles.width tiles.side (some_side tiles tiled) more in
    let is = tile_at w (row_of tiles t) (column_of tiles t) t (y / tiles.side) (column_of tiles t)
    (tile_at_place tiles t) (row_in tiles t y tiled from before) refl in
    ap (λ k. y / tiles.side * w + k) column ∙ omega (arith, is)

-- ---- where the pixels beyond a side lie

-- numbers that lie equally far before one are equal
same_before : (a b w t : ℕ) → a + w ≡ t → b + w ≡ t → a ≡ b
same_before a b w t a_is b_is = omega (arith, a_is, b_is)

-- the first pixel of a tile lies in it
pub first_x : (tiles : Tiles) (t : ℕ) → IsTiled tiles → t < count_of tiles
    → (rect_of tiles t).x < (rect_of tiles t).x + (rect_of tiles t).w
first_x tiles t tiled within = let fits = tiles_lie_inside tiles t tiled within in omega (arith, fits.some_width)

pub first_y : (tiles : Tiles) (t : ℕ) → IsTiled tiles → t < count_of tiles
    → (rect_of tiles t).y < (rect_of tiles t).y + (rect_of tiles t).h
first_y tiles t tiled within = let fits = tiles_lie_inside tiles t tiled within in omega (arith, fits.some_height)

-- the pixels beyond a side, at its columns or its rows, lie in one tile
pub column_above : (tiles : Tiles) (t x : ℕ) → IsTiled tiles → t < count_of tiles → GoesOnAbove tiles t
    → (rect_of tiles t).x ≤ x → x < (rect_of tiles t).x + (rect_of tiles t).w
    → tile_of tiles (at x ((rect_of tiles t).y - 1)) ≡ above_of tiles t
column_above tiles t x tiled within some from before =
    same_before (tile_of tiles (at x ((rect_of tiles t).y - 1))) (above_of tiles t) (columns_of tiles) t
    (is_above tiles t x tiled some from before)
    (is_above tiles t (rect_of tiles t).x tiled some (omega arith) (first_x tiles t tiled within))

pub column_below : (tiles : Tiles) (t x : ℕ) → IsTiled tiles → t < count_of tiles → GoesOnBelow tiles t
    → (rect_of tiles t).x ≤ x → x < (rect_of tiles t).x + (rect_of tiles t).w
    → tile_of tiles (at x ((rect_of tiles t).y + (rect_of tiles t).h)) ≡ below_of tiles t
column_below tiles t x tiled within more from before =
    is_below tiles t x tiled more from before
    ∙ sym (is_below tiles t (rect_of tiles t).x tiled more (omega arith) (first_x tiles t tiled within))

pub row_left : (tiles : Tiles) (t y : ℕ) → IsTiled tiles → t < count_of tiles → GoesOnLeft tiles t
    → (rect_of tiles t).y ≤ y → y < (rect_of tiles t).y + (rect_of tiles t).h
    → tile_of tiles (at ((rect_of tiles t).x - 1) y) ≡ left_of tiles t
row_left tiles t y tiled within some from before =
    same_before (tile_of tiles (at ((rect_of tiles t).x - 1) y)) (left_of tiles t) 1 t
    (is_left tiles t y tiled some from before)
    (is_left tiles t (rect_of tiles t).y tiled some (omega arith) (first_y tiles t tiled within))

pub row_right : (tiles : Tiles) (t y : ℕ) → IsTiled tiles → t < count_of tiles → GoesOnRight tiles t
    → (rect_of tiles t).y ≤ y → y < (rect_of tiles t).y + (rect_of tiles t).h
    → tile_of tiles (at ((rect_of tiles t).x + (rect_of tiles t).w) y) ≡ right_of tiles t
row_right tiles t y tiled within more from before =
    is_right tiles t y tiled more from before
    ∙ sym (is_right tiles t (rect_of tiles t).y tiled more (omega arith) (first_y tiles t tiled within))

-- and so do they by their places: in that of the first of them
pub along_above : (tiles : Tiles) (t i : ℕ) → IsTiled tiles → t < count_of tiles → GoesOnAbove tiles t
    → i < (rect_of tiles t).w
    → tile_of tiles (at ((rect_of tiles t).x + i) ((rect_of tiles t).y - 1)) ≡ above_of tiles t
along_above tiles t i tiled within some place =
    column_above tiles t ((rect_of tiles t).x + i) tiled within some (omega arith) (omega arith)

pub along_below : (tiles : Tiles) (t i : ℕ) → IsTiled tiles → t < count_of tiles → GoesOnBelow tiles t
    → i < (rect_of tiles t).w
    → tile_of tiles (at ((rect_of tiles t).x + i) ((rect_of tiles t).y + (rect_of tiles t).h)) ≡ below_of tiles t
along_below tiles t i tiled within more place =
    column_below tiles t ((rect_of tiles t).x + i) tiled within more (omega arith) (omega arith)

pub along_left : (tiles : Tiles) (t i : ℕ) → IsTiled tiles → t < count_of tiles → GoesOnLeft tiles t
    → i < (rect_of tiles t).h
    → tile_of tiles (at ((rect_of tiles t).x - 1) ((rect_of tiles t).y + i)) ≡ left_of tiles t
along_left tiles t i tiled within some place =
    row_left tiles t ((rect_of tiles t).y + i) tiled within some (omega arith) (omega arith)

pub along_right : (tiles : Tiles) (t i : ℕ) → IsTiled tiles → t < count_of tiles → GoesOnRight tiles t
    → i < (rect_of tiles t).h
    → tile_of tiles (at ((rect_of tiles t).x + (rect_of tiles t).w) ((rect_of tiles t).y + i)) ≡ right_of tiles t
along_right tiles t i tiled within more place =
    row_right tiles t ((rect_of tiles t).y + i) tiled within more (omega arith) (omega arith)

-- ---- the tiles beyond the sides are tiles

pub above_within : (tiles : Tiles) (t : ℕ) → IsTiled tiles → t < count_of tiles → GoesOnAbove tiles t
    → above_of tiles t < count_of tiles
above_within tiles t tiled within some =
    let fits = tiles_lie_inside tiles t tiled within in
    tile_of-within tiles (at (rect_of tiles t).x ((rect_of tiles t).y - 1)) tiled
    (omega (arith, fits.columns, fits.some_width), omega (arith, fits.rows, fits.some_height))

pub below_within : (tiles : Tiles) (t : ℕ) → IsTiled tiles → t < count_of tiles → GoesOnBelow tiles t
    → below_of tiles t < count_of tiles
below_within tiles t tiled within more =
    let fits = tiles_lie_inside tiles t tiled within in
    tile_of-within tiles (at (rect_of tiles t).x ((rect_of tiles t).y + (rect_of tiles t).h)) tiled
    (omega (arith, fits.columns, fits.some_width), omega (arith, fits.rows, fits.some_height))

pub left_within : (tiles : Tiles) (t : ℕ) → IsTiled tiles → t < count_of tiles → GoesOnLeft tiles t
    → left_of tiles t < count_of tiles
left_within tiles t tiled within some =
    let fits = tiles_lie_inside tiles t tiled within in
    tile_of-within tiles (at ((rect_of tiles t).x - 1) (rect_of tiles t).y) tiled
    (omega (arith, fits.columns, fits.some_width), omega (arith, fits.rows, fits.some_height))

pub right_within : (tiles : Tiles) (t : ℕ) → IsTiled tiles → t < count_of tiles → GoesOnRight tiles t
    → right_of tiles t < count_of tiles
right_within tiles t tiled within more =
    let fits = tiles_lie_inside tiles t tiled within in
    tile_of-within tiles (at ((rect_of tiles t).x + (rect_of tiles t).w) (rect_of tiles t).y) tiled
    (omega (arith, fits.columns, fits.some_width), omega (arith, fits.rows, fits.some_height))

-- ---- the tiles beyond the sides differ

-- a column that begins beyond the first pixel is not the first
more_than_one : (k s n : ℕ) → 0 < k * s → k < n → 1 < n
more_than_one zero s n some within = absurd (omega arith)
more_than_one (suc k) s n some within = omega arith

after_one : (a k n : ℕ) → a ≡ k + 1 → a < n → 1 < n
after_one a k n is within = omega arith

-- a number that is w less or more than t differs from t, and from one that differs from t by more or by less
less_differs : (a w t : ℕ) → 0 < w → a + w ≡ t → a ≢ t
less_differs a w t some is same = omega (arith, same)

more_differs : (a w t : ℕ) → 0 < w → a ≡ t + w → a ≢ t
more_differs a w t some is same = omega (arith, same)

ends_differ : (a b v w t : ℕ) → 0 < w → a + w ≡ t → b ≡ t + v → a ≢ b
ends_differ a b v w t some a_is b_is same = omega (arith, same)

less_by_more : (a b w t : ℕ) → 1 < w → a + w ≡ t → b + 1 ≡ t → a ≢ b
less_by_more a b w t some a_is b_is same = omega (arith, same)

more_by_more : (a b w t : ℕ) → 1 < w → a ≡ t + w → b ≡ t + 1 → a ≢ b
more_by_more a b w t some a_is b_is same = omega (arith, same)

-- tiles stand side by side where one lies to the left, or to the right
some_columns_left : (tiles : Tiles) (t : ℕ) → IsTiled tiles → GoesOnLeft tiles t → 1 < columns_of tiles
some_columns_left tiles t tiled some =
    more_than_one (column_of tiles t) tiles.side (columns_of tiles) some (column_of-within tiles t tiled)

some_columns_right : (tiles : Tiles) (t : ℕ) → IsTiled tiles
    → GoesOnRight tiles t → 1 < columns_of tiles
some_columns_right tiles t tiled more =
    let side = some_side tiles tiled in
    let next : ℕ = (rect_of tiles t).x + (rect_of tiles t).w in
    let column : next / tiles.side ≡ column_of tiles t + 1 = after_span
    (column_of tiles t) tiles.width tiles.side side more in
    after_one (next / tiles.side) (column_of tiles t) (columns_of tiles) column
    (span_of-within next tiles.width tiles.side side more)

pub above_other : (tiles : Tiles) (t : ℕ) → IsTiled tiles → t < count_of tiles → GoesOnAbove tiles t
    → above_of tiles t ≢ t
above_other tiles t tiled within some =
    less_differs (above_of tiles t) (columns_of tiles) t (some_columns tiles tiled)
    (is_above tiles t (rect_of tiles t).x tiled some (omega arith) (first_x tiles t tiled within))

pub below_other : (tiles : Tiles) (t : ℕ) → IsTiled tiles → t < count_of tiles → GoesOnBelow tiles t
    → below_of tiles t ≢ t
below_other tiles t tiled within more =
    more_differs (below_of tiles t) (columns_of tiles) t (some_columns tiles tiled)
    (is_below tiles t (rect_of tiles t).x tiled more (omega arith) (first_x tiles t tiled within))

pub left_other : (tiles : Tiles) (t : ℕ) → IsTiled tiles → t < count_of tiles → GoesOnLeft tiles t
    → left_of tiles t ≢ t
left_other tiles t tiled within some =
    less_differs (left_of tiles t) 1 t (omega arith)
    (is_left tiles t (rect_of tiles t).y tiled some (omega arith) (first_y tiles t tiled within))

pub right_other : (tiles : Tiles) (t : ℕ) → IsTiled tiles → t < count_of tiles → GoesOnRight tiles t
    → right_of tiles t ≢ t
right_other tiles t tiled within more =
    more_differs (right_of tiles t) 1 t (omega arith)
    (is_right tiles t (rect_of tiles t).y tiled more (omega arith) (first_y tiles t tiled within))

pub above_not_below : (tiles : Tiles) (t : ℕ) → IsTiled tiles → t < count_of tiles → GoesOnAbove tiles t
    → GoesOnBelow tiles t
    → above_of tiles t ≢ below_of tiles t
above_not_below tiles t tiled within in_a in_b =
    ends_differ (above_of tiles t) (below_of tiles t) (columns_of tiles) (columns_of tiles) t
    (some_columns tiles tiled)
    (is_above tiles t (rect_of tiles t).x tiled in_a (omega arith) (first_x tiles t tiled within))
    (is_below tiles t (rect_of tiles t).x tiled in_b (omega arith) (first_x tiles t tiled within))

pub above_not_left : (tiles : Tiles) (t : ℕ) → IsTiled tiles → t < count_of tiles → GoesOnAbove tiles t
    → GoesOnLeft tiles t
    → above_of tiles t ≢ left_of tiles t
above_not_left tiles t tiled within in_a in_b =
    less_by_more (above_of tiles t) (left_of tiles t) (columns_of tiles) t (some_columns_left tiles t tiled in_b)
    (is_above tiles t (rect_of tiles t).x tiled in_a (omega arith) (first_x tiles t tiled within))
    (is_left tiles t (rect_of tiles t).y tiled in_b (omega arith) (first_y tiles t tiled within))

pub above_not_right : (tiles : Tiles) (t : ℕ) → IsTiled tiles → t < count_of tiles → GoesOnAbove tiles t
    → GoesOnRight tiles t
    → above_of tiles t ≢ right_of tiles t
above_not_right tiles t tiled within in_a in_b =
    ends_differ (above_of tiles t) (right_of tiles t) 1 (columns_of tiles) t (some_columns tiles tiled)
    (is_above tiles t (rect_of tiles t).x tiled in_a (omega arith) (first_x tiles t tiled within))
    (is_right tiles t (rect_of tiles t).y tiled in_b (omega arith) (first_y tiles t tiled within))

pub below_not_right : (tiles : Tiles) (t : ℕ) → IsTiled tiles → t < count_of tiles → GoesOnBelow tiles t
    → GoesOnRight tiles t
    → below_of tiles t ≢ right_of tiles t
below_not_right tiles t tiled within in_a in_b =
    more_by_more (below_of tiles t) (right_of tiles t) (columns_of tiles) t (some_columns_right tiles t tiled in_b)
    (is_below tiles t (rect_of tiles t).x tiled in_a (omega arith) (first_x tiles t tiled within))
    (is_right tiles t (rect_of tiles t).y tiled in_b (omega arith) (first_y tiles t tiled within))

pub left_not_below : (tiles : Tiles) (t : ℕ) → IsTiled tiles → t < count_of tiles → GoesOnLeft tiles t
    → GoesOnBelow tiles t
    → left_of tiles t ≢ below_of tiles t
left_not_below tiles t tiled within in_a in_b =
    ends_differ (left_of tiles t) (below_of tiles t) (columns_of tiles) 1 t (omega arith)
    (is_left tiles t (rect_of tiles t).y tiled in_a (omega arith) (first_y tiles t tiled within))
    (is_below tiles t (rect_of tiles t).x tiled in_b (omega arith) (first_x tiles t tiled within))

pub left_not_right : (tiles : Tiles) (t : ℕ) → IsTiled tiles → t < count_of tiles → GoesOnLeft tiles t
    → GoesOnRight tiles t
    → left_of tiles t ≢ right_of tiles t
left_not_right tiles t tiled within in_a in_b =
    ends_differ (left_of tiles t) (right_of tiles t) 1 1 t (omega arith)
    (is_left tiles t (rect_of tiles t).y tiled in_a (omega arith) (first_y tiles t tiled within))
    (is_right tiles t (rect_of tiles t).y tiled in_b (omega arith) (first_y tiles t tiled within))
