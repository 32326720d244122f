-- By four neighbours, what a tile tells another is what it tells along the side between them.
use Rattle.std.proofs.Common.{◌≡◌, ◌≢◌, ℕ, zero, suc, ◌+◌, ◌-◌, ◌<◌, ◌≤◌, arith, refl, ap, sym, ◌∙◌}
use Rattle.std.proofs.Common.{◌⊎◌, Bool, true, false, cond, ◌&&◌, not, nat_lt, List, [], ◌∷◌, ◌++◌, map, flat_map}
use Rattle.std.proofs.Common.{append-nil, inl, inr}
use Rattle.std.proofs.lemmas.Bool.{cases_lt, eq-eqb, lt-ltb, ltb-true, Decides.eqb_tells}
use Rattle.std.proofs.lemmas.{List.Elements.filter-append}
use Rattle.std.specs.{Prelude.◌==◌, List.range_with_len}
use Rattle.grid_core.specs.{declared.pixel.Pixel.Pixel, declared.rect.Rect.Rect, Rects.IsInRect, Rows.pixel_if}
use Rattle.grid_core.specs.{Rows.rows_around, declared.conn.Conn.TheVariants.Four}
use Rattle.border_queues.specs.OpenEdges
use Rattle.border_queues.specs.{declared.hint.Hint.Hint, TileWork.hints_at, Sides.AreBySides, Sides.hints_along}
use Rattle.border_queues.specs.OpenEdges.{Sender, hint_to, hints_from, hints_to, is_open, level_to, open_edges}
use Rattle.border_queues.proofs.{Interior.last_told, Interior.none_told, Told.hints_to-append, Told.by_columns}
use Rattle.border_queues.proofs.Told.{by_rows}
use Rattle.grid_core.proofs.Common.{same_flat_map}
use Rattle.grid_core.specs.Tiles.{Tiles, IsTiled, count_of, tile_of, rect_of}
use Rattle.grid_core.proofs.Tilings.{tiles_lie_inside}
use Rattle.border_queues.specs.Sides.{at}
use Rattle.border_queues.proofs.SideTiles.{above_of, below_of, left_of, right_of, GoesOnAbove, GoesOnBelow}
use Rattle.border_queues.proofs.SideTiles.{GoesOnLeft, GoesOnRight, lies_in_tile, first_x, first_y, column_above}
use Rattle.border_queues.proofs.SideTiles.{column_below, row_left, row_right, above_not_below, above_not_left}
use Rattle.border_queues.proofs.SideTiles.{above_not_right, below_not_right, left_not_below, left_not_right}

-- ---- what is told one tile of a pixel's neighbours

-- the rectangle of the tile that tells
abbrev own : Sender → Rect
own s = rect_of s.tiles s.tile

-- the hints for tile t to those of these pixels that can be raised
abbrev kept : Sender → ℕ → ℕ → List Pixel → List Hint
kept s t value qs = hints_at s.tiles t (hints_to s value qs)

-- whether the hint is for tile t
abbrev is_for : Sender → ℕ → Hint → Bool
is_for s t hint = tile_of s.tiles hint.to_pixel == t

kept-append : (s : Sender) (t value : ℕ) (qs rs : List Pixel)
    → kept s t value (qs ++ rs) ≡ kept s t value qs ++ kept s t value rs
kept-append s t value qs rs =
    ap (hints_at s.tiles t) (hints_to-append s value qs rs)
    ∙ filter-append (is_for s t) (hints_to s value qs) (hints_to s value rs)

-- a hint to a pixel of tile t is for t, and one to another pixel is not
hint_kept : (s : Sender) (t value : ℕ) (q : Pixel) (raised : Bool) → tile_of s.tiles q ≡ t
    → hints_at s.tiles t (map (hint_to s value) (cond raised (q ∷ []) []))
    ≡ map (hint_to s value) (cond raised (q ∷ []) [])
hint_kept s t value q true same = ap (λ b. cond b (hint_to s value q ∷ []) []) (eq-eqb (tile_of s.tiles q) t same)
hint_kept s t value q false same = refl

hint_dropped : (s : Sender) (t value : ℕ) (q : Pixel) (raised : Bool) → tile_of s.tiles q ≢ t
    → hints_at s.tiles t (map (hint_to s value) (cond raised (q ∷ []) [])) ≡ []
hint_dropped s t value q true other = elim (eqb_tells (tile_of s.tiles q) t) [
  | inl (equal, same) ↦ absurd (other same)
  | inr (differ, not_same) ↦ ap (λ b. cond b (hint_to s value q ∷ []) []) differ
]
hint_dropped s t value q false other = refl

-- no hint is for a pixel of the tile itself
own_dropped : (s : Sender) (t value : ℕ) (q : Pixel) → tile_of s.tiles q ≡ s.tile → kept s t value (q ∷ []) ≡ []
own_dropped s t value q same =
    ap (λ n. hints_at s.tiles t (map (hint_to s value)
    (cond (not n && nat_lt (s.image q) (level_to s value q)) (q ∷ []) [])))
    (eq-eqb (tile_of s.tiles q) s.tile same)

-- of a neighbour that the image has
held : (s : Sender) (t value : ℕ) (has : Bool) (x y : ℕ) → has ≡ true → tile_of s.tiles (at x y) ≡ t
    → kept s t value (pixel_if has x y) ≡ hints_to s value (at x y ∷ [])
held s t value true x y is same = hint_kept s t value (at x y) (is_open s value (at x y)) same
held s t value false x y is same = absurd cc

skipped : (s : Sender) (t value : ℕ) (has : Bool) (x y : ℕ)
    → (has ≡ true → (tile_of s.tiles (at x y) ≡ s.tile) ⊎ (tile_of s.tiles (at x y) ≢ t))
    → kept s t value (pixel_if has x y) ≡ []
skipped s t value true x y lies = elim (lies refl) [
  | inl same ↦ own_dropped s t value (at x y) same
  | inr other ↦ hint_dropped s t value (at x y) (is_open s value (at x y)) other
]
skipped s t value false x y lies = refl

-- the pixel above, to the left, to the right and below
abbrev up_from : ℕ → ℕ → List Pixel
up_from x y = pixel_if (nat_lt 0 y) x (y - 1)

abbrev left_from : ℕ → ℕ → List Pixel
left_from x y = pixel_if (nat_lt 0 x) (x - 1) y

abbrev right_from : Sender → ℕ → ℕ → List Pixel
right_from s x y = pixel_if (nat_lt (x + 1) s.tiles.width) (x + 1) y

abbrev down_from : Sender → ℕ → ℕ → List Pixel
down_from s x y = pixel_if (nat_lt (y + 1) s.tiles.height) x (y + 1)

-- what a pixel tells one tile, by its four neighbours
four_kept : (s : Sender) (t x y : ℕ) (up left right down : List Hint) → s.conn ≡ Four
    → kept s t (s.image (at x y)) (up_from x y) ≡ up → kept s t (s.image (at x y)) (left_from x y) ≡ left
    → kept s t (s.image (at x y)) (right_from s x y) ≡ right → kept s t (s.image (at x y)) (down_from s x y) ≡ down
    → hints_at s.tiles t (hints_from s (at x y)) ≡ up ++ (left ++ right) ++ down
four_kept s t x y up left right down four up_is left_is right_is down_is =
    let value : ℕ = s.image (at x y) in
    let beside : List Pixel = left_from x y ++ [] ++ right_from s x y in
    let row : kept s t value beside ≡ left ++ right =
    kept-append s t value (left_from x y ++ []) (right_from s x y)
    ∙ (λ i. kept s t value (append-nil (left_from x y) i) ++ right_is i) ∙ ap (λ hs. hs ++ right) left_is in
    ap (λ conn. kept s t value (rows_around conn s.tiles.width s.tiles.height (at x y))) four
    ∙ kept-append s t value (up_from x y ++ beside) (down_from s x y)
    ∙ (λ i. kept-append s t value (up_from x y) beside i ++ down_is i) ∙ (λ i. (up_is i ++ row i) ++ down)

-- ---- what a pixel of the tile tells one tile

-- its neighbour above lies in the tile itself, or beyond the side above
up_skipped : (s : Sender) (t value x y : ℕ) → IsTiled s.tiles → s.tile < count_of s.tiles
    → IsInRect (own s) (at x y)
    → (GoesOnAbove s.tiles s.tile → y ≡ (own s).y → above_of s.tiles s.tile ≢ t)
    → kept s t value (up_from x y) ≡ []
up_skipped s t value x y tiled within found other =
    let rect : Rect = own s in
    skipped s t value (nat_lt 0 y) x (y - 1) (λ is.
    let some = ltb-true 0 y is in
    elim (cases_lt rect.y y) [
      | inl less ↦ inl (lies_in_tile s.tiles s.tile (at x (y - 1)) tiled
          (found.0, found.1, omega (arith, less), omega (arith, found)))
      | inr not_less ↦
          let first : y ≡ rect.y = omega (arith, found, not_less) in
          let begins : 0 < rect.y = omega (arith, some, first) in
          inr (λ same. other begins first (
          sym (ap (λ k. tile_of s.tiles (at x (k - 1))) first
          ∙ column_above s.tiles s.tile x tiled within begins found.0 found.1) ∙ same))
    ])

down_skipped : (s : Sender) (t value x y : ℕ) → IsTiled s.tiles → s.tile < count_of s.tiles
    → IsInRect (own s) (at x y)
    → (GoesOnBelow s.tiles s.tile
    → y + 1 ≡ (own s).y + (own s).h → below_of s.tiles s.tile ≢ t)
    → kept s t value (down_from s x y) ≡ []
down_skipped s t value x y tiled within found other =
    let rect : Rect = own s in
    skipped s t value (nat_lt (y + 1) s.tiles.height) x (y + 1) (λ is.
    let some = ltb-true (y + 1) s.tiles.height is in
    elim (cases_lt (y + 1) (rect.y + rect.h)) [
      | inl less ↦ inl (lies_in_tile s.tiles s.tile (at x (y + 1)) tiled
          (found.0, found.1, omega (arith, found), less))
      | inr not_less ↦
          let last : y + 1 ≡ rect.y + rect.h = omega (arith, found, not_less) in
          let more : rect.y + rect.h < s.tiles.height = omega (arith, some, last) in
          inr (λ same. other more last (
          sym (ap (λ k. tile_of s.tiles (at x k)) last
          ∙ column_below s.tiles s.tile x tiled within more found.0 found.1) ∙ same))
    ])

left_skipped : (s : Sender) (t value x y : ℕ) → IsTiled s.tiles → s.tile < count_of s.tiles
    → IsInRect (own s) (at x y)
    → (GoesOnLeft s.tiles s.tile → x ≡ (own s).x → left_of s.tiles s.tile ≢ t)
    → kept s t value (left_from x y) ≡ []
left_skipped s t value x y tiled within found other =
    let rect : Rect = own s in
    skipped s t value (nat_lt 0 x) (x - 1) y (λ is.
    let some = ltb-true 0 x is in
    elim (cases_lt rect.x x) [
      | inl less ↦ inl (lies_in_tile s.tiles s.tile (at (x - 1) y) tiled
          (omega (arith, less), omega (arith, found), found.2, found.3))
      | inr not_less ↦
          let first : x ≡ rect.x = omega (arith, found, not_less) in
          let begins : 0 < rect.x = omega (arith, some, first) in
          inr (λ same. other begins first (
          sym (ap (λ k. tile_of s.tiles (at (k - 1) y)) first
          ∙ row_left s.tiles s.tile y tiled within begins found.2 found.3) ∙ same))
    ])

right_skipped : (s : Sender) (t value x y : ℕ) → IsTiled s.tiles → s.tile < count_of s.tiles
    → IsInRect (own s) (at x y)
    → (GoesOnRight s.tiles s.tile
    → x + 1 ≡ (own s).x + (own s).w → right_of s.tiles s.tile ≢ t)
    → kept s t value (right_from s x y) ≡ []
right_skipped s t value x y tiled within found other =
    let rect : Rect = own s in
    skipped s t value (nat_lt (x + 1) s.tiles.width) (x + 1) y (λ is.
    let some = ltb-true (x + 1) s.tiles.width is in
    elim (cases_lt (x + 1) (rect.x + rect.w)) [
      | inl less ↦ inl (lies_in_tile s.tiles s.tile (at (x + 1) y) tiled
          (omega (arith, found), less, found.2, found.3))
      | inr not_less ↦
          let last : x + 1 ≡ rect.x + rect.w = omega (arith, found, not_less) in
          let more : rect.x + rect.w < s.tiles.width = omega (arith, some, last) in
          inr (λ same. other more last (
          sym (ap (λ k. tile_of s.tiles (at k y)) last
          ∙ row_right s.tiles s.tile y tiled within more found.2 found.3) ∙ same))
    ])

-- what is told beyond a side goes to the tile beyond it
up_held : (s : Sender) (value x : ℕ) → IsTiled s.tiles → s.tile < count_of s.tiles
    → GoesOnAbove s.tiles s.tile → (own s).x ≤ x → x < (own s).x + (own s).w
    → kept s (above_of s.tiles s.tile) value (up_from x (own s).y)
    ≡ hints_to s value (at x ((own s).y - 1) ∷ [])
up_held s value x tiled within some from before =
    let rect : Rect = own s in
    held s (above_of s.tiles s.tile) value (nat_lt 0 rect.y) x (rect.y - 1) (lt-ltb 0 rect.y some)
    (column_above s.tiles s.tile x tiled within some from before)

down_held : (s : Sender) (value x y : ℕ) → IsTiled s.tiles → s.tile < count_of s.tiles
    → GoesOnBelow s.tiles s.tile → y + 1 ≡ (own s).y + (own s).h
    → (own s).x ≤ x → x < (own s).x + (own s).w
    → kept s (below_of s.tiles s.tile) value (down_from s x y)
    ≡ hints_to s value (at x ((own s).y + (own s).h) ∷ [])
down_held s value x y tiled within more last from before =
    held s (below_of s.tiles s.tile) value (nat_lt (y + 1) s.tiles.height) x (y + 1)
    (lt-ltb (y + 1) s.tiles.height (omega (arith, more, last)))
    (ap (λ k. tile_of s.tiles (at x k)) last ∙ column_below s.tiles s.tile x tiled within more from before)
    ∙ ap (λ k. hints_to s value (at x k ∷ [])) last

left_held : (s : Sender) (value y : ℕ) → IsTiled s.tiles → s.tile < count_of s.tiles
    → GoesOnLeft s.tiles s.tile → (own s).y ≤ y → y < (own s).y + (own s).h
    → kept s (left_of s.tiles s.tile) value (left_from (own s).x y)
    ≡ hints_to s value (at ((own s).x - 1) y ∷ [])
left_held s value y tiled within some from before =
    let rect : Rect = own s in
    held s (left_of s.tiles s.tile) value (nat_lt 0 rect.x) (rect.x - 1) y (lt-ltb 0 rect.x some)
    (row_left s.tiles s.tile y tiled within some from before)

right_held : (s : Sender) (value x y : ℕ) → IsTiled s.tiles → s.tile < count_of s.tiles
    → GoesOnRight s.tiles s.tile → x + 1 ≡ (own s).x + (own s).w
    → (own s).y ≤ y → y < (own s).y + (own s).h
    → kept s (right_of s.tiles s.tile) value (right_from s x y)
    ≡ hints_to s value (at ((own s).x + (own s).w) y ∷ [])
right_held s value x y tiled within more last from before =
    held s (right_of s.tiles s.tile) value (nat_lt (x + 1) s.tiles.width) (x + 1) y
    (lt-ltb (x + 1) s.tiles.width (omega (arith, more, last)))
    (ap (λ k. tile_of s.tiles (at k y)) last ∙ row_right s.tiles s.tile y tiled within more from before)
    ∙ ap (λ k. hints_to s value (at k y ∷ [])) last

-- ---- sums of hints, of which one term is left, or that are counted from 0

-- all terms but the first, or all but the last, are empty
first_left : (f : ℕ → List Hint) (a n : ℕ) → 0 < n → ((k : ℕ) → a < k → k < a + n → f k ≡ [])
    → flat_map f (range_with_len a n) ≡ f a
first_left f a zero some none = absurd (omega arith)
first_left f a (suc n) some none =
    ap (λ hs. f a ++ hs) (none_told f (a + 1) n (λ k low high. none k (omega arith) (omega arith)))
    ∙ append-nil (f a)

last_left : (f : ℕ → List Hint) (a n : ℕ) → 0 < n → ((k : ℕ) → a ≤ k → k + 1 < a + n → f k ≡ [])
    → flat_map f (range_with_len a n) ≡ f (a + n - 1)
last_left f a zero some none = absurd (omega arith)
last_left f a (suc n) some none =
    let here : a + n ≡ a + suc n - 1 = omega arith in
    last_told f a n (λ k low high. none k low (omega arith)) ∙ ap f here

-- as many numbers from another one on
shifted : (f g : ℕ → List Hint) (a b n : ℕ) → ((i : ℕ) → i < n → f (a + i) ≡ g (b + i))
    → flat_map f (range_with_len a n) ≡ flat_map g (range_with_len b n)
shifted f g a b zero same = refl
shifted f g a b (suc n) same =
    let a_first : a ≡ a + 0 = omega arith in
    let b_first : b + 0 ≡ b = omega arith in
    let first : f a ≡ g b = ap f a_first ∙ same 0 (omega arith) ∙ ap g b_first in
    let rest = shifted f g (a + 1) (b + 1) n (λ i less.
    let a_next : a + 1 + i ≡ a + (i + 1) = omega arith in
    let b_next : b + (i + 1) ≡ b + 1 + i = omega arith in
    ap f a_next ∙ same (i + 1) (omega arith) ∙ ap g b_next) in
    (λ j. first j ++ rest j)

from_zero : (f g : ℕ → List Hint) (a n : ℕ) → ((i : ℕ) → i < n → f (a + i) ≡ g i)
    → flat_map f (range_with_len a n) ≡ flat_map g (range_with_len 0 n)
from_zero f g a n same =
    shifted f g a 0 n (λ i less. let here : i ≡ 0 + i = omega arith in same i less ∙ ap g here)

-- ---- what the tile tells another, pixel by pixel

-- the hints for tile t of a sum of hints are the sum of those
kept_sum : {X : Type 0} (tiles : Tiles) (t : ℕ) (f : X → List Hint) (xs : List X)
    → hints_at tiles t (flat_map f xs) ≡ flat_map (λ x. hints_at tiles t (f x)) xs
kept_sum tiles t f [] = refl
kept_sum tiles t f (x ∷ xs) =
    filter-append (λ hint. tile_of tiles hint.to_pixel == t) (f x) (flat_map f xs)
    ∙ ap (λ hs. hints_at tiles t (f x) ++ hs) (kept_sum tiles t f xs)

-- what the pixel tells tile t, and what a row does
abbrev from_pixel : Sender → ℕ → ℕ → ℕ → List Hint
from_pixel s t y x = hints_at s.tiles t (hints_from s (at x y))

abbrev from_row : Sender → ℕ → ℕ → List Hint
from_row s t y =
    flat_map (from_pixel s t y) (range_with_len (own s).x (own s).w)

-- what the tile tells tile t, row by row and column by column
by_pixels : (s : Sender) (t : ℕ)
    → hints_at s.tiles t (open_edges s)
    ≡ flat_map (from_row s t) (range_with_len (own s).y (own s).h)
by_pixels s t =
    let rect : Rect = own s in
    ap (hints_at s.tiles t) (by_rows s rect)
    ∙ kept_sum s.tiles t (λ y. flat_map (hints_from s) (OpenEdges.row_of rect y)) (range_with_len rect.y rect.h)
    ∙ same_flat_map (λ y. hints_at s.tiles t (flat_map (hints_from s) (OpenEdges.row_of rect y))) (from_row s t)
    (range_with_len rect.y rect.h) (λ y there.
    ap (hints_at s.tiles t) (by_columns s rect y)
    ∙ kept_sum s.tiles t (λ x. hints_from s (at x y)) (range_with_len rect.x rect.w))

-- tile t does not lie beyond the side, if the pixel lies at it
abbrev NotAbove : Sender → ℕ → ℕ → Type 0
NotAbove s t y = GoesOnAbove s.tiles s.tile → y ≡ (own s).y → above_of s.tiles s.tile ≢ t

abbrev NotBelow : Sender → ℕ → ℕ → Type 0
NotBelow s t y =
    GoesOnBelow s.tiles s.tile
    → y + 1 ≡ (own s).y + (own s).h → below_of s.tiles s.tile ≢ t

abbrev NotLeft : Sender → ℕ → ℕ → Type 0
NotLeft s t x = GoesOnLeft s.tiles s.tile → x ≡ (own s).x → left_of s.tiles s.tile ≢ t

abbrev NotRight : Sender → ℕ → ℕ → Type 0
NotRight s t x =
    GoesOnRight s.tiles s.tile
    → x + 1 ≡ (own s).x + (own s).w → right_of s.tiles s.tile ≢ t

-- a pixel that lies at no side beyond which tile t lies tells t nothing
pixel_none : (s : Sender) (t x y : ℕ) → IsTiled s.tiles → s.tile < count_of s.tiles → s.conn ≡ Four
    → IsInRect (own s) (at x y) → NotAbove s t y → NotLeft s t x → NotRight s t x → NotBelow s t y
    → from_pixel s t y x ≡ []
pixel_none s t x y tiled within four found above left right below =
    let value : ℕ = s.image (at x y) in
    four_kept s t x y [] [] [] [] four (up_skipped s t value x y tiled within found above)
    (left_skipped s t value x y tiled within found left) (right_skipped s t value x y tiled within found right)
    (down_skipped s t value x y tiled within found below)

-- the last of some numbers is not before the first
last_at : (a n k : ℕ) → k + 1 ≡ a + n → a < a + n → a ≤ k
last_at a n k last some = omega (arith, last, some)

-- and one that lies at a side tells the tile beyond it what lies beyond the side
pixel_above : (s : Sender) (x : ℕ) → IsTiled s.tiles → s.tile < count_of s.tiles → s.conn ≡ Four
    → GoesOnAbove s.tiles s.tile → (own s).x ≤ x → x < (own s).x + (own s).w
    → from_pixel s (above_of s.tiles s.tile) (own s).y x
    ≡ hints_to s (s.image (at x (own s).y)) (at x ((own s).y - 1) ∷ [])
pixel_above s x tiled within four in_above from before =
    let rect : Rect = own s in
    let t : ℕ = above_of s.tiles s.tile in
    let value : ℕ = s.image (at x rect.y) in
    let told : List Hint = hints_to s value (at x (rect.y - 1) ∷ []) in
    let found : IsInRect (own s) (at x rect.y) = (from, before, omega arith, first_y s.tiles s.tile tiled within) in
    four_kept s t x rect.y told [] [] [] four
    (up_held s value x tiled within in_above from before)
    (left_skipped s t value x rect.y tiled within found
    (λ in_left there same. above_not_left s.tiles s.tile tiled within in_above in_left (sym same)))
    (right_skipped s t value x rect.y tiled within found
    (λ in_right there same. above_not_right s.tiles s.tile tiled within in_above in_right (sym same)))
    (down_skipped s t value x rect.y tiled within found
    (λ in_below there same. above_not_below s.tiles s.tile tiled within in_above in_below (sym same)))
    ∙ append-nil (told ++ []) ∙ append-nil told

pixel_left : (s : Sender) (y : ℕ) → IsTiled s.tiles → s.tile < count_of s.tiles → s.conn ≡ Four
    → GoesOnLeft s.tiles s.tile → (own s).y ≤ y → y < (own s).y + (own s).h
    → from_pixel s (left_of s.tiles s.tile) y (own s).x
    ≡ hints_to s (s.image (at (own s).x y)) (at ((own s).x - 1) y ∷ [])
pixel_left s y tiled within four in_left from before =
    let rect : Rect = own s in
    let t : ℕ = left_of s.tiles s.tile in
    let value : ℕ = s.image (at rect.x y) in
    let told : List Hint = hints_to s value (at (rect.x - 1) y ∷ []) in
    let found : IsInRect (own s) (at rect.x y) = (omega arith, first_x s.tiles s.tile tiled within, from, before) in
    four_kept s t rect.x y [] told [] [] four
    (up_skipped s t value rect.x y tiled within found
    (λ in_above there. above_not_left s.tiles s.tile tiled within in_above in_left))
    (left_held s value y tiled within in_left from before)
    (right_skipped s t value rect.x y tiled within found
    (λ in_right there same. left_not_right s.tiles s.tile tiled within in_left in_right (sym same)))
    (down_skipped s t value rect.x y tiled within found
    (λ in_below there same. left_not_below s.tiles s.tile tiled within in_left in_below (sym same)))
    ∙ append-nil (told ++ []) ∙ append-nil told

pixel_right : (s : Sender) (x y : ℕ) → IsTiled s.tiles → s.tile < count_of s.tiles → s.conn ≡ Four
    → GoesOnRight s.tiles s.tile → x + 1 ≡ (own s).x + (own s).w → (own s).y ≤ y
    → y < (own s).y + (own s).h
    → from_pixel s (right_of s.tiles s.tile) y x ≡ hints_to s (s.image (at x y)) (at ((own s).x + (own s).w) y ∷ [])
pixel_right s x y tiled within four in_right last from before =
    let t : ℕ = right_of s.tiles s.tile in
    let value : ℕ = s.image (at x y) in
    let told : List Hint = hints_to s value (at ((own s).x + (own s).w) y ∷ []) in
    let found : IsInRect (own s) (at x y) = (
      last_at (own s).x (own s).w x last
          (first_x s.tiles s.tile tiled within),
      omega (arith, last),
      from,
      before,
    ) in
    four_kept s t x y [] [] told [] four
    (up_skipped s t value x y tiled within found
    (λ in_above there. above_not_right s.tiles s.tile tiled within in_above in_right))
    (left_skipped s t value x y tiled within found
    (λ in_left there. left_not_right s.tiles s.tile tiled within in_left in_right))
    (right_held s value x y tiled within in_right last from before)
    (down_skipped s t value x y tiled within found
    (λ in_below there. below_not_right s.tiles s.tile tiled within in_below in_right))
    ∙ append-nil told

pixel_below : (s : Sender) (x y : ℕ) → IsTiled s.tiles → s.tile < count_of s.tiles → s.conn ≡ Four
    → GoesOnBelow s.tiles s.tile → y + 1 ≡ (own s).y + (own s).h → (own s).x ≤ x
    → x < (own s).x + (own s).w
    → from_pixel s (below_of s.tiles s.tile) y x ≡ hints_to s (s.image (at x y)) (at x ((own s).y + (own s).h) ∷ [])
pixel_below s x y tiled within four in_below last from before =
    let t : ℕ = below_of s.tiles s.tile in
    let value : ℕ = s.image (at x y) in
    let told : List Hint = hints_to s value (at x ((own s).y + (own s).h) ∷ []) in
    let found : IsInRect (own s) (at x y) = (
      from,
      before,
      last_at (own s).y (own s).h y last
          (first_y s.tiles s.tile tiled within),
      omega (arith, last),
    ) in
    four_kept s t x y [] [] [] told four
    (up_skipped s t value x y tiled within found
    (λ in_above there. above_not_below s.tiles s.tile tiled within in_above in_below))
    (left_skipped s t value x y tiled within found
    (λ in_left there. left_not_below s.tiles s.tile tiled within in_left in_below))
    (right_skipped s t value x y tiled within found
    (λ in_right there same. below_not_right s.tiles s.tile tiled within in_below in_right (sym same)))
    (down_held s value x y tiled within in_below last from before)

-- ---- what the tile tells another, side by side

-- a tile tells the tile beyond a side what it tells along that side
told_above : (s : Sender) → IsTiled s.tiles → s.tile < count_of s.tiles → s.conn ≡ Four
    → GoesOnAbove s.tiles s.tile
    → hints_at s.tiles (above_of s.tiles s.tile) (open_edges s)
    ≡ hints_along s (own s).w (λ i. at ((own s).x + i) (own s).y) (λ i. at ((own s).x + i) ((own s).y - 1))
told_above s tiled within four in_above =
    let rect : Rect = own s in
    let fits = tiles_lie_inside s.tiles s.tile tiled within in
    let t : ℕ = above_of s.tiles s.tile in
    by_pixels s t
    ∙ first_left (from_row s t) rect.y rect.h fits.some_height (λ y low high.
    none_told (from_pixel s t y) rect.x rect.w (λ x from before.
    pixel_none s t x y tiled within four (from, before, omega arith, high)
    (λ in_above there. absurd (omega arith))
    (λ in_left there same. above_not_left s.tiles s.tile tiled within in_above in_left (sym same))
    (λ in_right there same. above_not_right s.tiles s.tile tiled within in_above in_right (sym same))
    (λ in_below there same. above_not_below s.tiles s.tile tiled within in_above in_below (sym same))))
    ∙ from_zero (from_pixel s t rect.y) (λ i. hints_to s (s.image (at (rect.x + i) rect.y))
    (at (rect.x + i) (rect.y - 1) ∷ [])) rect.x rect.w (λ i less.
    pixel_above s (rect.x + i) tiled within four in_above (omega arith) (omega arith))

told_left : (s : Sender) → IsTiled s.tiles → s.tile < count_of s.tiles → s.conn ≡ Four
    → GoesOnLeft s.tiles s.tile
    → hints_at s.tiles (left_of s.tiles s.tile) (open_edges s)
    ≡ hints_along s (own s).h (λ i. at (own s).x ((own s).y + i)) (λ i. at ((own s).x - 1) ((own s).y + i))
told_left s tiled within four in_left =
    let rect : Rect = own s in
    let fits = tiles_lie_inside s.tiles s.tile tiled within in
    let t : ℕ = left_of s.tiles s.tile in
    by_pixels s t
    ∙ from_zero (from_row s t) (λ i. hints_to s (s.image (at rect.x (rect.y + i)))
    (at (rect.x - 1) (rect.y + i) ∷ [])) rect.y rect.h (λ i less.
    first_left (from_pixel s t (rect.y + i)) rect.x rect.w fits.some_width (λ x low high.
    pixel_none s t x (rect.y + i) tiled within four (omega arith, high, omega arith, omega arith)
    (λ in_above there. above_not_left s.tiles s.tile tiled within in_above in_left)
    (λ in_left there. absurd (omega arith))
    (λ in_right there same. left_not_right s.tiles s.tile tiled within in_left in_right (sym same))
    (λ in_below there same. left_not_below s.tiles s.tile tiled within in_left in_below (sym same)))
    ∙ pixel_left s (rect.y + i) tiled within four in_left (omega arith) (omega arith))

told_right : (s : Sender) → IsTiled s.tiles → s.tile < count_of s.tiles → s.conn ≡ Four
    → GoesOnRight s.tiles s.tile
    → hints_at s.tiles (right_of s.tiles s.tile) (open_edges s)
    ≡ hints_along s (own s).h (λ i. at ((own s).x + (own s).w - 1) ((own s).y + i))
    (λ i. at ((own s).x + (own s).w) ((own s).y + i))
told_right s tiled within four in_right =
    let rect : Rect = own s in
    let fits = tiles_lie_inside s.tiles s.tile tiled within in
    let t : ℕ = right_of s.tiles s.tile in
    by_pixels s t
    ∙ from_zero (from_row s t) (λ i. hints_to s (s.image (at (rect.x + rect.w - 1) (rect.y + i)))
    (at (rect.x + rect.w) (rect.y + i) ∷ [])) rect.y rect.h (λ i less.
    last_left (from_pixel s t (rect.y + i)) rect.x rect.w fits.some_width (λ x low high.
    pixel_none s t x (rect.y + i) tiled within four (low, omega arith, omega arith, omega arith)
    (λ in_above there. above_not_right s.tiles s.tile tiled within in_above in_right)
    (λ in_left there. left_not_right s.tiles s.tile tiled within in_left in_right)
    (λ in_right there. absurd (omega arith))
    (λ in_below there. below_not_right s.tiles s.tile tiled within in_below in_right))
    ∙ pixel_right s (rect.x + rect.w - 1) (rect.y + i) tiled within four in_right
    (omega (arith, fits.some_width)) (omega arith) (omega arith))

told_below : (s : Sender) → IsTiled s.tiles → s.tile < count_of s.tiles → s.conn ≡ Four
    → GoesOnBelow s.tiles s.tile
    → hints_at s.tiles (below_of s.tiles s.tile) (open_edges s)
    ≡ hints_along s (own s).w (λ i. at ((own s).x + i) ((own s).y + (own s).h - 1))
    (λ i. at ((own s).x + i) ((own s).y + (own s).h))
told_below s tiled within four in_below =
    let rect : Rect = own s in
    let fits = tiles_lie_inside s.tiles s.tile tiled within in
    let t : ℕ = below_of s.tiles s.tile in
    by_pixels s t
    ∙ last_left (from_row s t) rect.y rect.h fits.some_height (λ y low high.
    none_told (from_pixel s t y) rect.x rect.w (λ x from before.
    pixel_none s t x y tiled within four (from, before, low, omega arith)
    (λ in_above there. above_not_below s.tiles s.tile tiled within in_above in_below)
    (λ in_left there. left_not_below s.tiles s.tile tiled within in_left in_below)
    (λ in_right there same. below_not_right s.tiles s.tile tiled within in_below in_right (sym same))
    (λ in_below there. absurd (omega arith))))
    ∙ from_zero (from_pixel s t (rect.y + rect.h - 1)) (λ i. hints_to s
    (s.image (at (rect.x + i) (rect.y + rect.h - 1))) (at (rect.x + i) (rect.y + rect.h) ∷ [])) rect.x rect.w
    (λ i less.
    pixel_below s (rect.x + i) (rect.y + rect.h - 1) tiled within four in_below
    (omega (arith, fits.some_height)) (omega arith) (omega arith))

-- and it tells no other tile anything
told_none : (s : Sender) (t : ℕ) → IsTiled s.tiles → s.tile < count_of s.tiles → s.conn ≡ Four
    → (GoesOnAbove s.tiles s.tile → t ≡ above_of s.tiles s.tile → ⊥)
    → (GoesOnBelow s.tiles s.tile → t ≡ below_of s.tiles s.tile → ⊥)
    → (GoesOnLeft s.tiles s.tile → t ≡ left_of s.tiles s.tile → ⊥)
    → (GoesOnRight s.tiles s.tile → t ≡ right_of s.tiles s.tile → ⊥)
    → hints_at s.tiles t (open_edges s) ≡ []
told_none s t tiled within four above below left right =
    let rect : Rect = own s in
    by_pixels s t
    ∙ none_told (from_row s t) rect.y rect.h (λ y top bottom.
    none_told (from_pixel s t y) rect.x rect.w (λ x from before.
    pixel_none s t x y tiled within four (from, before, top, bottom) (λ goes_on there same. above goes_on (sym same))
    (λ goes_on there same. left goes_on (sym same)) (λ goes_on there same. right goes_on (sym same))
    (λ goes_on there same. below goes_on (sym same))))

-- by four neighbours, the hints of a tile are those along its sides, each for the tile beyond it
pub by_sides : (s : Sender) → IsTiled s.tiles → s.tile < count_of s.tiles → s.conn ≡ Four
    → AreBySides s (rect_of s.tiles s.tile)
by_sides s tiled within four = record {
  above = told_above s tiled within four;
  below = told_below s tiled within four;
  left = told_left s tiled within four;
  right = told_right s tiled within four;
  none = λ t above below left right. told_none s t tiled within four above below left right;
}
