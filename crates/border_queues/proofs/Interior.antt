-- Pixels inside a tile have no neighbour in another tile.
use Rattle.std.proofs.Common.{◌≡◌, ℕ, zero, suc, ◌+◌, ◌<◌, ◌≤◌, Bool, false, cond, List, [], ◌∷◌, ◌++◌, map, refl, ap}
use Rattle.std.proofs.Common.{sym, ◌∙◌, arith, append-nil, ◌&&◌, not, nat_eq, nat_lt, Contains, filter, flat_map}
use Rattle.std.proofs.Common.{◌⊎◌, inl, inr}
use Rattle.std.proofs.lemmas.{Bool.cases_lt, Bool.eq-eqb, Bool.le-ltb, List.Elements.Contains-append_right}
use Rattle.std.specs.List.{range_with_len}
use Rattle.grid_core.specs.{declared.conn.Conn.Conn, declared.pixel.Pixel.Pixel, declared.rect.Rect.Rect}
use Rattle.grid_core.specs.{Raster.IsInside, RasterLaws.NeighboursByRows, Neighbours.AreNeighbours, Rects.IsInRect}
use Rattle.grid_core.specs.{Raster.IsOnBorder, Rows.rows_around, Tiles.tile_of}
use Rattle.border_queues.specs.{declared.hint.Hint.Hint, declared.border.Border.Border}
use Rattle.border_queues.specs.OpenEdges.{Sender, from_corner, hint_to, is_open, hints_to, hints_from, level_to}
use Rattle.border_queues.specs.Borders.{sender_of, told_to, IsBorder}
use Rattle.grid_core.proofs.{Common.and_false, Pixels.near}

-- a test that each element fails keeps none
pub filter_none : (test : Pixel → Bool) (qs : List Pixel) → ((q : Pixel) → Contains qs q → test q ≡ false)
    → filter test qs ≡ []
filter_none test [] fails = refl
filter_none test (q ∷ qs) fails =
    ap (λ b. cond b (q ∷ filter test qs) (filter test qs)) (fails q (0, omega arith, refl))
    ∙ filter_none test qs (λ r there. fails r (Contains-append_right (q ∷ []) qs r there))

-- the surroundings of a pixel that lies on no border of the rectangle lie in it
pub record IsInterior (rect : Rect) (p : Pixel) : Type 0 where
  pub left : rect.x < p.x
  pub right : p.x + 1 < rect.x + rect.w
  pub above : rect.y < p.y
  pub below : p.y + 1 < rect.y + rect.h

neighbour_in_rect : (rect : Rect) (conn : Conn) (p q : Pixel) → IsInterior rect p → AreNeighbours conn p q
    → IsInRect rect q
neighbour_in_rect rect conn p q interior beside =
    let close = near conn p q beside in (
      omega (arith, close, interior.left),
      omega (arith, close, interior.right),
      omega (arith, close, interior.above),
      omega (arith, close, interior.below),
    )

-- a pixel of a rectangle lies on its border or inside it
pub border_or_interior : (rect : Rect) (p : Pixel) → IsInRect rect p
    → IsOnBorder rect.w rect.h (from_corner rect p) ⊎ IsInterior rect p
border_or_interior rect p found = elim (cases_lt rect.x p.x) [
  | inr first ↦ inl (inl (omega (arith, first)))
  | inl left ↦ elim (cases_lt (p.x + 1) (rect.x + rect.w)) [
    | inr last ↦ inl (inr (inl (omega (arith, found, last))))
    | inl right ↦ elim (cases_lt rect.y p.y) [
      | inr first ↦ inl (inr (inr (inl (omega (arith, first)))))
      | inl above ↦ elim (cases_lt (p.y + 1) (rect.y + rect.h)) [
        | inr last ↦ inl (inr (inr (inr (omega (arith, found, last)))))
        | inl below ↦ inr (record { left = left; right = right; above = above; below = below })
      ]
    ]
  ]
]

-- a pixel inside a rectangle, all of whose pixels are the tile's, tells nothing
pub inner_tells_none : (s : Sender) (rect : Rect) (p : Pixel) → NeighboursByRows
    → IsInside s.tiles.width s.tiles.height p
    → ((q : Pixel) → IsInside s.tiles.width s.tiles.height q → IsInRect rect q → tile_of s.tiles q ≡ s.tile)
    → IsInterior rect p → hints_from s p ≡ []
inner_tells_none s rect p by_rows inside own interior =
    let around = by_rows s.conn s.tiles.width s.tiles.height p inside in
    ap (map (hint_to s (s.image p))) (filter_none (is_open s (s.image p))
    (rows_around s.conn s.tiles.width s.tiles.height p) (λ q there.
    let beside = (around.0 q).0 there in
    let same = own q beside.1 (neighbour_in_rect rect s.conn p q interior beside.0) in
    ap (λ t. not t && nat_lt (s.image q) (level_to s (s.image p) q)) (eq-eqb (tile_of s.tiles q) s.tile same)))

-- and so does one inside a tile whose border is walked
pub interior_tells_none : (b : Border) (p : Pixel) → IsBorder b → NeighboursByRows → IsInterior b.rect p
    → hints_from (sender_of b) p ≡ []
interior_tells_none b p border by_rows interior =
    let inside : IsInside b.tiling.width b.tiling.height p =
    (omega (arith, interior.right, border.fits.columns), omega (arith, interior.below, border.fits.rows)) in
    inner_tells_none (sender_of b) b.rect p by_rows inside (λ q there. (border.own q there).0) interior

-- nor is the tile's own pixel told anything
pub own_told_none : (b : Border) (value : ℕ) (q : Pixel) → IsBorder b → IsInside b.tiling.width b.tiling.height q
    → IsInRect b.rect q → told_to b value (q ∷ []) ≡ []
own_told_none b value q border inside own =
    let s = sender_of b in
    let same = (border.own q inside).0 own in
    ap (λ t. map (hint_to s value) (cond (not t && nat_lt (s.image q) (level_to s value q)) (q ∷ []) []))
    (eq-eqb (tile_of b.tiling q) b.tile same)

-- ---- a row tells what its ends tell

pub none_told : (f : ℕ → List Hint) (a n : ℕ) → ((k : ℕ) → a ≤ k → k < a + n → f k ≡ [])
    → flat_map f (range_with_len a n) ≡ []
none_told f a zero none = refl
none_told f a (suc n) none =
    ap (λ hs. hs ++ flat_map f (range_with_len (a + 1) n)) (none a (omega arith) (omega arith))
    ∙ none_told f (a + 1) n (λ k low high. none k (omega arith) (omega arith))

pub last_told : (f : ℕ → List Hint) (a n : ℕ) → ((k : ℕ) → a ≤ k → k < a + n → f k ≡ [])
    → flat_map f (range_with_len a (suc n)) ≡ f (a + n)
last_told f a zero none = let here : a ≡ a + 0 = omega arith in append-nil (f a) ∙ ap f here
last_told f a (suc n) none =
    let there : a + 1 + n ≡ a + suc n = omega arith in
    ap (λ hs. hs ++ flat_map f (range_with_len (a + 1) (suc n))) (none a (omega arith) (omega arith))
    ∙ last_told f (a + 1) n (λ k low high. none k (omega arith) (omega arith)) ∙ ap f there

pub ends_told : (f : ℕ → List Hint) (a n : ℕ) → ((k : ℕ) → a < k → k < a + suc n → f k ≡ [])
    → flat_map f (range_with_len a (suc (suc n))) ≡ f a ++ f (a + suc n)
ends_told f a n none =
    let there : a + 1 + n ≡ a + suc n = omega arith in
    ap (λ hs. f a ++ hs)
    (last_told f (a + 1) n (λ k low high. none k (omega arith) (omega arith)) ∙ ap f there)

-- a row with one pixel
pub end_told : (f : ℕ → List Hint) (a : ℕ) → flat_map f (range_with_len a 1) ≡ f a
end_told f a = append-nil (f a)

-- ---- a pixel of value 0 tells nothing

never_open : (s : Sender) (q : Pixel) → is_open s 0 q ≡ false
never_open s q =
    and_false (not (nat_eq (tile_of s.tiles q) s.tile)) (nat_lt (s.image q) (level_to s 0 q))
    (le-ltb (s.image q) (level_to s 0 q) (omega arith))

pub zero_tells_none : (s : Sender) (p : Pixel) → 0 ≡ s.image p → hints_from s p ≡ []
zero_tells_none s p black =
    let qs = rows_around s.conn s.tiles.width s.tiles.height p in
    ap (λ v. hints_to s v qs) (sym black)
    ∙ ap (map (hint_to s 0)) (filter_none (is_open s 0) qs (λ q there. never_open s q))
