-- Rectangles that are added one after another: what they cover, that they are apart, and where they end.
use Rattle.std.proofs.Common.{◌≡◌, ℕ, zero, suc, ◌+◌, ◌*◌, ◌<◌, ◌≤◌, ◌⊎◌, inl, inr, sym, subst, arith}
use Rattle.std.proofs.Common.{List, [], ◌∷◌, ◌++◌, ◌↔◌, refl, slice_index, Contains}
use Rattle.std.proofs.{lemmas.Bool.cases_eq, lemmas.Bool.cases_lt, lemmas.Bool.Decides.leb_tells}
use Rattle.std.proofs.lemmas.Nat.{div-add-mod', div-mul-add, mod-mul-add, mod_below}
use Rattle.std.proofs.lemmas.List.Elements.{Contains-push, Contains-push_cases, Contains-append_left}
use Rattle.grid_core.specs.{declared.pixel.Pixel.Pixel, declared.rect.Rect.Rect, Rects.IsInRect, Rects.RectFits}
use Rattle.grid_core.specs.Tiles.{Tiles, columns_of, rows_of, count_of, column_of, row_of, rect_of, rect_from}
use Rattle.page_board.specs.Changes.{IsCovered, AllFit, AreApart, IsBehind}
use Rattle.page_board.specs.Strips.{IsInTileSince, AreStripsTo, joined, IsAdded, IsContinued, EndsBefore, AllEndBefore}

-- ---- one rectangle more

pub covered_push : (rects : List Rect) (rect : Rect) (p : Pixel)
    → IsCovered (rects ++ rect ∷ []) p ↔ (IsCovered rects p ⊎ IsInRect rect p)
covered_push rects rect p = (
  λ covered. elim (Contains-push_cases rects rect covered.0 covered.1) [
    | inl there ↦ inl (covered.0, there, covered.2)
    | inr same ↦ inr (subst (λ (r : Rect). IsInRect r p) (sym same) covered.2)
  ],
  λ either. elim either [
    | inl covered ↦ (covered.0, Contains-append_left rects (rect ∷ []) covered.0 covered.1, covered.2)
    | inr within ↦ (rect, Contains-push rects rect, within)
  ],
)

pub all_fit_push : (width height : ℕ) (rects : List Rect) (rect : Rect) → AllFit width height rects
    → RectFits width height rect → AllFit width height (rects ++ rect ∷ [])
all_fit_push width height rects rect all fits other there = elim (Contains-push_cases rects rect other there) [
  | inl old ↦ all other old
  | inr same ↦ subst (RectFits width height) same fits
]

pub front_fits : (width height : ℕ) (rects : List Rect) (rect : Rect) → AllFit width height (rects ++ rect ∷ [])
    → AllFit width height rects
front_fits width height rects rect all other there =
    all other (Contains-append_left rects (rect ∷ []) other there)

pub last_fits : (width height : ℕ) (rects : List Rect) (rect : Rect) → AllFit width height (rects ++ rect ∷ [])
    → RectFits width height rect
last_fits width height rects rect all = all rect (Contains-push rects rect)

apart_behind : (rects : List Rect) (last rect : Rect) → IsBehind last rect → AreApart (rects ++ last ∷ [])
    → AreApart ((rects ++ last ∷ []) ++ rect ∷ [])
apart_behind [] last rect behind apart = (behind, tt)
apart_behind (first ∷ []) last rect behind apart = (apart.0, (behind, tt))
apart_behind (first ∷ (second ∷ rects)) last rect behind apart =
    (apart.0, apart_behind (second ∷ rects) last rect behind apart.1)

-- ---- where rectangles end

-- what ends before a rectangle ends before whatever that one ends before
ends_through : (a b c : Rect) → EndsBefore a b → EndsBefore b c → EndsBefore a c
ends_through a b c (inl above) (inl below) = inl (omega (arith, above, below))
ends_through a b c (inl above) (inr right) = inl (omega (arith, above, right.0))
ends_through a b c (inr left) (inl below) = inl (omega (arith, left.0, left.1, below))
ends_through a b c (inr left) (inr right) = inr (
  omega (arith, left.0, right.0),
  omega (arith, left.1, right.1),
  omega (arith, left.2, right.2),
)

-- what ends before a rectangle, and is not continued by it, has it behind
is_behind : (left right : Rect) → EndsBefore left right → (IsContinued left right → ⊥) → IsBehind left right
is_behind left right (inl above) new = inl above
is_behind left right (inr before) new = elim (cases_lt (left.x + left.w) right.x) [
  | inl gap ↦ inr (before.0, before.1, gap)
  | inr none ↦ absurd (new (record { top = before.0; rows = before.1; beside = omega (arith, before.2, none) }))
]

-- both rectangles as one end where the right one does
joined_ends : (left right next : Rect) → IsContinued left right → EndsBefore right next
    → EndsBefore (joined left right) next
joined_ends left right next beside (inl above) = inl (omega (arith, beside.top, beside.rows, above))
joined_ends left right next beside (inr before) = inr (
  omega (arith, beside.top, before.0),
  omega (arith, beside.rows, before.1),
  omega (arith, beside.beside, before.2),
)

all_end_push : (rects : List Rect) (rect next : Rect) → AllEndBefore rects next → EndsBefore rect next
    → AllEndBefore (rects ++ rect ∷ []) next
all_end_push rects rect next all ends other there = elim (Contains-push_cases rects rect other there) [
  | inl old ↦ all other old
  | inr same ↦ subst (λ (r : Rect). EndsBefore r next) same ends
]

all_end_through : (rects : List Rect) (rect next : Rect) → AllEndBefore rects rect → EndsBefore rect next
    → AllEndBefore rects next
all_end_through rects rect next all ends other there = ends_through other rect next (all other there) ends

right_ends : (t : Tiles) (row column : ℕ)
    → EndsBefore (rect_from t (column * t.side) (row * t.side)) (rect_from t ((column + 1) * t.side) (row * t.side))
right_ends t row column = inr (refl, refl, omega arith)

below_ends : (t : Tiles) (row x x' : ℕ)
    → EndsBefore (rect_from t x (row * t.side)) (rect_from t x' ((row + 1) * t.side))
below_ends t row x x' = inl (omega arith)

some_columns : (columns rows tile : ℕ) → tile < columns * rows → 0 < columns
some_columns zero rows tile within = absurd (omega (arith, within))
some_columns (suc columns) rows tile within = omega arith

-- a tile ends before the next one, which is right of it, or the first one of the row below
tile_ends : (t : Tiles) (tile : ℕ) → 0 < columns_of t → EndsBefore (rect_of t tile) (rect_of t (tile + 1))
tile_ends t tile some =
    let columns = columns_of t in
    let row = row_of t tile in
    let column = column_of t tile in
    let whole : row * columns + column ≡ tile = div-add-mod' tile columns in
    elim (cases_lt (column + 1) columns) [
      | inl within ↦
          let next : row * columns + (column + 1) ≡ tile + 1 = omega (arith, whole) in
          let same_row : row_of t (tile + 1) ≡ row =
          subst (λ (n : ℕ). row_of t n ≡ row) next (div-mul-add row columns (column + 1) within) in
          let next_column : column_of t (tile + 1) ≡ column + 1 =
          subst (λ (n : ℕ). column_of t n ≡ column + 1) next (mod-mul-add row columns (column + 1) within) in
          rw (same_row, next_column) (right_ends t row column)
      | inr last ↦
          let next : (row + 1) * columns + 0 ≡ tile + 1 = omega (arith, whole, last, mod_below tile columns some) in
          let next_row : row_of t (tile + 1) ≡ row + 1 =
          subst (λ (n : ℕ). row_of t n ≡ row + 1) next (div-mul-add (row + 1) columns 0 some) in
          rw next_row (below_ends t row (column * t.side) (column_of t (tile + 1) * t.side))
    ]

-- the rectangle is added behind the others, of which it does not continue the last one
pub added_behind : (tiles : Tiles) (rects : List Rect) (last rect : Rect) → (IsContinued last rect → ⊥)
    → AllFit tiles.width tiles.height (rects ++ last ∷ []) → RectFits tiles.width tiles.height rect
    → IsAdded tiles (rects ++ last ∷ []) rect ((rects ++ last ∷ []) ++ rect ∷ [])
added_behind tiles rects last rect new all fits = record {
  fit = all_fit_push tiles.width tiles.height (rects ++ last ∷ []) rect all fits;
  cover = covered_push (rects ++ last ∷ []) rect;
  apart = λ apart ends.
      apart_behind rects last rect (is_behind last rect (ends last (Contains-push rects last)) new) apart;
  ends = λ next ends before. all_end_push (rects ++ last ∷ []) rect next
      (all_end_through (rects ++ last ∷ []) rect next ends before) before;
}

-- ---- a rectangle that continues the last one

joined_fits : (width height : ℕ) (left right : Rect) → IsContinued left right → RectFits width height left
    → RectFits width height right → RectFits width height (joined left right)
joined_fits width height left right next fits more = record {
  some_width = omega (arith, fits.some_width);
  some_height = fits.some_height;
  columns = omega (arith, next.beside, more.columns);
  rows = fits.rows;
}

in_joined : (left right : Rect) (p : Pixel) → IsContinued left right
    → IsInRect (joined left right) p ↔ (IsInRect left p ⊎ IsInRect right p)
in_joined left right p next = (
  λ within. elim (leb_tells right.x p.x) [
    | inl on ↦ inr (
      on.1,
      omega (arith, within.1, next.beside),
      omega (arith, within.2, next.top),
      omega (arith, within.3, next.top, next.rows),
    )
    | inr before ↦ inl (within.0, omega (arith, before.1, next.beside), within.2, within.3)
  ],
  λ either. elim either [
    | inl within ↦ (within.0, omega (arith, within.1), within.2, within.3)
    | inr within ↦ (
      omega (arith, within.0, next.beside),
      omega (arith, within.1, next.beside),
      omega (arith, within.2, next.top),
      omega (arith, within.3, next.top, next.rows),
    )
  ],
)

apart_joined : (rects : List Rect) (last rect : Rect) → AreApart (rects ++ last ∷ [])
    → AreApart (rects ++ joined last rect ∷ [])
apart_joined [] last rect apart = tt
apart_joined (first ∷ []) last rect apart = (apart.0, tt)
apart_joined (first ∷ (second ∷ rects)) last rect apart = (apart.0, apart_joined (second ∷ rects) last rect apart.1)

-- the last rectangle and the added one become one
pub added_to_last : (tiles : Tiles) (rects : List Rect) (last rect : Rect) → IsContinued last rect
    → AllFit tiles.width tiles.height (rects ++ last ∷ []) → RectFits tiles.width tiles.height rect
    → IsAdded tiles (rects ++ last ∷ []) rect (rects ++ joined last rect ∷ [])
added_to_last tiles rects last rect next all fits = record {
  fit = all_fit_push tiles.width tiles.height rects (joined last rect)
      (front_fits tiles.width tiles.height rects last all)
      (joined_fits tiles.width tiles.height last rect next (last_fits tiles.width tiles.height rects last all) fits);
  cover = λ p. (
    λ covered. elim ((covered_push rects (joined last rect) p).0 covered) [
      | inl front ↦ inl ((covered_push rects last p).1 (inl front))
      | inr within ↦ elim ((in_joined last rect p next).0 within) [
        | inl in_last ↦ inl ((covered_push rects last p).1 (inr in_last))
        | inr in_rect ↦ inr in_rect
      ]
    ],
    λ either. (covered_push rects (joined last rect) p).1 (elim either [
      | inr in_rect ↦ inr ((in_joined last rect p next).1 (inr in_rect))
      | inl covered ↦ elim ((covered_push rects last p).0 covered) [
        | inl front ↦ inl front
        | inr in_last ↦ inr ((in_joined last rect p next).1 (inl in_last))
      ]
    ]),
  );
  apart = λ apart ends. apart_joined rects last rect apart;
  ends = λ to ends before. all_end_push rects (joined last rect) to
      (λ other there. ends_through other rect to
      (ends other (Contains-append_left rects (last ∷ []) other there)) before)
      (joined_ends last rect to next before);
}

-- ---- tile by tile

pub no_strips : (tiles : Tiles) (shown : List ℕ) (since : ℕ) → AreStripsTo tiles shown since 0 []
no_strips tiles shown since = record {
  fit = λ rect there. absurd (omega (arith, there.1));
  cover = λ p. (λ covered. absurd (omega (arith, covered.1.1)), λ tile. absurd (omega (arith, tile.below)));
  apart = tt;
  ends = λ rect there. absurd (omega (arith, there.1));
}

module _ (tiles : Tiles) (shown : List ℕ) (since count : ℕ) (rects : List Rect)
    (so_far : AreStripsTo tiles shown since count rects) (within : count < count_of tiles) where
  next_ends : EndsBefore (rect_of tiles count) (rect_of tiles (count + 1))
  next_ends = tile_ends tiles count (some_columns (columns_of tiles) (rows_of tiles) count within)

  before_more : (p : Pixel) → IsInTileSince tiles shown since count p → IsInTileSince tiles shown since (count + 1) p
  before_more p tile =
      record { t = tile.t; below = omega (arith, tile.below); later = tile.later; within = tile.within }

  -- the tile of this number, or one before it
  last_or_before : (p : Pixel) → IsInTileSince tiles shown since (count + 1) p
      → (since < slice_index shown count) × IsInRect (rect_of tiles count) p ⊎ IsInTileSince tiles shown since count p
  last_or_before p tile = elim (cases_eq tile.t count) [
    | inl same ↦ inl (
      subst (λ (t : ℕ). since < slice_index shown t) same tile.later,
      subst (λ (t : ℕ). IsInRect (rect_of tiles t) p) same tile.within,
    )
    | inr other ↦ inr
        (record { t = tile.t; below = omega (arith, tile.below, other); later = tile.later; within = tile.within })
  ]

  -- the tile has no later step: the same rectangles
  pub strips_passed : slice_index shown count ≤ since → AreStripsTo tiles shown since (count + 1) rects
  strips_passed none = record {
    fit = so_far.fit;
    cover = λ p. (
      λ covered. before_more p ((so_far.cover p).0 covered),
      λ tile. elim (last_or_before p tile) [
        | inl here ↦ absurd (omega (arith, none, here.0))
        | inr before ↦ (so_far.cover p).1 before
      ],
    );
    apart = so_far.apart;
    ends = all_end_through rects (rect_of tiles count) (rect_of tiles (count + 1)) so_far.ends next_ends;
  }

  -- it has: its rectangle is added
  pub strips_more : (new : List Rect) → since < slice_index shown count
      → IsAdded tiles rects (rect_of tiles count) new → AreStripsTo tiles shown since (count + 1) new
  strips_more new later added = record {
    fit = added.fit;
    cover = λ p. (
      λ covered. elim ((added.cover p).0 covered) [
        | inl old ↦ before_more p ((so_far.cover p).0 old)
        | inr within ↦ record { t = count; below = omega arith; later = later; within = within }
      ],
      λ tile. (added.cover p).1 (elim (last_or_before p tile) [
        | inl here ↦ inr here.1
        | inr before ↦ inl ((so_far.cover p).1 before)
      ]),
    );
    apart = added.apart so_far.apart so_far.ends;
    ends = added.ends (rect_of tiles (count + 1)) so_far.ends next_ends;
  }
