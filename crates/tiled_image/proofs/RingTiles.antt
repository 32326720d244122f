-- The pixels around a tile lie in the tiles that touch it, and are shown once the pixels of these tiles are.
use Rattle.std.proofs.Common.{◌≡◌, ℕ, ◌+◌, ◌-◌, ◌*◌, ◌<◌, ◌≤◌, ◌⊎◌, List, length, max, min, sym, subst, ◌∙◌, inl, inr}
use Rattle.std.proofs.Common.{arith, refl, ◌↔◌, Contains, le_trans, slice_index}
use Rattle.std.proofs.lemmas.{Bool.cases_eq, Bool.cases_lt, List.get_or_default, Nat.mul-le}
use Rattle.grid_core.specs.{declared.conn.Conn.TheVariants.Eight, declared.pixel.Pixel.Pixel, declared.rect.Rect.Rect}
use Rattle.grid_core.specs.{declared.bounds.Bounds.Bounds, Neighbours.AreNeighbours, Neighbours.apart}
use Rattle.grid_core.specs.Bounds.{AreEmpty, LieIn, bounds_of, intersection, rect_within}
use Rattle.grid_core.specs.Raster.{Raster, IsImageSize, IsInside, value_at}
use Rattle.grid_core.specs.Rects.{IsInRect, RectFits}
use Rattle.grid_core.specs.Tiles.{Tiles, IsTiled, AreTouching, count_of, rect_of, tile_of}
use Rattle.grid_core.proofs.{Rectangles.in_rect_inside, Tilings.neighbours_lie_in_touching_tiles}
use Rattle.grid_core.proofs.Tilings.{tiles_lie_inside}
use Rattle.border_queues.specs.Around.{around_of, widened}
use Rattle.tiled_image.specs.Ring.{HasRing, IsShownWhere}
use Rattle.tiled_image.specs.Rims.{IsEdgeBeside, strip_at}
use Rattle.tiled_image.specs.{declared.rims.Edge.Edge, Shown.CanCopy, Shown.IsStripCopied, Shown.as_image}
use Rattle.tiled_image.specs.Shown.{cell_in}
use Rattle.tiled_image.proofs.Places.{in_wider, rect_from_tile, tile_from_rect, tile_within}

-- ---- a rectangle with its border

pub border_fits : (width height : ℕ) (rect : Rect) → RectFits width height rect
    → RectFits width height (widened width height rect)
border_fits width height rect fits = record {
  some_width = omega (arith, fits.some_width, fits.columns);
  some_height = omega (arith, fits.some_height, fits.rows);
  columns = omega (arith, fits.some_width, fits.columns);
  rows = omega (arith, fits.some_height, fits.rows);
}

-- a coordinate of the border is at most 1 from the rectangle's
near_border : (from size limit at : ℕ) → from - 1 ≤ at → at < from - 1 + (min (from + size + 1) limit - (from - 1))
    → (from ≤ at + 1) × (at ≤ from + size)
near_border from size limit at low high = (omega arith, omega (arith, low, high))

-- so one of the rectangle is at most 1 from it
near_one : (from size at : ℕ) → 0 < size → from ≤ at + 1 → at ≤ from + size
    → (n : ℕ) × (from ≤ n) × (n < from + size) × (apart n at ≤ 1)
near_one from size at some low high = elim (cases_lt at from) [
  | inl before ↦ (from, omega arith, omega arith, omega arith)
  | inr not_before ↦ elim (cases_lt at (from + size)) [
    | inl within ↦ (at, not_before, within, omega arith)
    | inr behind ↦ (from + size - 1, omega arith, omega arith, omega arith)
  ]
]

apart_zero : (a b c d : ℕ) → apart a b + apart c d ≤ 0 → (a ≡ b) × (c ≡ d)
apart_zero a b c d none = (omega arith, omega arith)

-- a pixel of the border has a neighbour in the rectangle
border_neighbour : (width height : ℕ) (rect : Rect) (p : Pixel) → RectFits width height rect
    → IsInRect (widened width height rect) p → (IsInRect rect p → ⊥)
    → (q : Pixel) × IsInRect rect q × AreNeighbours Eight q p
border_neighbour width height rect p fits near outside =
    let (left, right) = near_border rect.x rect.w width p.x near.0 near.1 in
    let (above, below) = near_border rect.y rect.h height p.y near.2 near.3 in
    let (x, x_from, x_before, x_near) = near_one rect.x rect.w p.x fits.some_width left right in
    let (y, y_from, y_before, y_near) = near_one rect.y rect.h p.y fits.some_height above below in
    let apart_at_all : 1 ≤ apart x p.x + apart y p.y = elim (cases_lt 0 (apart x p.x + apart y p.y)) [
      | inl some ↦ omega (arith, some)
      | inr none ↦
          let (same_x, same_y) = apart_zero x p.x y p.y none in
          absurd (outside (
            subst (λ n. rect.x ≤ n) same_x x_from,
            subst (λ n. n < rect.x + rect.w) same_x x_before,
            subst (λ n. rect.y ≤ n) same_y y_from,
            subst (λ n. n < rect.y + rect.h) same_y y_before,
          ))
    ] in
    (record { x = x; y = y }, (x_from, x_before, y_from, y_before), (x_near, y_near, apart_at_all))

-- a pixel around a tile lies in a tile that touches it
pub ring_touches : (tiling : Tiles) (tile : ℕ) (p : Pixel) → IsTiled tiling → tile < count_of tiling
    → IsInRect (around_of tiling tile) p → (IsInRect (rect_of tiling tile) p → ⊥)
    → IsInside tiling.width tiling.height p × AreTouching tiling tile (tile_of tiling p)
ring_touches tiling tile p tiled within near outside =
    let rect = rect_of tiling tile in
    let fits = tiles_lie_inside tiling tile tiled within in
    let (q, in_rect, beside) = border_neighbour tiling.width tiling.height rect p fits near outside in
    let inside = in_rect_inside tiling.width tiling.height (around_of tiling tile) p
    (border_fits tiling.width tiling.height rect fits) near in
    let inside_q = in_rect_inside tiling.width tiling.height rect q fits in_rect in
    let own = tile_from_rect tiling tile tiled within q inside_q in_rect in
    elim (neighbours_lie_in_touching_tiles tiling Eight q p tiled inside_q inside beside) [
      | inl same ↦ absurd (outside (rect_from_tile tiling tile tiled within p inside (sym same ∙ own)))
      | inr touch ↦ (inside, subst (λ t. AreTouching tiling t (tile_of tiling p)) own touch)
    ]

-- the strip of a rectangle at an edge has each of its pixels that lie around another one
pub beside_has : (width height : ℕ) (rect own : Rect) (edge : Edge) → IsEdgeBeside rect own edge → (p : Pixel)
    → IsInRect (widened width height own) p → IsInRect rect p → IsInRect (strip_at edge rect) p
beside_has width height rect own edge at p near inside =
    let (left, right) = near_border own.x own.w width p.x near.0 near.1 in
    let (above, below) = near_border own.y own.h height p.y near.2 near.3 in
    at p inside left right above below

-- ---- the pixels of a rectangle that lie in another one

-- these pixels, where there are some
abbrev pub common : Rect → Rect → Rect
common rect shown = rect_within (intersection (bounds_of rect) (bounds_of shown))

in_span : (a m b n at : ℕ) → a ≤ at → at < a + m → b ≤ at → at < b + n
    → (max a b ≤ at) × (at < max a b + (min (a + m) (b + n) - max a b))
in_span a m b n at a_from a_before b_from b_before = (omega arith, omega arith)

of_span : (a m b n at : ℕ) → max a b ≤ at → at < max a b + (min (a + m) (b + n) - max a b)
    → (a ≤ at) × (at < a + m)
of_span a m b n at from before = (omega arith, omega arith)

in_common : (rect shown : Rect) (p : Pixel) → IsInRect rect p → IsInRect shown p → IsInRect (common rect shown) p
in_common rect shown p in_rect in_shown =
    let columns = in_span rect.x rect.w shown.x shown.w p.x in_rect.0 in_rect.1 in_shown.0 in_shown.1 in
    let rows = in_span rect.y rect.h shown.y shown.h p.y in_rect.2 in_rect.3 in_shown.2 in_shown.3 in
    (columns.0, columns.1, rows.0, rows.1)

of_common : (rect shown : Rect) (p : Pixel) → IsInRect (common rect shown) p → IsInRect rect p
of_common rect shown p inside =
    let columns = of_span rect.x rect.w shown.x shown.w p.x inside.0 inside.1 in
    let rows = of_span rect.y rect.h shown.y shown.h p.y inside.2 inside.3 in
    (columns.0, columns.1, rows.0, rows.1)

-- bounds that are not empty have a column and a row
pub some_in : (bounds : Bounds) → (AreEmpty bounds → ⊥)
    → (bounds.left < bounds.right) × (bounds.top < bounds.bottom)
some_in bounds some = (
  elim (cases_lt bounds.left bounds.right) [
    | inl less ↦ less
    | inr none ↦ absurd (some (inl none))
  ],
  elim (cases_lt bounds.top bounds.bottom) [
    | inl less ↦ less
    | inr none ↦ absurd (some (inr none))
  ],
)

-- the part that both spans have lies in the first and in the second
common_lies : (a m b n : ℕ) → max a b < min (a + m) (b + n)
    → (a ≤ max a b) × (max a b + (min (a + m) (b + n) - max a b) ≤ a + m)
common_lies a m b n some = (omega arith, omega arith)

common_lies_too : (a m b n : ℕ) → max a b < min (a + m) (b + n)
    → (b ≤ max a b) × (max a b + (min (a + m) (b + n) - max a b) ≤ b + n)
common_lies_too a m b n some = (omega arith, omega arith)

-- a strip of a rectangle, which has each pixel of the rectangle that is to be shown
module _ (rect strip shown : Rect) (lies : LieIn (bounds_of strip) rect)
    (has : (p : Pixel) → IsInRect shown p → IsInRect rect p → IsInRect strip p) where
  none_common : AreEmpty (intersection (bounds_of strip) (bounds_of shown)) → (p : Pixel) → IsInRect shown p
      → IsInRect rect p → ⊥
  none_common empty p in_shown in_rect =
      let there = in_common strip shown p (has p in_shown in_rect) in_shown in
      elim empty [
        | inl columns ↦ omega (arith, columns, there.0, there.1)
        | inr rows ↦ omega (arith, rows, there.2, there.3)
      ]

  -- where there are none, nothing is to be shown
  pub none_shown : AreEmpty (intersection (bounds_of strip) (bounds_of shown)) → (whole : Raster) (cells : List ℕ)
      → IsShownWhere rect whole shown cells cells
  none_shown empty whole cells = record {
    count = refl;
    inside = λ p in_shown in_rect. absurd (none_common empty p in_shown in_rect);
    beyond = λ p in_shown outside. refl;
  }

  -- else they are shown once they are copied
  pub common_shown : (whole : Raster) (value : Pixel → ℕ) (old new : List ℕ)
      → ((p : Pixel) → IsInRect strip p → value p ≡ value_at whole p)
      → IsStripCopied (common strip shown) value shown old new → IsShownWhere rect whole shown old new
  common_shown whole value old new values copied = record {
    count = copied.count;
    inside = λ p in_shown in_rect.
        let in_strip = has p in_shown in_rect in
        copied.inside p (in_common strip shown p in_strip in_shown) ∙ values p in_strip;
    beyond = λ p in_shown outside.
        copied.beyond p in_shown (λ there. outside (in_wider strip rect p lies (of_common strip shown p there)));
  }

-- they can be copied from cells that show the strip
pub can_copy_common : (strip shown : Rect) (cells : List ℕ) (width height count : ℕ)
    → (AreEmpty (intersection (bounds_of strip) (bounds_of shown)) → ⊥) → RectFits width height shown
    → IsImageSize width height → shown.w * shown.h ≤ count
    → CanCopy (common strip shown) (as_image strip cells) strip shown count
can_copy_common strip shown cells width height count some fits size room =
    let (columns, rows) = some_in (intersection (bounds_of strip) (bounds_of shown)) some in
    let across = common_lies strip.x strip.w shown.x shown.w columns in
    let down = common_lies strip.y strip.h shown.y shown.h rows in
    let across_to = common_lies_too strip.x strip.w shown.x shown.w columns in
    let down_to = common_lies_too strip.y strip.h shown.y shown.h rows in
    let wide : shown.w ≤ width = omega (arith, fits.columns) in
    let high : shown.h ≤ height = omega (arith, fits.rows) in
    record {
      width = refl;
      height = refl;
      some_width = omega (arith, columns);
      some_height = omega (arith, rows);
      lies_from = (across.0, across.1, down.0, down.1);
      lies_to = (across_to.0, across_to.1, down_to.0, down_to.1);
      room = room;
      small = le_trans (mul-le shown.w shown.h width height wide high) size.pixels_within;
    }

-- ---- tile after tile

-- the pixels of the first so many of these tiles are shown
abbrev pub AreTilesShown : Tiles → Raster → Rect → List ℕ → ℕ → List ℕ → Type 0
AreTilesShown tiling image shown tiles count cells =
    (p : Pixel) → IsInRect shown p → (k : ℕ) → k < count → IsInRect (rect_of tiling (slice_index tiles k)) p
    → cell_in shown cells p ≡ value_at image p

-- a pixel lies in a rectangle or not
pub in_rect_or_not : (rect : Rect) (p : Pixel) → IsInRect rect p ⊎ (IsInRect rect p → ⊥)
in_rect_or_not rect p = elim (cases_lt p.x rect.x) [
  | inl left ↦ inr (λ inside. omega (arith, left, inside.0))
  | inr from_left ↦ elim (cases_lt p.x (rect.x + rect.w)) [
    | inl within ↦ elim (cases_lt p.y rect.y) [
      | inl above ↦ inr (λ inside. omega (arith, above, inside.2))
      | inr from_top ↦ elim (cases_lt p.y (rect.y + rect.h)) [
        | inl before_end ↦ inl (from_left, within, from_top, before_end)
        | inr below ↦ inr (λ inside. omega (arith, below, inside.3))
      ]
    ]
    | inr right ↦ inr (λ inside. omega (arith, right, inside.1))
  ]
]

pub one_more_shown : (tiling : Tiles) (image : Raster) (shown : Rect) (tiles : List ℕ) (i : ℕ) (mid new : List ℕ)
    → AreTilesShown tiling image shown tiles i mid
    → IsShownWhere (rect_of tiling (slice_index tiles i)) image shown mid new
    → AreTilesShown tiling image shown tiles (i + 1) new
one_more_shown tiling image shown tiles i mid new so_far step p in_shown k below in_rect =
    elim (in_rect_or_not (rect_of tiling (slice_index tiles i)) p) [
      | inl now ↦ step.inside p in_shown now
      | inr not_now ↦ elim (cases_eq k i) [
        | inl same ↦ absurd (not_now (subst (λ n. IsInRect (rect_of tiling (slice_index tiles n)) p) same in_rect))
        | inr other ↦
            let before : k < i = omega (arith, below, other) in
            step.beyond p in_shown not_now ∙ so_far p in_shown k before in_rect
      ]
    ]

-- once they all are, the ring is there
pub ring_shown : (tiling : Tiles) (tile : ℕ) (image : Raster) (tiles cells : List ℕ) (count : ℕ) → IsTiled tiling
    → tile < count_of tiling
    → ((other : ℕ) → Contains tiles other ↔ (AreTouching tiling tile other × (other < count_of tiling)))
    → length tiles ≤ count → AreTilesShown tiling image (around_of tiling tile) tiles count cells
    → HasRing tiling tile image cells
ring_shown tiling tile image tiles cells count tiled within members all shown p near outside =
    let (inside, touch) = ring_touches tiling tile p tiled within near outside in
    let own = tile_within tiling p tiled inside in
    let (k, below, there) = (members (tile_of tiling p)).1 (touch, own) in
    let same : slice_index tiles k ≡ tile_of tiling p = get_or_default tiles k 0 (tile_of tiling p) below ∙ there in
    shown p near k (omega (arith, below, all))
    (subst (λ n. IsInRect (rect_of tiling n) p) (sym same) (rect_from_tile tiling (tile_of tiling p) tiled own p inside
    refl))
