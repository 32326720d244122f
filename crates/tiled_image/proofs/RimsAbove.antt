-- Where the rim of a tile is above a piece, or above a copy of another rim.
use Rattle.std.proofs.Common.{◌≡◌, ℕ, ◌+◌, ◌-◌, ◌*◌, ◌<◌, ◌≤◌, ◌⊎◌, List, length, get_or, slice_range, ap, sym, ◌∙◌}
use Rattle.std.proofs.Common.{arith, inl, inr, refl, subst}
use Rattle.std.proofs.lemmas.Bool.{cases_eq, cases_lt}
use Rattle.grid_core.specs.{declared.bounds.Bounds.Bounds, declared.pixel.Pixel.Pixel, declared.rect.Rect.Rect}
use Rattle.grid_core.specs.{Bounds.IsInBounds, Bounds.LieIn, Bounds.no_bounds, Raster.Raster}
use Rattle.grid_core.specs.{Raster.index_of, Raster.value_at, Rects.IsInRect, Rects.IsRowOf, Rects.RectFits, Rects.part}
use Rattle.grid_core.specs.{Rects.in_image, Tiles.Tiles, Tiles.IsTiled, Tiles.count_of, Tiles.rect_of}
use Rattle.grid_core.proofs.Pixels.{same_pixel}
use Rattle.reset_core.specs.Parts.{AreWidenedAbove}
use Rattle.tile_generations.specs.Rims.{Rim}
use Rattle.tile_work.proofs.Parts.{get_or_part}
use Rattle.tiled_image.specs.declared.rims.Edge.{Edge}
use Rattle.tiled_image.specs.declared.rims.Edge.TheVariants as edges
use Rattle.tiled_image.specs.Raising.{AreBoundsOver, AreWidenedAt, AreWidenedBy, IsPlaceOf}
use Rattle.tiled_image.specs.Rims.{IsRimOf, rim_value, room_of, start_of, strip_at, strip_of}
use Rattle.tiled_image.specs.Shown.{cell_in, place_in, value_in}
use Rattle.tiled_image.specs.Sides.{HasValues, side_of}
use Rattle.tiled_image.proofs.{CopiedStrips.part_long, Places.in_wider, RaisedBorders.rim_cell, RaisedBorders.row_value}
use Rattle.tiled_image.proofs.RaisedRims.{side_ends}
use Rattle.tiled_image.proofs.Strips.{cell_within, no_rows, tile_small, tile_strip_lies}

-- ---- a piece, row by row

-- an image is nowhere above the values that show a rectangle of it, in one row more
pub row_below : (rect : Rect) (image : Raster) (values row : List ℕ) → rect.w * rect.h ≤ length values → (y : ℕ)
    → y < rect.h → IsRowOf rect.w (part rect (value_at image)) y row
    → ((k : ℕ) → k < length row
    → get_or row k 0 ≤ get_or (slice_range values (y * rect.w) (y * rect.w + rect.w)) k 0)
    → ((p : Pixel) → IsInRect (record rect { h = y }) p → value_at image p ≤ cell_in rect values p)
    → (p : Pixel) → IsInRect (record rect { h = y + 1 }) p → value_at image p ≤ cell_in rect values p
row_below rect image values row room y below of_row low so_far p inside = elim (cases_lt p.y (rect.y + y)) [
  | inl above ↦ so_far p (inside.0, inside.1, inside.2, above)
  | inr not_above ↦
      let here : p.y ≡ rect.y + y = omega (arith, not_above, inside.3) in
      let k : ℕ = p.x - rect.x in
      let column : k < rect.w = omega (arith, inside.0, inside.1) in
      let there : Pixel = record { x = k; y = y } in
      let same : in_image rect there ≡ p = same_pixel (in_image rect there) p (omega (arith, inside.0)) (sym here) in
      let own : get_or row k 0 ≡ value_at image p =
      of_row.values k column ∙ ap (λ (q : Pixel). value_at image q) same in
      let whole : IsInRect rect p = (inside.0, inside.1, inside.2, omega (arith, here, below)) in
      omega (arith, low k (omega (arith, column, of_row.long)), own, row_value rect values room y below p whole here)
]

-- ---- a strip of a piece, which is counted from the corner of its rectangle

abbrev pub at_corner : Rect → Rect
at_corner rect = record { x = 0; y = 0; w = rect.w; h = rect.h }

pub corner_fits : (edge : Edge) (rect : Rect) → 0 < rect.w → 0 < rect.h
    → RectFits rect.w rect.h (strip_at edge (at_corner rect))
corner_fits edges.Top rect width height = record {
  some_width = width;
  some_height = omega arith;
  columns = omega arith;
  rows = omega (arith, height);
}
corner_fits edges.Bottom rect width height = record {
  some_width = width;
  some_height = omega arith;
  columns = omega arith;
  rows = omega (arith, height);
}
corner_fits edges.Left rect width height = record {
  some_width = omega arith;
  some_height = height;
  columns = omega (arith, width);
  rows = omega arith;
}
corner_fits edges.Right rect width height = record {
  some_width = omega arith;
  some_height = height;
  columns = omega (arith, width);
  rows = omega arith;
}

pub in_corner : (edge : Edge) (rect : Rect) (p : Pixel) → IsInRect (strip_at edge rect) p
    → IsInRect (strip_at edge (at_corner rect)) (place_in rect p)
in_corner edges.Top rect p inside =
    (omega arith, omega (arith, inside.0, inside.1), omega arith, omega (arith, inside.2, inside.3))
in_corner edges.Bottom rect p inside = (
  omega arith,
  omega (arith, inside.0, inside.1),
  omega (arith, inside.2, inside.3),
  omega (arith, inside.2, inside.3),
)
in_corner edges.Left rect p inside =
    (omega arith, omega (arith, inside.0, inside.1), omega arith, omega (arith, inside.2, inside.3))
in_corner edges.Right rect p inside = (
  omega (arith, inside.0, inside.1),
  omega (arith, inside.0, inside.1),
  omega arith,
  omega (arith, inside.2, inside.3),
)

-- a pixel stands there where it stands in the strip of the rectangle
same_place : (edge : Edge) (rect : Rect) (p : Pixel) → IsInRect (strip_at edge rect) p
    → place_in (strip_at edge (at_corner rect)) (place_in rect p) ≡ place_in (strip_at edge rect) p
same_place edges.Top rect p inside = same_pixel _ _ (omega arith) (omega arith)
same_place edges.Bottom rect p inside = same_pixel _ _ (omega arith) (omega (arith, inside.2, inside.3))
same_place edges.Left rect p inside = same_pixel _ _ (omega arith) (omega arith)
same_place edges.Right rect p inside = same_pixel _ _ (omega (arith, inside.0, inside.1)) (omega arith)

same_width : (edge : Edge) (rect : Rect) → (strip_at edge (at_corner rect)).w ≡ (strip_at edge rect).w
same_width edges.Top rect = refl
same_width edges.Bottom rect = refl
same_width edges.Left rect = refl
same_width edges.Right rect = refl

corner_cell : (edge : Edge) (rect : Rect) (cells : List ℕ) (p : Pixel) → IsInRect (strip_at edge rect) p
    → cell_in (strip_at edge (at_corner rect)) cells (place_in rect p) ≡ cell_in (strip_at edge rect) cells p
corner_cell edge rect cells p inside =
    λ i. get_or cells (index_of (same_width edge rect i) (same_place edge rect p inside i)) 0

-- a piece of a tile's size is nowhere above the strip's values
pub strip_below : (tiling : Tiles) (tile : ℕ) → IsTiled tiling → tile < count_of tiling → (edge : Edge)
    (piece : Raster) (strip : Rect) (cells rims : List ℕ) → strip ≡ strip_at edge (at_corner (rect_of tiling tile))
    → cells ≡ slice_range rims (start_of tiling tile edge) (start_of tiling tile edge + tiling.side)
    → length rims ≡ room_of tiling
    → ((q : Pixel) → IsInRect strip q → value_at piece q ≤ cell_in strip cells q) → (p : Pixel)
    → IsInRect (strip_of tiling tile edge) p
    → value_in (rect_of tiling tile) piece p ≤ rim_value tiling rims tile edge p
strip_below tiling tile tiled within edge piece strip cells rims strip_is cells_are full low p inside =
    let rect : Rect = rect_of tiling tile in
    let q : Pixel = place_in rect p in
    let there : IsInRect strip q = subst (λ (r : Rect). IsInRect r q) (sym strip_is) (in_corner edge rect p inside) in
    let kept : List ℕ = slice_range rims (start_of tiling tile edge) (start_of tiling tile edge + tiling.side) in
    let cell_is : cell_in strip cells q ≡ cell_in (strip_at edge (at_corner rect)) kept q =
    λ i. cell_in (strip_is i) (cells_are i) q in
    omega (
      arith,
      low q there,
      cell_is,
      corner_cell edge rect kept p inside,
      rim_cell tiling tile tiled within edge rims full p inside,
    )

-- ---- a row or a column, pixel by pixel

pub line_of : (edge : Edge) (rect : Rect) → ((strip_at edge rect).w ≡ 1) ⊎ ((strip_at edge rect).h ≡ 1)
line_of edges.Top rect = inr refl
line_of edges.Bottom rect = inr refl
line_of edges.Left rect = inl refl
line_of edges.Right rect = inl refl

-- there are not more pixels than a program counts
pub line_within : (strip : Rect) (limit : ℕ) → (strip.w ≡ 1) ⊎ (strip.h ≡ 1) → strip.w < limit → strip.h < limit
    → strip.w * strip.h < limit
line_within strip limit (inl thin) width height =
    let same : strip.w * strip.h ≡ 1 * strip.h = ap (λ n. n * strip.h) thin in
    omega (arith, same, height)
line_within strip limit (inr flat) width height =
    let same : strip.w * strip.h ≡ strip.w * 1 = ap (λ n. strip.w * n) flat in
    omega (arith, same, width)

pub place_in_row : (strip : Rect) (place : ℕ) → strip.h ≡ 1 → place < strip.w * strip.h
    → IsPlaceOf strip place (record { x = strip.x + place; y = strip.y })
place_in_row strip place flat within =
    let same : strip.w * strip.h ≡ strip.w * 1 = ap (λ n. strip.w * n) flat in
    record {
      inside = (omega arith, omega (arith, same, within), omega arith, omega (arith, flat));
      only = λ q inside there.
          let row : q.y - strip.y ≡ 0 = omega (arith, inside.2, inside.3, flat) in
          let steps = no_rows (q.y - strip.y) strip.w (q.x - strip.x) row in
          same_pixel q (record { x = strip.x + place; y = strip.y }) (omega (arith, steps, there, row, inside.0))
          (omega (arith, row, inside.2));
    }

pub place_in_column : (strip : Rect) (place : ℕ) → strip.w ≡ 1 → place < strip.w * strip.h
    → IsPlaceOf strip place (record { x = strip.x; y = strip.y + place })
place_in_column strip place thin within =
    let same : strip.w * strip.h ≡ 1 * strip.h = ap (λ n. n * strip.h) thin in
    record {
      inside = (omega arith, omega (arith, thin), omega arith, omega (arith, same, within));
      only = λ q inside there.
          let line : (q.y - strip.y) * strip.w ≡ (q.y - strip.y) * 1 = ap (λ n. (q.y - strip.y) * n) thin in
          same_pixel q (record { x = strip.x; y = strip.y + place }) (omega (arith, inside.0, inside.1, thin))
          (omega (arith, line, there, inside.0, inside.1, inside.2, thin));
    }

pub none_of_line : (strip : Rect) (values limits : List ℕ) (count : ℕ) (bounds : Bounds)
    → ((k : ℕ) → k < count → get_or values k 0 ≤ get_or limits k 0)
    → AreWidenedBy strip values limits count bounds bounds
none_of_line strip values limits count bounds low = record {
  kept = λ q there. there;
  lie = λ rect lies strip_lies. lies;
  above = λ p inside within high. absurd (omega (arith, low (index_of strip.w (place_in strip p)) within, high));
}

-- one pixel more
pub line_more : (strip : Rect) (values limits : List ℕ) (k : ℕ) (old middle new : Bounds) (p : Pixel)
    → IsPlaceOf strip k p → AreWidenedBy strip values limits k old middle
    → AreWidenedAbove middle p (get_or values k 0) (get_or limits k 0) new
    → AreWidenedBy strip values limits (k + 1) old new
line_more strip values limits k old middle new p place so_far step = record {
  kept = λ q there. step.kept q (so_far.kept q there);
  lie = λ rect lies strip_lies.
      step.lie rect (so_far.lie rect lies strip_lies) (in_wider strip rect p strip_lies place.inside);
  above = λ q inside within high. elim (cases_eq (index_of strip.w (place_in strip q)) k) [
    | inl here ↦
        subst (λ (r : Pixel). IsInBounds new r) (sym (place.only q inside here))
        (step.above (subst (λ n. get_or limits n 0 < get_or values n 0) here high))
    | inr other ↦ step.kept q (so_far.above q inside (omega (arith, within, other)) high)
  ];
}

-- ---- a strip of the rims

module _ (tiling : Tiles) (tile : ℕ) (tiled : IsTiled tiling) (within : tile < count_of tiling) where
  pub widened_strip : (edge : Edge) (strip : Rect) (at : ℕ) (given side rims : List ℕ) (old new : Bounds)
      → strip ≡ strip_of tiling tile edge → at ≡ start_of tiling tile edge → given ≡ side
      → length side ≡ (strip_of tiling tile edge).w * (strip_of tiling tile edge).h → length rims ≡ room_of tiling
      → AreWidenedBy strip (slice_range rims at (at + length given)) given
      (length (slice_range rims at (at + length given))) old new
      → AreWidenedAt (rect_of tiling tile) (strip_of tiling tile edge) (rim_value tiling rims tile edge)
      (cell_in (strip_of tiling tile edge) side) old new
  widened_strip edge strip at given side rims old new strip_is at_is given_is long full widened =
      let own : Rect = strip_of tiling tile edge in
      let cells : List ℕ = slice_range rims at (at + length given) in
      let given_long : length given ≡ own.w * own.h = ap length given_is ∙ long in
      let ends : at + length given ≤ length rims =
      omega (arith, at_is, given_long, long, side_ends tiling tile tiled within edge side long, full) in
      let there : AreWidenedBy own cells given (length cells) old new =
      subst (λ (r : Rect). AreWidenedBy r cells given (length cells) old new) strip_is widened in
      record {
        kept = there.kept;
        lie = λ lies. there.lie (rect_of tiling tile) lies (tile_strip_lies tiling tile tiled within edge);
        above = λ p inside high.
            let k : ℕ = index_of own.w (place_in own p) in
            let below : k < own.w * own.h = cell_within own (own.w * own.h) p (omega arith) inside in
            let in_given : k < length given = omega (arith, below, given_long) in
            let value_is : get_or cells k 0 ≡ rim_value tiling rims tile edge p =
            get_or_part rims at (at + length given) (omega arith) ends k 0 (omega (arith, in_given))
            ∙ ap (λ n. get_or rims (n + k) 0) at_is in
            let limit_is : get_or given k 0 ≡ cell_in own side p = ap (λ (xs : List ℕ). get_or xs k 0) given_is in
            there.above p inside (omega (arith, in_given, part_long rims at (length given) ends))
            (omega (arith, high, value_is, limit_is));
      }

  -- ---- four strips

  -- bounds that are widened by one strip after another
  module _ (image : Raster) (value : Pixel → ℕ) (rims : List ℕ) (rim : Rim) (is_rim : IsRimOf tiling image rims tile)
      (has : HasValues (rect_of tiling tile) value rim) (start top bottom left end : Bounds) (none : start ≡ no_bounds)
      (top_done : AreWidenedAt (rect_of tiling tile) (strip_of tiling tile edges.Top)
      (rim_value tiling rims tile edges.Top) (cell_in (strip_of tiling tile edges.Top) (side_of edges.Top rim)) start
      top)
      (bottom_done : AreWidenedAt (rect_of tiling tile) (strip_of tiling tile edges.Bottom)
      (rim_value tiling rims tile edges.Bottom)
      (cell_in (strip_of tiling tile edges.Bottom) (side_of edges.Bottom rim)) top bottom)
      (left_done : AreWidenedAt (rect_of tiling tile) (strip_of tiling tile edges.Left)
      (rim_value tiling rims tile edges.Left) (cell_in (strip_of tiling tile edges.Left) (side_of edges.Left rim))
      bottom left)
      (right_done : AreWidenedAt (rect_of tiling tile) (strip_of tiling tile edges.Right)
      (rim_value tiling rims tile edges.Right) (cell_in (strip_of tiling tile edges.Right) (side_of edges.Right rim))
      left end) where
    high_there : (edge : Edge) (p : Pixel) → IsInRect (strip_of tiling tile edge) p → value p < value_at image p
        → cell_in (strip_of tiling tile edge) (side_of edge rim) p < rim_value tiling rims tile edge p
    high_there edge p inside high = omega (arith, is_rim edge p inside, has edge p inside, high)

    found : (edge : Edge) (p : Pixel) → IsInRect (strip_of tiling tile edge) p → value p < value_at image p
        → IsInBounds end p
    found edges.Top p inside high =
        right_done.kept p (left_done.kept p (bottom_done.kept p
        (top_done.above p inside (high_there edges.Top p inside high))))
    found edges.Bottom p inside high =
        right_done.kept p (left_done.kept p (bottom_done.above p inside (high_there edges.Bottom p inside high)))
    found edges.Left p inside high =
        right_done.kept p (left_done.above p inside (high_there edges.Left p inside high))
    found edges.Right p inside high = right_done.above p inside (high_there edges.Right p inside high)

    none_lie : LieIn no_bounds (rect_of tiling tile)
    none_lie =
        let small = tile_small tiling tile tiled within in
        (omega (arith, small.0), omega arith, omega (arith, small.1), omega arith)

    pub four_widened : AreBoundsOver (rect_of tiling tile) image value end
    four_widened = record {
      lie =
          right_done.lie (left_done.lie (bottom_done.lie (top_done.lie
          (subst (λ b. LieIn b (rect_of tiling tile)) (sym none) none_lie))));
      above = found;
    }
