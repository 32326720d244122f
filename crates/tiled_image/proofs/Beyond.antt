-- Beyond an edge of a tile lies a strip of the tile beside it, whose values stand one behind another among the rims.
use Rattle.std.proofs.Common.{◌≡◌, ℕ, zero, suc, ◌+◌, ◌-◌, ◌*◌, ◌/◌, ◌<◌, ◌≤◌, List, length, max, min, slice_index}
use Rattle.std.proofs.Common.{slice_range, get_or, ap, refl, sym, subst, ◌∙◌, arith, le_of_eq}
use Rattle.std.proofs.lemmas.Nat.{div_below, le-div}
use Rattle.grid_core.specs.{declared.pixel.Pixel.Pixel, declared.rect.Rect.Rect}
use Rattle.grid_core.specs.{Raster.Raster, Raster.IsInside, Raster.value_at, Rects.IsInRect, Rects.RectFits}
use Rattle.grid_core.specs.Tiles.{Tiles, IsTiled, column_of, count_of, rect_of, row_of, tile_of}
use Rattle.grid_core.proofs.Tilings.{column_of-tile_of, row_of-tile_of, some_side, tile_of-within, tiles_lie_inside}
use Rattle.tile_generations.specs.Rims.{Rim}
use Rattle.tile_work.proofs.Parts.{get_or_part}
use Rattle.border_queues.specs.{declared.sides.Side.Side, Sides.HasLength, Sides.IsAlong}
use Rattle.tiled_image.specs.declared.rims.Edge.{Edge}
use Rattle.tiled_image.specs.declared.rims.Edge.TheVariants as edges
use Rattle.tiled_image.specs.Beyond.{GoesOn, IsFirstBeyond, IsRaisedOnRim, IsSameBeyond, first_beyond, inner_at}
use Rattle.tiled_image.specs.Beyond.{long_at, opposite, outer_at}
use Rattle.tiled_image.specs.Rims.{AreRimsOf, room_of, start_of, strip_at, strip_of}
use Rattle.tiled_image.specs.Sides.{HasSides, HasValues, side_of}
use Rattle.tiled_image.specs.TiledImage.{TiledRaster, tiled_raster}
use Rattle.tiled_image.proofs.CopiedStrips.{part_long}
use Rattle.tiled_image.proofs.Strips.{place_is, steps, strip_ends, tile_strip_within}

-- ---- spans of one length, side by side

span_start : (k x s : ℕ) → 0 < s → k * s ≤ x → x < (k + 1) * s → x / s * s ≡ k * s
span_start k x s positive from before =
    let below : x / s < k + 1 = div_below x s (k + 1) positive before in
    let is : x / s ≡ k = omega (arith, below, le-div k x s positive from) in
    ap (λ n. n * s) is

own_start : (k s : ℕ) → 0 < s → k * s / s * s ≡ k * s
own_start k s positive = span_start k (k * s) s positive (omega arith) (omega (arith, positive))

start_before : (k s : ℕ) → 0 < s → 0 < k * s → (k * s - 1) / s * s + s ≡ k * s
start_before zero s positive some = absurd (omega (arith, some))
start_before (suc m) s positive some =
    let is : (suc m * s - 1) / s * s ≡ m * s =
    span_start m (suc m * s - 1) s positive (omega (arith, positive)) (omega (arith, positive)) in
    omega (arith, is)

start_after : (k s size : ℕ) → 0 < s → size ≡ s → (k * s + size) / s * s ≡ k * s + size
start_after k s size positive whole =
    let is : (k * s + size) / s * s ≡ (k + 1) * s =
    span_start (k + 1) (k * s + size) s positive (omega (arith, whole)) (omega (arith, positive, whole)) in
    omega (arith, is, whole)

-- a span that does not end with the image is whole
whole_before : (from s limit : ℕ) → from + min s (limit - from) < limit → min s (limit - from) ≡ s
whole_before from s limit on = omega (arith, on)

-- and the last pixel of the one before it is the one before its first
last_before : (from s limit own : ℕ) → from + s ≡ own → own < limit → from + min s (limit - from) - 1 ≡ own - 1
last_before from s limit own next on = omega (arith, next, on)

-- ---- the strip that lies beyond an edge

-- the strip begins with the first pixel beyond the edge, and is as long as the rectangle is there
pub record StandsBeyond (rect : Rect) (edge : Edge) (strip : Rect) : Type 0 where
  pub column : strip.x ≡ (first_beyond rect edge).x
  pub row : strip.y ≡ (first_beyond rect edge).y
  pub width : strip.w ≡ (strip_at edge rect).w
  pub height : strip.h ≡ (strip_at edge rect).h

pub own_long : (edge : Edge) (rect : Rect) → (strip_at edge rect).w * (strip_at edge rect).h ≡ long_at rect edge
own_long edges.Top rect = omega arith
own_long edges.Bottom rect = omega arith
own_long edges.Left rect = omega arith
own_long edges.Right rect = omega arith

module _ (rect : Rect) (i : ℕ) where
  -- the pixels of the edge stand in its own strip, one behind another
  inner_in_strip : (edge : Edge) → i < long_at rect edge → IsInRect (strip_at edge rect) (inner_at rect edge i)
  inner_in_strip edges.Top below = (omega arith, omega (arith, below), omega arith, omega arith)
  inner_in_strip edges.Bottom below = (omega arith, omega (arith, below), omega arith, omega arith)
  inner_in_strip edges.Left below = (omega arith, omega arith, omega arith, omega (arith, below))
  inner_in_strip edges.Right below = (omega arith, omega arith, omega arith, omega (arith, below))

  inner_step : (edge : Edge)
      → (inner_at rect edge i).x - (strip_at edge rect).x + ((inner_at rect edge i).y - (strip_at edge rect).y) ≡ i
  inner_step edges.Top = omega arith
  inner_step edges.Bottom = omega arith
  inner_step edges.Left = omega arith
  inner_step edges.Right = omega arith

  -- those beyond do not stand in the rectangle
  outer_not_in : (edge : Edge) (tiling : Tiles) → GoesOn tiling rect edge → IsInRect rect (outer_at rect edge i) → ⊥
  outer_not_in edges.Top tiling on there = omega (arith, on, there.2)
  outer_not_in edges.Bottom tiling on there = omega (arith, there.3)
  outer_not_in edges.Left tiling on there = omega (arith, on, there.0)
  outer_not_in edges.Right tiling on there = omega (arith, there.1)

  -- but in the image
  outer_inside : (edge : Edge) (tiling : Tiles) → RectFits tiling.width tiling.height rect → GoesOn tiling rect edge
      → i < long_at rect edge → IsInside tiling.width tiling.height (outer_at rect edge i)
  outer_inside edges.Top tiling fits on below = (omega (arith, below, fits.columns), omega (arith, on, fits.rows))
  outer_inside edges.Bottom tiling fits on below = (omega (arith, below, fits.columns), omega (arith, on))
  outer_inside edges.Left tiling fits on below = (omega (arith, on, fits.columns), omega (arith, below, fits.rows))
  outer_inside edges.Right tiling fits on below = (omega (arith, on), omega (arith, below, fits.rows))

  -- and in the strip that lies beyond, one behind another
  module _ (strip : Rect) where
    outer_in_strip : (edge : Edge) → StandsBeyond rect edge strip → i < long_at rect edge
        → IsInRect strip (outer_at rect edge i)
    outer_in_strip edges.Top stands below = (
      omega (arith, stands.column),
      omega (arith, stands.column, stands.width, below),
      omega (arith, stands.row),
      omega (arith, stands.row, stands.height),
    )
    outer_in_strip edges.Bottom stands below = (
      omega (arith, stands.column),
      omega (arith, stands.column, stands.width, below),
      omega (arith, stands.row),
      omega (arith, stands.row, stands.height),
    )
    outer_in_strip edges.Left stands below = (
      omega (arith, stands.column),
      omega (arith, stands.column, stands.width),
      omega (arith, stands.row),
      omega (arith, stands.row, stands.height, below),
    )
    outer_in_strip edges.Right stands below = (
      omega (arith, stands.column),
      omega (arith, stands.column, stands.width),
      omega (arith, stands.row),
      omega (arith, stands.row, stands.height, below),
    )

    outer_step : (edge : Edge) → StandsBeyond rect edge strip
        → (outer_at rect edge i).x - strip.x + ((outer_at rect edge i).y - strip.y) ≡ i
    outer_step edges.Top stands = omega (arith, stands.column, stands.row)
    outer_step edges.Bottom stands = omega (arith, stands.column, stands.row)
    outer_step edges.Left stands = omega (arith, stands.column, stands.row)
    outer_step edges.Right stands = omega (arith, stands.column, stands.row)

pub first_inside : (edge : Edge) (tiling : Tiles) (rect : Rect) → RectFits tiling.width tiling.height rect
    → GoesOn tiling rect edge → IsInside tiling.width tiling.height (first_beyond rect edge)
first_inside edges.Top tiling rect fits on =
    (omega (arith, fits.some_width, fits.columns), omega (arith, on, fits.rows))
first_inside edges.Bottom tiling rect fits on = (omega (arith, fits.some_width, fits.columns), omega (arith, on))
first_inside edges.Left tiling rect fits on =
    (omega (arith, on, fits.columns), omega (arith, fits.some_height, fits.rows))
first_inside edges.Right tiling rect fits on = (omega (arith, on), omega (arith, fits.some_height, fits.rows))

-- ---- it is one of the tile there

module _ (tiling : Tiles) (tiled : IsTiled tiling) where
  corner : (q : Pixel) → IsInside tiling.width tiling.height q
      → ((rect_of tiling (tile_of tiling q)).x ≡ q.x / tiling.side * tiling.side)
      × ((rect_of tiling (tile_of tiling q)).y ≡ q.y / tiling.side * tiling.side)
  corner q inside = (
    ap (λ n. n * tiling.side) (column_of-tile_of tiling q tiled inside),
    ap (λ n. n * tiling.side) (row_of-tile_of tiling q tiled inside),
  )

  module _ (tile : ℕ) (within : tile < count_of tiling) where
    fits_there : RectFits tiling.width tiling.height (rect_of tiling tile)
    fits_there = tiles_lie_inside tiling tile tiled within

    stands_at : (edge : Edge) → GoesOn tiling (rect_of tiling tile) edge
        → StandsBeyond (rect_of tiling tile) edge
        (strip_of tiling (tile_of tiling (first_beyond (rect_of tiling tile) edge)) (opposite edge))
    stands_at edges.Top on =
        let rect = rect_of tiling tile in
        let side = tiling.side in
        let q = first_beyond rect edges.Top in
        let at_corner = corner q (first_inside edges.Top tiling rect fits_there on) in
        let x_is = at_corner.0 ∙ own_start (column_of tiling tile) side (some_side tiling tiled) in
        let y_is = ap (λ n. n + side) at_corner.1
        ∙ start_before (row_of tiling tile) side (some_side tiling tiled) on in
        record {
          column = x_is;
          row =
              last_before (rect_of tiling (tile_of tiling q)).y side tiling.height rect.y y_is
              (omega (arith, fits_there.some_height, fits_there.rows));
          width = ap (λ n. min side (tiling.width - n)) x_is;
          height = refl;
        }
    stands_at edges.Bottom on =
        let rect = rect_of tiling tile in
        let side = tiling.side in
        let at_corner =
        corner (first_beyond rect edges.Bottom) (first_inside edges.Bottom tiling rect fits_there on) in
        let x_is = at_corner.0 ∙ own_start (column_of tiling tile) side (some_side tiling tiled) in
        record {
          column = x_is;
          row =
              at_corner.1
              ∙ start_after (row_of tiling tile) side rect.h (some_side tiling tiled)
              (whole_before rect.y side tiling.height on);
          width = ap (λ n. min side (tiling.width - n)) x_is;
          height = refl;
        }
    stands_at edges.Left on =
        let rect = rect_of tiling tile in
        let side = tiling.side in
        let q = first_beyond rect edges.Left in
        let at_corner = corner q (first_inside edges.Left tiling rect fits_there on) in
        let y_is = at_corner.1 ∙ own_start (row_of tiling tile) side (some_side tiling tiled) in
        let x_is = ap (λ n. n + side) at_corner.0
        ∙ start_before (column_of tiling tile) side (some_side tiling tiled) on in
        record {
          column =
              last_before (rect_of tiling (tile_of tiling q)).x side tiling.width rect.x x_is
              (omega (arith, fits_there.some_width, fits_there.columns));
          row = y_is;
          width = refl;
          height = ap (λ n. min side (tiling.height - n)) y_is;
        }
    stands_at edges.Right on =
        let rect = rect_of tiling tile in
        let side = tiling.side in
        let at_corner =
        corner (first_beyond rect edges.Right) (first_inside edges.Right tiling rect fits_there on) in
        let y_is = at_corner.1 ∙ own_start (row_of tiling tile) side (some_side tiling tiled) in
        record {
          column =
              at_corner.0
              ∙ start_after (column_of tiling tile) side rect.w (some_side tiling tiled)
              (whole_before rect.x side tiling.width on);
          row = y_is;
          width = refl;
          height = ap (λ n. min side (tiling.height - n)) y_is;
        }

-- ---- what is cut out of the rims

-- either of two numbers may be named first
max_turned : (a b : ℕ) → max a b ≡ max b a
max_turned a b = omega arith

-- a rim has as many values at the edge as the tile has pixels there
pub own_count : (tiling : Tiles) (tile : ℕ) (edge : Edge) (rim : Rim) (own : List ℕ) → own ≡ side_of edge rim
    → HasSides (rect_of tiling tile) rim → length own ≡ long_at (rect_of tiling tile) edge
own_count tiling tile edge rim own own_is sides = ap length own_is ∙ sides edge ∙ own_long edge (rect_of tiling tile)

-- as many values as the tile has pixels at the edge, from where those of its own strip stand
module _ (tiling : Tiles) (tile : ℕ) (tiled : IsTiled tiling) (within : tile < count_of tiling) (edge : Edge)
    (first count : ℕ) (first_is : first ≡ start_of tiling tile edge)
    (count_is : count ≡ long_at (rect_of tiling tile) edge) (rims : List ℕ) (full : length rims ≡ room_of tiling) where
  pub own_ends : first + count ≤ length rims
  own_ends =
      omega (
        arith,
        full,
        first_is,
        count_is,
        own_long edge (rect_of tiling tile),
        tile_strip_within tiling tile tiled within edge,
        strip_ends tiling tile tiled within edge,
      )

  own_cut_long : length (slice_range rims first (first + count)) ≡ long_at (rect_of tiling tile) edge
  own_cut_long = part_long rims first count own_ends ∙ count_is

  value_here : (image : Raster) (i : ℕ) → AreRimsOf tiling image rims → i < long_at (rect_of tiling tile) edge
      → slice_index (slice_range rims first (first + count)) i ≡ value_at image (inner_at (rect_of tiling tile) edge i)
  value_here image i are below =
      let rect = rect_of tiling tile in
      let strip = strip_of tiling tile edge in
      let p = inner_at rect edge i in
      let inside = inner_in_strip rect i edge below in
      get_or_part rims first (first + count) (omega arith) own_ends i 0 (omega (arith, below, count_is))
      ∙ ap (λ n. get_or rims (first + n) 0) (sym (inner_step rect i edge))
      ∙ ap (λ n. get_or rims n 0) (place_is tiling tile edge strip p first refl first_is inside)
      ∙ are.values tile within edge p inside

-- the image goes on beyond the edge, where so many values stand from a place on
pub record IsFound (tiling : Tiles) (tile : ℕ) (edge : Edge) (start count : ℕ) : Type 0 where
  pub on : GoesOn tiling (rect_of tiling tile) edge
  pub start_is : start ≡ start_of tiling (tile_of tiling (first_beyond (rect_of tiling tile) edge)) (opposite edge)
  pub count_is : count ≡ long_at (rect_of tiling tile) edge

pub found_beyond : (tiling : Tiles) (tile : ℕ) (edge turned : Edge) (rim : Rim) (rect : Rect) (q : Pixel)
    (other start : ℕ) (own : List ℕ) → IsFirstBeyond tiling rect edge q → rect ≡ rect_of tiling tile
    → other ≡ tile_of tiling q → turned ≡ opposite edge → start ≡ start_of tiling other turned
    → own ≡ side_of edge rim → HasSides (rect_of tiling tile) rim → IsFound tiling tile edge start (length own)
found_beyond tiling tile edge turned rim rect q other start own first rect_is other_is turned_is start_is own_is sides =
    let other_there : other ≡ tile_of tiling (first_beyond (rect_of tiling tile) edge) =
    other_is ∙ ap (λ (p : Pixel). tile_of tiling p) first.is
    ∙ ap (λ (r : Rect). tile_of tiling (first_beyond r edge)) rect_is in
    record {
      on = subst (λ (r : Rect). GoesOn tiling r edge) rect_is first.on;
      start_is = start_is ∙ (λ i. start_of tiling (other_there i) (turned_is i));
      count_is = own_count tiling tile edge rim own own_is sides;
    }

module _ (tiling : Tiles) (tile : ℕ) (tiled : IsTiled tiling) (within : tile < count_of tiling) (edge : Edge)
    (start count : ℕ) (found : IsFound tiling tile edge start count) where
  beyond_within : tile_of tiling (first_beyond (rect_of tiling tile) edge) < count_of tiling
  beyond_within =
      tile_of-within tiling (first_beyond (rect_of tiling tile) edge) tiled
      (first_inside edge tiling (rect_of tiling tile) (fits_there tiling tiled tile within) found.on)

  pub beyond_ends : (rims : List ℕ) → length rims ≡ room_of tiling → start + count ≤ length rims
  beyond_ends rims full =
      omega (
        arith,
        full,
        found.start_is,
        found.count_is,
        own_long edge (rect_of tiling tile),
        tile_strip_within tiling tile tiled within edge,
        strip_ends tiling (tile_of tiling (first_beyond (rect_of tiling tile) edge)) tiled beyond_within
            (opposite edge),
      )

  cut_long : (rims : List ℕ) → length rims ≡ room_of tiling
      → length (slice_range rims start (start + count)) ≡ long_at (rect_of tiling tile) edge
  cut_long rims full = part_long rims start count (beyond_ends rims full) ∙ found.count_is

  value_beyond : (image : Raster) (rims : List ℕ) (i : ℕ) → AreRimsOf tiling image rims
      → i < long_at (rect_of tiling tile) edge
      → slice_index (slice_range rims start (start + count)) i ≡ value_at image (outer_at (rect_of tiling tile) edge i)
  value_beyond image rims i are below =
      let rect = rect_of tiling tile in
      let other = tile_of tiling (first_beyond rect edge) in
      let strip = strip_of tiling other (opposite edge) in
      let p = outer_at rect edge i in
      let stands = stands_at tiling tiled tile within edge found.on in
      let inside = outer_in_strip rect i strip edge stands below in
      get_or_part rims start (start + count) (omega arith) (beyond_ends rims are.count) i 0
      (omega (arith, below, found.count_is))
      ∙ ap (λ n. get_or rims (start + n) 0) (sym (outer_step rect i strip edge stands))
      ∙ ap (λ n. get_or rims n 0) (place_is tiling other (opposite edge) strip p start refl found.start_is inside)
      ∙ are.values other beyond_within (opposite edge) p inside

  module _ (rim : Rim) (rims limits : List ℕ) (first : ℕ) (side : Side) (first_is : first ≡ start_of tiling tile edge)
      (own_is : side.own.now ≡ side_of edge rim)
      (risen_is : side.risen.now ≡ slice_range rims first (first + count))
      (beyond_is : side.beyond.now ≡ slice_range rims start (start + count))
      (limits_is : side.limits.now ≡ slice_range limits start (start + count)) where
    pub cut_lengths : HasSides (rect_of tiling tile) rim → length rims ≡ room_of tiling
        → length limits ≡ room_of tiling → HasLength (long_at (rect_of tiling tile) edge) side
    cut_lengths sides rims_full limits_full = record {
      own = le_of_eq (sym (own_count tiling tile edge rim side.own.now own_is sides));
      risen =
          le_of_eq (sym (ap length risen_is
          ∙ own_cut_long tiling tile tiled within edge first count first_is found.count_is rims rims_full));
      beyond = le_of_eq (sym (ap length beyond_is ∙ cut_long rims rims_full));
      limits = le_of_eq (sym (ap length limits_is ∙ cut_long limits limits_full));
    }

    pub cut_along : (whole mask : Raster) (value image : Pixel → ℕ) → AreRimsOf tiling whole rims
        → AreRimsOf tiling mask limits → HasValues (rect_of tiling tile) value rim
        → IsRaisedOnRim tiling tile whole value image → IsSameBeyond tiling tile whole image
        → IsAlong (long_at (rect_of tiling tile) edge) (inner_at (rect_of tiling tile) edge)
        (outer_at (rect_of tiling tile) edge) image (value_at mask) side
    cut_along whole mask value image rims_are limits_are has raised same =
        let rect = rect_of tiling tile in
        record {
          own = λ i below.
              let p = inner_at rect edge i in
              let inside = inner_in_strip rect i edge below in
              let own_here : slice_index side.own.now i ≡ value p = ap (λ (xs : List ℕ). get_or xs i 0) own_is
              ∙ ap (λ n. get_or (side_of edge rim) n 0) (sym (steps edge rect p inside ∙ inner_step rect i edge))
              ∙ has edge p inside in
              let risen_here : slice_index side.risen.now i ≡ value_at whole p =
              ap (λ (xs : List ℕ). get_or xs i 0) risen_is
              ∙ value_here tiling tile tiled within edge first count first_is found.count_is rims rims_are.count whole i
              rims_are below in
              (λ j. max (own_here j) (risen_here j))
              ∙ max_turned (value p) (value_at whole p)
              ∙ sym (raised edge p inside);
          beyond = λ i below.
              ap (λ (xs : List ℕ). get_or xs i 0) beyond_is
              ∙ value_beyond whole rims i rims_are below
              ∙ sym (same (outer_at rect edge i)
              (outer_inside rect i edge tiling (fits_there tiling tiled tile within) found.on below)
              (outer_not_in rect i edge tiling found.on));
          limits = λ i below.
              ap (λ (xs : List ℕ). get_or xs i 0) limits_is ∙ value_beyond mask limits i limits_are below;
        }

-- ---- an image in tiles

-- the rims that it keeps are those of the image that contracts see
pub rims_seen : (now : TiledRaster) (tiling : Tiles) (whole : Raster) (rims : List ℕ)
    → tiled_raster tiling whole ≡ now → AreRimsOf tiling whole rims → AreRimsOf now.tiling now.image rims
rims_seen now tiling whole rims view are = subst (λ (r : TiledRaster). AreRimsOf r.tiling r.image rims) view are
