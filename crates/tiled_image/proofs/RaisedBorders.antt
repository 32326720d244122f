-- In cells that show a tile and the pixels around it the tile's border is raised to its rim.
use Rattle.std.proofs.Common.{◌≡◌, ℕ, ◌+◌, ◌-◌, ◌*◌, ◌<◌, ◌≤◌, ◌⊎◌, List, length, get_or, max, slice_range, ap, sym}
use Rattle.std.proofs.Common.{◌∙◌, arith, inl, inr, subst}
use Rattle.std.proofs.lemmas.Nat.{row_fits_turned}
use Rattle.grid_core.specs.{declared.pixel.Pixel.Pixel, declared.rect.Rect.Rect, Raster.Raster, Raster.index_of}
use Rattle.grid_core.specs.{Raster.value_at, Rects.IsInRect, Tiles.Tiles, Tiles.IsTiled, Tiles.count_of, Tiles.rect_of}
use Rattle.border_queues.specs.Around.{around_of}
use Rattle.row_scans.proofs.Replacing.{IsReplaced}
use Rattle.tile_work.proofs.Parts.{get_or_part}
use Rattle.tiled_image.specs.{declared.rims.Edge.Edge, Raising.greater_of, Raising.raised_cell, Rims.IsRimOf}
use Rattle.tiled_image.specs.{Rims.rim_value, Rims.room_of, Rims.start_of, Rims.strip_of, Ring.IsBorderShown}
use Rattle.tiled_image.specs.declared.rims.Edge.TheVariants as edges
use Rattle.tiled_image.specs.Shown.{CanCopy, IsStripCopied, as_image, cell_in, place_in}
use Rattle.tiled_image.proofs.{CopiedStrips.place_on_row, CopiedStrips.row_put, CopiedStrips.row_start}
use Rattle.tiled_image.proofs.{CopiedStrips.row_within, Places.in_wider, RingTiles.in_rect_or_not, Sides.strip_around}
use Rattle.tiled_image.proofs.Strips.{in_strip_room, strip_ends, strip_in_tile}

-- ---- row by row

-- a row of values that show a rectangle ends within them
pub row_ends : (rect : Rect) (count y : ℕ) → rect.w * rect.h ≤ count → y < rect.h → y * rect.w + rect.w ≤ count
row_ends rect count y room below = omega (arith, row_fits_turned y rect.w rect.w rect.h below (omega arith), room)

-- the value at a pixel, as one of its row
pub row_value : (rect : Rect) (values : List ℕ) → rect.w * rect.h ≤ length values → (y : ℕ) → y < rect.h
    → (p : Pixel) → IsInRect rect p → p.y ≡ rect.y + y
    → get_or (slice_range values (y * rect.w) (y * rect.w + rect.w)) (p.x - rect.x) 0 ≡ cell_in rect values p
row_value rect values room y below p inside here =
    let k : ℕ = p.x - rect.x in
    let line : y ≡ p.y - rect.y = omega (arith, here) in
    get_or_part values (y * rect.w) (y * rect.w + rect.w) (omega arith) (row_ends rect (length values) y room below) k 0
    (omega (arith, inside.0, inside.1))
    ∙ ap (λ n. get_or values (n * rect.w + k) 0) line

module _ (strip to : Rect) (values old : List ℕ)
    (can : CanCopy strip (as_image strip values) strip to (length old)) (room : strip.w * strip.h ≤ length values) where
  -- a row more is raised
  pub row_raised : (mid new row : List ℕ) (y : ℕ) → y < strip.h → length row ≡ strip.w
      → ((k : ℕ) → k < length row → get_or row k 0
      ≡ max (get_or (slice_range mid (row_start strip to y) (row_start strip to y + strip.w)) k 0)
      (get_or (slice_range values (y * strip.w) (y * strip.w + strip.w)) k 0))
      → IsReplaced (row_start strip to y) row mid new
      → IsStripCopied (record strip { h = y }) (raised_cell (cell_in strip values) to old) to old mid
      → IsStripCopied (record strip { h = y + 1 }) (raised_cell (cell_in strip values) to old) to old new
  row_raised mid new row y below long raised replaced so_far =
      let start : ℕ = row_start strip to y in
      row_put strip (as_image strip values) strip to (length old) can (raised_cell (cell_in strip values) to old) old
      mid new row y below long
      (λ p inside here.
      let k : ℕ = p.x - strip.x in
      let column : k < strip.w = omega (arith, inside.0, inside.1) in
      let ends : start + strip.w ≤ length mid =
      subst (λ n. start + strip.w ≤ n) (sym so_far.count)
      (row_within strip (as_image strip values) strip to (length old) can y below) in
      let was : get_or (slice_range mid start (start + strip.w)) k 0 ≡ cell_in to old p =
      get_or_part mid start (start + strip.w) (omega arith) ends k 0 (omega (arith, column))
      ∙ ap (λ n. get_or mid n 0)
      (sym (place_on_row strip (as_image strip values) strip to (length old) can p inside y here))
      ∙ so_far.beyond p (in_wider strip to p can.lies_to inside) (λ above. omega (arith, above.3, here)) in
      let given = row_value strip values room y below p inside here in
      raised k (omega (arith, column, long)) ∙ (λ i. max (was i) (given i)))
      replaced so_far

-- ---- a strip of the rims

module _ (tiling : Tiles) (tile : ℕ) (tiled : IsTiled tiling) (within : tile < count_of tiling) (edge : Edge) where
  -- the values that stand for the strip show it
  pub rim_cell : (rims : List ℕ) → length rims ≡ room_of tiling → (p : Pixel)
      → IsInRect (strip_of tiling tile edge) p
      → cell_in (strip_of tiling tile edge)
      (slice_range rims (start_of tiling tile edge) (start_of tiling tile edge + tiling.side)) p
      ≡ rim_value tiling rims tile edge p
  rim_cell rims full p inside =
      let start : ℕ = start_of tiling tile edge in
      let k : ℕ = index_of (strip_of tiling tile edge).w (place_in (strip_of tiling tile edge) p) in
      let below : k < tiling.side = in_strip_room tiling tile tiled within edge p inside in
      let ends : start + tiling.side ≤ length rims =
      omega (arith, strip_ends tiling tile tiled within edge, full) in
      get_or_part rims start (start + tiling.side) (omega arith) ends k 0 (omega (arith, below))

  -- cells that are raised to them are raised to the rim
  pub strip_raised : (strip near : Rect) (cells rims old new : List ℕ) → strip ≡ strip_of tiling tile edge
      → near ≡ around_of tiling tile
      → cells ≡ slice_range rims (start_of tiling tile edge) (start_of tiling tile edge + tiling.side)
      → length rims ≡ room_of tiling
      → IsStripCopied strip (raised_cell (cell_in strip cells) near old) near old new
      → IsStripCopied (strip_of tiling tile edge)
      (raised_cell (rim_value tiling rims tile edge) (around_of tiling tile) old) (around_of tiling tile) old new
  strip_raised strip near cells rims old new strip_is near_is cells_are full raised =
      let own : Rect = strip_of tiling tile edge in
      let kept : List ℕ = slice_range rims (start_of tiling tile edge) (start_of tiling tile edge + tiling.side) in
      let there : IsStripCopied own (raised_cell (cell_in own kept) (around_of tiling tile) old) (around_of tiling tile)
      old new =
      subst (λ (r : Rect). IsStripCopied own (raised_cell (cell_in own kept) r old) r old new) near_is
      (subst (λ (xs : List ℕ). IsStripCopied own (raised_cell (cell_in own xs) near old) near old new) cells_are
      (subst (λ (r : Rect). IsStripCopied r (raised_cell (cell_in r cells) near old) near old new) strip_is raised)) in
      record {
        count = there.count;
        inside = λ p inside.
            there.inside p inside
            ∙ ap (λ n. max (cell_in (around_of tiling tile) old p) n) (rim_cell rims full p inside);
        beyond = there.beyond;
      }

-- ---- four strips

to_greater : (new old rim image value : ℕ) → new ≡ max old rim → rim ≡ image → old ≡ value → new ≡ max image value
to_greater new old rim image value raised is_rim was = omega (arith, raised, is_rim, was)

greater_still : (new old rim image value : ℕ) → new ≡ max old rim → rim ≡ image → old ≡ max image value
    → new ≡ max image value
greater_still new old rim image value raised is_rim was = omega (arith, raised, is_rim, was)

module _ (tiling : Tiles) (tile : ℕ) (tiled : IsTiled tiling) (within : tile < count_of tiling) (image : Raster)
    (value : Pixel → ℕ) (rims : List ℕ) (is_rim : IsRimOf tiling image rims tile) where
  -- the cells are raised in a strip
  abbrev IsRaised : Edge → List ℕ → List ℕ → Type 0
  IsRaised edge old new =
      IsStripCopied (strip_of tiling tile edge)
      (raised_cell (rim_value tiling rims tile edge) (around_of tiling tile) old) (around_of tiling tile) old new

  -- what a cell is on the way: not raised yet, or raised
  abbrev IsEither : List ℕ → Pixel → Type 0
  IsEither cells p =
      (cell_in (around_of tiling tile) cells p ≡ value p)
      ⊎ (cell_in (around_of tiling tile) cells p ≡ greater_of image value p)

  raises : (edge : Edge) (old new : List ℕ) → IsRaised edge old new → (p : Pixel)
      → IsInRect (strip_of tiling tile edge) p → IsEither old p
      → cell_in (around_of tiling tile) new p ≡ greater_of image value p
  raises edge old new raised p inside was = elim was [
    | inl low ↦
        to_greater (cell_in (around_of tiling tile) new p) (cell_in (around_of tiling tile) old p)
        (rim_value tiling rims tile edge p) (value_at image p) (value p) (raised.inside p inside) (is_rim edge p inside)
        low
    | inr high ↦
        greater_still (cell_in (around_of tiling tile) new p) (cell_in (around_of tiling tile) old p)
        (rim_value tiling rims tile edge p) (value_at image p) (value p) (raised.inside p inside) (is_rim edge p inside)
        high
  ]

  -- a cell that is raised stays so
  stays : (edge : Edge) (old new : List ℕ) → IsRaised edge old new → (p : Pixel) → IsInRect (around_of tiling tile) p
      → cell_in (around_of tiling tile) old p ≡ greater_of image value p
      → cell_in (around_of tiling tile) new p ≡ greater_of image value p
  stays edge old new raised p near high = elim (in_rect_or_not (strip_of tiling tile edge) p) [
    | inl there ↦ raises edge old new raised p there (inr high)
    | inr elsewhere ↦ raised.beyond p near elsewhere ∙ high
  ]

  either : (edge : Edge) (old new : List ℕ) → IsRaised edge old new → (p : Pixel) → IsInRect (around_of tiling tile) p
      → IsEither old p → IsEither new p
  either edge old new raised p near was = elim (in_rect_or_not (strip_of tiling tile edge) p) [
    | inl there ↦ inr (raises edge old new raised p there was)
    | inr elsewhere ↦ elim was [
      | inl low ↦ inl (raised.beyond p near elsewhere ∙ low)
      | inr high ↦ inr (raised.beyond p near elsewhere ∙ high)
    ]
  ]

  -- those off the tile keep their values
  off_tile : (edge : Edge) (old new : List ℕ) → IsRaised edge old new → (p : Pixel)
      → IsInRect (around_of tiling tile) p → (IsInRect (rect_of tiling tile) p → ⊥)
      → cell_in (around_of tiling tile) new p ≡ cell_in (around_of tiling tile) old p
  off_tile edge old new raised p near outside =
      raised.beyond p near (λ there. outside (strip_in_tile tiling tile tiled within edge p there))

  module _ (start top bottom left end : List ℕ)
      (shown : IsBorderShown (rect_of tiling tile) value (around_of tiling tile) start start)
      (top_done : IsRaised edges.Top start top) (bottom_done : IsRaised edges.Bottom top bottom)
      (left_done : IsRaised edges.Left bottom left) (right_done : IsRaised edges.Right left end) where
    abbrev around : (edge : Edge) (p : Pixel) → IsInRect (strip_of tiling tile edge) p
        → IsInRect (around_of tiling tile) p
    around = strip_around tiling tile tiled within

    by_top : (edge : Edge) (p : Pixel) → IsInRect (strip_of tiling tile edge) p → IsEither top p
    by_top edge p inside =
        either edges.Top start top top_done p (around edge p inside) (inl (shown.border edge p inside))

    by_bottom : (edge : Edge) (p : Pixel) → IsInRect (strip_of tiling tile edge) p → IsEither bottom p
    by_bottom edge p inside =
        either edges.Bottom top bottom bottom_done p (around edge p inside) (by_top edge p inside)

    by_left : (edge : Edge) (p : Pixel) → IsInRect (strip_of tiling tile edge) p → IsEither left p
    by_left edge p inside =
        either edges.Left bottom left left_done p (around edge p inside) (by_bottom edge p inside)

    four_raised : (edge : Edge) (p : Pixel) → IsInRect (strip_of tiling tile edge) p
        → cell_in (around_of tiling tile) end p ≡ greater_of image value p
    four_raised edges.Top p inside =
        let near = around edges.Top p inside in
        stays edges.Right left end right_done p near (stays edges.Left bottom left left_done p near
        (stays edges.Bottom top bottom bottom_done p near
        (raises edges.Top start top top_done p inside (inl (shown.border edges.Top p inside)))))
    four_raised edges.Bottom p inside =
        let near = around edges.Bottom p inside in
        stays edges.Right left end right_done p near (stays edges.Left bottom left left_done p near
        (raises edges.Bottom top bottom bottom_done p inside (by_top edges.Bottom p inside)))
    four_raised edges.Left p inside =
        stays edges.Right left end right_done p (around edges.Left p inside)
        (raises edges.Left bottom left left_done p inside (by_bottom edges.Left p inside))
    four_raised edges.Right p inside =
        raises edges.Right left end right_done p inside (by_left edges.Right p inside)

    pub border_raised : IsBorderShown (rect_of tiling tile) (greater_of image value) (around_of tiling tile) start end
    border_raised = record {
      border = four_raised;
      beyond = λ p near outside.
          off_tile edges.Right left end right_done p near outside
          ∙ off_tile edges.Left bottom left left_done p near outside
          ∙ off_tile edges.Bottom top bottom bottom_done p near outside
          ∙ off_tile edges.Top start top top_done p near outside;
    }
