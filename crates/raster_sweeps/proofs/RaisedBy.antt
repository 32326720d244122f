-- A pixel of a rectangle raises its neighbours there: the image grows, no pair that begins at the pixel is open, and
-- each open pair waits as before.
use Rattle.std.proofs.Common.{◌≡◌, ℕ, ◌<◌, ◌≤◌, ◌⊎◌, List, [], ◌∷◌, length, min, max, sym, ◌∙◌, ap, subst, arith, inl}
use Rattle.std.proofs.Common.{inr, refl, get_or, Bool, IsTrue, slice_index, Contains}
use Rattle.std.proofs.lemmas.Bool.{cases_lt}
use Rattle.std.proofs.lemmas.List.Elements.{Contains-append_cases, Contains-append_left, Contains-append_right}
use Rattle.std.proofs.lemmas.List.Elements.{Contains-push_cases}
use Rattle.grid_core.specs.{declared.conn.Conn.Conn, declared.pixel.Pixel.Pixel, declared.rect.Rect.Rect}
use Rattle.grid_core.specs.{Neighbours.AreNeighbours, Path.Domain, Path.Reaches}
use Rattle.grid_core.specs.Raster.{Raster, IsInside, index_of, value_at}
use Rattle.grid_core.specs.Rects.{IsInRect, RectFits, domain_in, in_image, part}
use Rattle.grid_core.proofs.{Cells.index_of-within, Cells.same_place, Reach.reaches_here, Reach.reaches_by_step}
use Rattle.grid_core.proofs.Pixels.{AreNeighbours-sym, same_pixel, same_pixel_or_not}
use Rattle.raster_sweeps.specs.Growth.{AllWait, AreInside, AreOpen, CanClose, CellHasSpread, IsCellIn, IsGrown}
use Rattle.raster_sweeps.specs.Growth.{IsOpenIn, cell_of}
use Rattle.raster_sweeps.specs.Spans.{AreAround, AreQueued, AreSpread, IsRaised}
use Rattle.raster_sweeps.proofs.{Grown.fits_below, Grown.in_image-inside, Raised.queued_stays, Raised.raised_rises}

-- pixels of a rectangle that have one cell are one pixel
pub same_cell : {width height : ℕ} {rect : Rect} (p q : Pixel) → RectFits width height rect
    → IsInside rect.w rect.h p → IsInside rect.w rect.h q → cell_of rect width p ≡ cell_of rect width q → p ≡ q
same_cell {width} {height} {rect} p q fits inside_p inside_q e =
    let same : in_image rect p ≡ in_image rect q =
    same_place width height (in_image rect p) (in_image rect q) (in_image-inside p fits inside_p)
    (in_image-inside q fits inside_q) e in
    same_pixel p q (omega (arith, ap (λ r. r.x) same)) (omega (arith, ap (λ r. r.y) same))

-- a queue of one cell has no other
pub single : (x y : ℕ) → Contains (x ∷ []) y → x ≡ y
single x y found =
    elim (Contains-push_cases [] x y found) [ inl none ↦ absurd (omega (arith, none.1)) | inr same ↦ same ]

-- a pixel of the rectangle, seen in the image, lies in it
pub in_image-in_rect : (rect : Rect) (p : Pixel) → IsInside rect.w rect.h p → IsInRect rect (in_image rect p)
in_image-in_rect rect p inside = (omega arith, omega (arith, inside.0), omega arith, omega (arith, inside.1))

module _ {conn : Conn} {rect : Rect} {mask before : Raster} {after : List ℕ} {p : Pixel} {at : ℕ → Type 0}
    {level : ℕ} (close : CanClose rect mask before) (inside : IsInside rect.w rect.h p)
    (around : AreAround conn rect before.width p at) (own : level ≡ value_at before (in_image rect p))
    (raised : IsRaised at mask.cells level before.cells after) where
  rect_fits : RectFits before.width before.height rect
  rect_fits = fits_below close.below close.fits

  -- the values of the mask by the cells of the image
  mask_cell : (q : Pixel) → slice_index mask.cells (cell_of rect before.width q) ≡ value_at mask (in_image rect q)
  mask_cell q = ap (λ w. slice_index mask.cells (cell_of rect w q)) close.below.width

  -- the cell of a pixel of the rectangle is one of the image
  cell_within : (q : Pixel) → IsInside rect.w rect.h q → cell_of rect before.width q < length before.cells
  cell_within q inside_q = index_of-within before (in_image rect q) close.filled (in_image-inside q rect_fits inside_q)

  -- no pixel of the rectangle is above its mask
  under : (q : Pixel) → IsInside rect.w rect.h q → value_at before (in_image rect q) ≤ value_at mask (in_image rect q)
  under q inside_q =
      omega (arith, mask_cell q, close.below.values (cell_of rect before.width q) (cell_within q inside_q))

  -- a pixel around the pixel is the pixel, or its neighbour
  is_near : (q : Pixel) → IsInside rect.w rect.h q → at (cell_of rect before.width q)
      → (q ≡ p) ⊎ AreNeighbours conn p q
  is_near q inside_q here =
      let found = around.each (cell_of rect before.width q) here in
      let same : found.0 ≡ q = same_cell found.0 q rect_fits found.1 inside_q found.2 in
      subst (λ r. (r ≡ p) ⊎ AreNeighbours conn p r) same found.3

  -- a value stays, or is one that the pixel hands to a neighbour
  stays_or_rises : (q : Pixel) → IsInside rect.w rect.h q
      → (slice_index after (cell_of rect before.width q) ≡ value_at before (in_image rect q))
      ⊎ (AreNeighbours conn p q
      × (value_at before (in_image rect q) < min level (value_at mask (in_image rect q)))
      × (slice_index after (cell_of rect before.width q) ≡ min level (value_at mask (in_image rect q)))
      × at (cell_of rect before.width q))
  stays_or_rises q inside_q =
      let k = cell_of rect before.width q in
      elim (raised.each k) [
        | inl same ↦ inl same
        | inr rose ↦
            elim (cases_lt (slice_index before.cells k) (min level (slice_index mask.cells k))) [
              | inr high ↦ inl (omega (arith, rose.1, high))
              | inl low ↦ elim (is_near q inside_q rose.0) [
                | inl same ↦
                    let value : slice_index before.cells k ≡ level =
                    ap (λ r. value_at before (in_image rect r)) same ∙ sym own in
                    absurd (omega (arith, value, low))
                | inr near ↦
                    inr (near, omega (arith, low, mask_cell q), omega (arith, rose.1, low, mask_cell q), rose.0)
              ]
            ]
      ]

  -- the image has grown
  pub raised_grown : IsGrown conn rect mask before (record {
    width = before.width;
    height = before.height;
    cells = after;
  })
  raised_grown = record {
    width = refl;
    height = refl;
    filled = raised.filled;
    below = record {
      width = close.below.width;
      height = close.below.height;
      values = λ k within.
          let under_k : slice_index before.cells k ≤ slice_index mask.cells k =
          close.below.values k (omega (arith, within, raised.filled)) in
          elim (raised.each k) [
            | inl same ↦ omega (arith, same, under_k)
            | inr rose ↦ omega (arith, rose.1, under_k)
          ];
    };
    outside = λ r inside_r out. elim (raised.each (index_of before.width r)) [
      | inl same ↦ same
      | inr rose ↦
          let found = around.each (index_of before.width r) rose.0 in
          let same : in_image rect found.0 ≡ r =
          same_place before.width before.height (in_image rect found.0) r (in_image-inside found.0 rect_fits found.1)
          inside_r found.2 in
          absurd (out (subst (IsInRect rect) same (in_image-in_rect rect found.0 found.1)))
    ];
    lawful = λ q inside_q.
        let d : Domain = domain_in rect conn in
        elim (stays_or_rises q inside_q) [
          | inl same ↦ (
            omega (arith, same),
            subst (Reaches d (part rect (value_at mask)) (part rect (value_at before)) q) (sym same)
                (reaches_here d (part rect (value_at mask)) (part rect (value_at before)) q
                (value_at before (in_image rect q)) inside_q (under q inside_q) (omega arith)),
          )
          | inr rose ↦ (
            omega (arith, rose.1, rose.2),
            subst (Reaches d (part rect (value_at mask)) (part rect (value_at before)) q) (sym rose.2)
                (reaches_by_step d (part rect (value_at mask)) (part rect (value_at before)) q p
                (min level (value_at mask (in_image rect q))) inside_q (AreNeighbours-sym conn p q rose.0)
                (omega arith)
                (reaches_here d (part rect (value_at mask)) (part rect (value_at before)) p
                (min level (value_at mask (in_image rect q))) inside
                (omega (arith, own, under p inside)) (omega (arith, own)))),
          )
        ];
  }

  -- the pixel keeps its value
  own_stays : slice_index after (cell_of rect before.width p) ≡ level
  own_stays =
      elim (raised.each (cell_of rect before.width p)) [
        | inl same ↦ same ∙ sym own
        | inr rose ↦ omega (arith, rose.1, own)
      ]

  -- each neighbour has what the pixel can give it
  neighbour_has : (q : Pixel) → IsInside rect.w rect.h q → AreNeighbours conn p q
      → slice_index after (cell_of rect before.width q)
      ≡ max (value_at before (in_image rect q)) (min level (value_at mask (in_image rect q)))
  neighbour_has q inside_q near =
      omega (arith, raised.raised (cell_of rect before.width q) (around.every q inside_q near), mask_cell q)

  -- no pair that begins at the pixel is open
  own_closed : (q : Pixel) → IsOpenIn conn rect mask (record {
    width = before.width;
    height = before.height;
    cells = after;
  }) p q → ⊥
  own_closed q wide = absurd (omega (arith, own_stays, neighbour_has q wide.to_inside wide.beside, wide.lower))

  -- each open pair waits, where those waited that were open, and the pixels that rose wait
  pub raised_waits : (old waiting : List ℕ) → AreQueued at mask.cells level before.cells old waiting
      → AllWait conn rect mask before (cell_of rect before.width p ∷ old)
      → AllWait conn rect mask (record { width = before.width; height = before.height; cells = after }) waiting
  raised_waits old waiting queued waited r s wide =
      elim (same_pixel_or_not r p) [
        | inl same ↦
            absurd (own_closed s (subst (λ t. IsOpenIn conn rect mask (record {
              width = before.width;
              height = before.height;
              cells = after;
            }) t s) same wide))
        | inr other ↦ elim (stays_or_rises r wide.from_inside) [
          | inr rose ↦
              queued.added (cell_of rect before.width r) rose.3 (omega (arith, rose.1, mask_cell r))
          | inl stays ↦
              let was : IsOpenIn conn rect mask before r s = record {
                from_inside = wide.from_inside;
                to_inside = wide.to_inside;
                beside = wide.beside;
                lower = omega (arith, wide.lower, stays, raised_rises raised (cell_of rect before.width s));
              } in
              elim (Contains-append_cases (cell_of rect before.width p ∷ []) old (cell_of rect before.width r)
              (waited r s was)) [
                | inr later ↦ queued.kept (cell_of rect before.width r) later
                | inl first ↦
                    absurd (other (same_cell r p rect_fits wide.from_inside inside
                    (sym (single (cell_of rect before.width p) (cell_of rect before.width r) first))))
              ]
        ]
      ]

  -- what waits lies inside
  pub raised_inside : (old waiting : List ℕ)
      → ((i : ℕ) → Contains waiting i → Contains old i ⊎ at i)
      → AreInside rect before.width old → AreInside rect before.width waiting
  raised_inside old waiting from inside_old i waits =
      elim (from i waits) [
        | inl earlier ↦ inside_old i earlier
        | inr here ↦ let found = around.each i here in (found.0, found.1, found.2)
      ]

  -- where the pixel had an open pair, a cell around it can rise
  pub open_rises : AreOpen conn rect mask before (cell_of rect before.width p ∷ [])
      → (k : ℕ) × at k × (slice_index before.cells k < min level (slice_index mask.cells k))
  open_rises wide =
      let found = wide (cell_of rect before.width p) (0, omega arith, refl) in
      let same : found.0 ≡ p = same_cell found.0 p rect_fits found.2.from_inside inside found.3 in
      let pair : IsOpenIn conn rect mask before p found.1 =
      subst (λ r. IsOpenIn conn rect mask before r found.1) same found.2 in (
        cell_of rect before.width found.1,
        around.every found.1 pair.to_inside pair.beside,
        omega (arith, own, pair.lower, mask_cell found.1),
      )

-- a cell of the rectangle is one of the image
pub cell_in_image : {rect : Rect} {mask image : Raster} {cell : ℕ} → CanClose rect mask image
    → IsCellIn rect image.width cell → cell < length image.cells
cell_in_image {rect} {image = image} close found =
    subst (λ k. k < length image.cells) found.2
    (index_of-within image (in_image rect found.0) close.filled
    (in_image-inside found.0 (fits_below close.below close.fits) found.1))

-- the cells around a pixel of the rectangle are cells of the image
pub around_in_image : {conn : Conn} {rect : Rect} {mask image : Raster} {p : Pixel} {at : ℕ → Type 0} (k : ℕ)
    → CanClose rect mask image → AreAround conn rect image.width p at → at k → k < length image.cells
around_in_image k close around here =
    let near = around.each k here in cell_in_image close (near.0, near.1, near.2)

-- the cell in hand is one of the rectangle
pub first_inside : (rect : Rect) (width cell : ℕ) (old : List ℕ) → AreInside rect width (cell ∷ old)
    → IsCellIn rect width cell
first_inside rect width cell old inside = inside cell (Contains-append_left (cell ∷ []) old cell (0, omega arith, refl))

-- where the cells around a cell were raised to its value, and those that rose were queued, the cell has spread
pub cell_has_spread : {conn : Conn} {rect : Rect} {mask before : Raster} {cell : ℕ} {at : ℕ → Type 0}
    {after old waiting : List ℕ} {room : Bool} → CanClose rect mask before
    → AreInside rect before.width (cell ∷ old)
    → ((p : Pixel) → IsInside rect.w rect.h p → cell_of rect before.width p ≡ cell
    → AreAround conn rect before.width p at)
    → AreSpread at mask.cells (get_or before.cells cell 0) before.cells after old waiting (IsTrue room)
    → CellHasSpread conn rect mask before (record { width = before.width; height = before.height; cells = after }) cell
    old waiting room
cell_has_spread {conn} {rect} {mask} {before} {cell} {old = old} {waiting = waiting} close inside around spread =
    let found = first_inside rect before.width cell old inside in
    let near = around found.0 found.1 found.2 in
    let own : get_or before.cells cell 0 ≡ value_at before (in_image rect found.0) =
    ap (slice_index before.cells) (sym found.2) in
    record {
      grown = raised_grown close found.1 near own spread.raised;
      inside =
          raised_inside close found.1 near own spread.raised old waiting spread.inside
          (λ i waits. inside i (Contains-append_right (cell ∷ []) old i waits));
      waits = λ all waited.
          raised_waits close found.1 near own spread.raised old waiting (spread.queued all)
          (subst (λ i. AllWait conn rect mask before (i ∷ old)) (sym found.2) waited);
      count = spread.count;
      effort = spread.effort;
      fell = spread.fell;
      rose = λ wide.
          let risen =
          open_rises close found.1 near own spread.raised
          (subst (λ i. AreOpen conn rect mask before (i ∷ [])) (sym found.2) wide) in
          spread.less risen.0 risen.1 risen.2;
      stays = λ all. queued_stays spread.raised (spread.queued all);
    }
