-- Cells of some kind of which those that begin an open pair have joined the queue.
use Rattle.std.proofs.Common.{◌≡◌, ℕ, ◌+◌, ◌-◌, ◌*◌, ◌<◌, ◌≤◌, ◌⊎◌, ◌↔◌, Bool, true, false, IsTrue, List, []}
use Rattle.std.proofs.Common.{length, min, get_or, ap, subst, sym, ◌∙◌, arith, inl, inr, refl, Contains, MatchBool}
use Rattle.std.proofs.{lemmas.Bool.cases_lt, lemmas.Bool.false≢true}
use Rattle.grid_core.specs.{declared.bounds.Bounds.Bounds, declared.conn.Conn.Conn, declared.pixel.Pixel.Pixel}
use Rattle.grid_core.specs.{declared.rect.Rect.Rect, Rects.IsInRect, Rects.in_image}
use Rattle.grid_core.specs.Bounds.{AreEmpty, IsInBounds, LieIn, rect_within}
use Rattle.grid_core.specs.Raster.{Raster, IsInside, index_of}
use Rattle.raster_sweeps.specs.declared.size.Size.{Size}
use Rattle.raster_sweeps.specs.Growth.{AllWait, AreInside, CanClose, IsCellIn, IsOpenIn, IsPixelOf, cell_of, rows_of}
use Rattle.raster_sweeps.specs.{OpenBounds.OpenPairsBeginIn, OpenCells.HaveOpenJoined, RowPairs.IsFirstOfRow}
use Rattle.raster_sweeps.specs.Spans.{AreAround}
use Rattle.row_scans.specs.{Rows.IsAmong, Waiting.AreOneMore}
use Rattle.raster_sweeps.proofs.Grown.{fits_below, in_rect_or_not}

-- the cell is that of a pixel of the rectangle in a row before this one
abbrev pub IsCellAbove : Rect → ℕ → ℕ → ℕ → Type 0
IsCellAbove rect width y i = (p : Pixel) × IsInside rect.w rect.h p × (p.y < y) × (cell_of rect width p ≡ i)

-- bounds that are not empty are those of some pixels
pub some_within : (bounds : Bounds) (empty : Bool) → (IsTrue empty ↔ AreEmpty bounds) → empty ≡ false
    → (bounds.left < bounds.right) × (bounds.top < bounds.bottom)
some_within bounds empty same some = (
  elim (cases_lt bounds.left bounds.right) [
    | inl less ↦ less
    | inr more ↦ absurd (let yes : empty ≡ true = same.1 (inl more) in cc)
  ],
  elim (cases_lt bounds.top bounds.bottom) [
    | inl less ↦ less
    | inr more ↦ absurd (let yes : empty ≡ true = same.1 (inr more) in cc)
  ],
)

-- a pixel of a rectangle that lies in another one, counted from that one's corner
moved : (from to : Rect) (p : Pixel) → IsInRect to (in_image from p)
    → (q : Pixel) × IsInside to.w to.h q × (in_image to q ≡ in_image from p)
moved from to p within =
    elim (in_rect_or_not to (in_image from p)) [ inl there ↦ there | inr out ↦ absurd (out within) ]

-- the second pixel of an open pair is a cell round the first that can rise
pub neighbour_rises : {conn : Conn} {rect : Rect} {cell level : ℕ} {at : ℕ → Type 0} {p q : Pixel} (size : Size)
    (mask cells : List ℕ) → AreAround conn rect size.w p at
    → IsOpenIn conn rect (rows_of size mask) (rows_of size cells) p q → cell_of rect size.w p ≡ cell
    → level ≡ get_or cells cell 0
    → at (cell_of rect size.w q)
    × (get_or cells (cell_of rect size.w q) 0 < min level (get_or mask (cell_of rect size.w q) 0))
neighbour_rises {q = q} size mask cells around raises here value = (
  around.every q raises.to_inside raises.beside,
  omega (arith, raises.lower, ap (λ k. get_or cells k 0) here, value),
)

-- the pixel of a cell of the rectangle lies in the image
pub lies_in_image : {rect : Rect} {mask image : Raster} {cell : ℕ} {pixel : Pixel} → CanClose rect mask image
    → IsCellIn rect image.width cell → IsPixelOf image.width cell pixel
    → IsInside image.width image.height pixel × (index_of image.width pixel ≡ cell)
lies_in_image {rect} {image = image} {cell} close found own =
    let fits = fits_below close.below close.fits in
    let inside : IsInside image.width image.height (in_image rect found.0) =
    (omega (arith, found.1.0, fits.columns), omega (arith, found.1.1, fits.rows)) in
    let same = own (in_image rect found.0) inside.0 found.2 in
    subst (λ p. IsInside image.width image.height p × (index_of image.width p ≡ cell)) (sym same) (inside, found.2)

-- the cells of the next row
pub in_row : {part : Rect} {y first width : ℕ} → y < part.h → IsFirstOfRow part width y first → (i : ℕ)
    → IsAmong first (first + part.w) i
    → (p : Pixel) × IsInside part.w part.h p × (p.y < y + 1) × (cell_of part width p ≡ i)
in_row {part} {y} {first} {width} row place i among =
    let p : Pixel = record { x = i - first; y = y } in
    let inside : IsInside part.w part.h p = (omega (arith, among.0, among.1), row) in
    let here : cell_of part width p ≡ i = omega (arith, among.0, place.place) in
    (p, inside, omega arith, here)

module _ {conn : Conn} {rect : Rect} {mask image : Raster} where
  -- none has joined where there is none
  pub none_open_joined : {IsSuch : ℕ → Type 0} {waiting : List ℕ}
      → ((p q : Pixel) → IsOpenIn conn rect mask image p q → IsSuch (cell_of rect image.width p) → ⊥)
      → HaveOpenJoined conn rect mask image IsSuch true waiting waiting
  none_open_joined none = record {
    kept = λ i there. there;
    each = λ i there. inl there;
    every = λ all p q raises such. absurd (none p q raises such);
  }

  -- cells of one kind have joined, and then such of another
  pub open_joined_both : {IsSuch IsOther : ℕ → Type 0} {room : Bool} {old now new : List ℕ}
      → HaveOpenJoined conn rect mask image IsSuch true old now
      → HaveOpenJoined conn rect mask image IsOther room now new
      → HaveOpenJoined conn rect mask image (λ k. IsSuch k ⊎ IsOther k) room old new
  open_joined_both first second = record {
    kept = λ i there. second.kept i (first.kept i there);
    each = λ i there. elim (second.each i there) [
      | inl now ↦ elim (first.each i now) [ inl was ↦ inl was | inr such ↦ inr (inl such) ]
      | inr other ↦ inr (inr other)
    ];
    every = λ all p q raises these. elim these [
      | inl such ↦ second.kept (cell_of rect image.width p) (first.every refl p q raises such)
      | inr other ↦ second.every all p q raises other
    ];
  }

  -- the same cells, said in another way
  pub open_joined_same : {IsSuch IsOther : ℕ → Type 0} {room : Bool} {old new : List ℕ}
      → HaveOpenJoined conn rect mask image IsSuch room old new → ((k : ℕ) → IsSuch k → IsOther k)
      → ((k : ℕ) → IsOther k → IsSuch k)
      → HaveOpenJoined conn rect mask image IsOther room old new
  open_joined_same joined to from = record {
    kept = joined.kept;
    each = λ i there. elim (joined.each i there) [ inl was ↦ inl was | inr such ↦ inr (to i such) ];
    every = λ all p q raises other. joined.every all p q raises (from (cell_of rect image.width p) other);
  }

  -- some of more cells, where it stopped
  pub open_joined_stopped : {IsSuch IsOther : ℕ → Type 0} {old new : List ℕ}
      → HaveOpenJoined conn rect mask image IsSuch false old new → ((k : ℕ) → IsSuch k → IsOther k)
      → HaveOpenJoined conn rect mask image IsOther false old new
  open_joined_stopped joined to = record {
    kept = joined.kept;
    each = λ i there. elim (joined.each i there) [ inl was ↦ inl was | inr such ↦ inr (to i such) ];
    every = λ all. absurd (false≢true all);
  }

  -- a cell has joined, or had no room
  pub cell_joined : {cell : ℕ} {old new : List ℕ} (room : Bool)
      → MatchBool room (AreOneMore cell old new) (new ≡ old)
      → HaveOpenJoined conn rect mask image (λ k. k ≡ cell) room old new
  cell_joined true one = record {
    kept = λ i there. (one.each i).1 (inl there);
    each = λ i there. (one.each i).0 there;
    every = λ all p q raises same. (one.each (cell_of rect image.width p)).1 (inr same);
  }
  cell_joined false same = record {
    kept = λ i there. subst (λ xs. Contains xs i) (sym same) there;
    each = λ i there. inl (subst (λ xs. Contains xs i) same there);
    every = λ all. absurd (false≢true all);
  }

  module _ {first cell : ℕ} {old now new : List ℕ} (from : first ≤ cell)
      (before : HaveOpenJoined conn rect mask image (IsAmong first cell) true old now) where
    -- one cell more
    pub next_cell_joined : HaveOpenJoined conn rect mask image (λ k. k ≡ cell) true now new
        → HaveOpenJoined conn rect mask image (IsAmong first (cell + 1)) true old new
    next_cell_joined one =
        open_joined_same (open_joined_both before one)
        (λ k these. elim these [
          | inl among ↦ (among.0, omega (arith, among.1))
          | inr same ↦ (omega (arith, same, from), omega (arith, same))
        ])
        (λ k among. elim (cases_lt k cell) [
          | inl less ↦ inl (among.0, less)
          | inr more ↦ inr (omega (arith, more, among.1))
        ])

    pub next_cell_stopped : {end : ℕ} → cell < end
        → HaveOpenJoined conn rect mask image (λ k. k ≡ cell) false now new
        → HaveOpenJoined conn rect mask image (IsAmong first end) false old new
    next_cell_stopped within one =
        open_joined_stopped (open_joined_both before one)
        (λ k these. elim these [
          | inl among ↦ (among.0, omega (arith, among.1, within))
          | inr same ↦ (omega (arith, same, from), omega (arith, same, within))
        ])

  module _ {part : Rect} {y first : ℕ} {old now new : List ℕ} (row : y < part.h)
      (place : IsFirstOfRow part image.width y first)
      (before : HaveOpenJoined conn rect mask image (IsCellAbove part image.width y) true old now) where
    -- one row more
    pub next_row_open_joined : HaveOpenJoined conn rect mask image (IsAmong first (first + part.w)) true now new
        → HaveOpenJoined conn rect mask image (IsCellAbove part image.width (y + 1)) true old new
    next_row_open_joined joined =
        open_joined_same (open_joined_both before joined)
        (λ i these. elim these [
          | inl above ↦ (above.0, above.1, omega (arith, above.2), above.3)
          | inr among ↦ in_row row place i among
        ])
        (λ i h. elim (cases_lt h.0.y y) [
          | inl less ↦ inl (h.0, h.1, less, h.3)
          | inr more ↦
              let same : h.0.y ≡ y = omega (arith, more, h.2) in
              let start : (part.y + h.0.y) * image.width ≡ (part.y + y) * image.width =
              ap (λ n. (part.y + n) * image.width) same in
              inr (omega (arith, h.3, place.place, start), omega (arith, h.3, place.place, start, h.1.0))
        ])

    pub next_row_stopped : HaveOpenJoined conn rect mask image (IsAmong first (first + part.w)) false now new
        → HaveOpenJoined conn rect mask image (IsCellIn part image.width) false old new
    next_row_stopped joined =
        open_joined_stopped (open_joined_both before joined)
        (λ i these. elim these [
          | inl above ↦ (above.0, above.1, above.3)
          | inr among ↦
              let own = in_row row place i among in
              (own.0, own.1, own.3)
        ])

  -- those of all rows
  pub each_row_open_joined : (part : Rect) {y : ℕ} {old new : List ℕ} → part.h ≤ y
      → HaveOpenJoined conn rect mask image (IsCellAbove part image.width y) true old new
      → HaveOpenJoined conn rect mask image (IsCellIn part image.width) true old new
  each_row_open_joined part all joined =
      open_joined_same joined (λ i h. (h.0, h.1, h.3)) (λ i h. (h.0, h.1, omega (arith, h.1.1, all), h.2))

module _ (rect : Rect) (bounds : Bounds) (width : ℕ) (lie : LieIn bounds rect) where
  -- the cells within the bounds are of the rectangle
  pub within_rect : (k : ℕ) → IsCellIn (rect_within bounds) width k → IsCellIn rect width k
  within_rect k cell =
      let inside : IsInRect rect (in_image (rect_within bounds) cell.0) =
      (omega (arith, cell.1.0), omega (arith, cell.1.0), omega (arith, cell.1.1), omega (arith, cell.1.1)) in
      let there = moved (rect_within bounds) rect cell.0 inside in
      (there.0, there.1, ap (index_of width) there.2 ∙ cell.2)

  -- so are those that have joined an empty queue
  pub open_inside : {conn : Conn} {mask image : Raster} {room : Bool} {old waiting : List ℕ}
      → HaveOpenJoined conn rect mask image (IsCellIn (rect_within bounds) width) room old waiting → old ≡ []
      → AreInside rect width waiting
  open_inside joined empty i there = elim (joined.each i there) [
    | inl before ↦ absurd (omega (arith, before.1, ap length empty))
    | inr cell ↦ within_rect i cell
  ]

  -- where there was room, the first pixel of each open pair waits
  pub open_wait : {conn : Conn} {mask image : Raster} {room : Bool} {old waiting : List ℕ}
      → HaveOpenJoined conn rect mask image (IsCellIn (rect_within bounds) image.width) room old waiting → IsTrue room
      → OpenPairsBeginIn conn rect mask image bounds
      → AllWait conn rect mask image waiting
  open_wait {image = image} joined all begin p q raises =
      let within : IsInBounds bounds (in_image rect p) = begin p q raises in
      let inside : IsInRect (rect_within bounds) (in_image rect p) = (
        omega (arith, within.0),
        omega (arith, within.0, within.1),
        omega (arith, within.2),
        omega (arith, within.2, within.3),
      ) in
      let there = moved rect (rect_within bounds) p inside in
      joined.every all p q raises (there.0, there.1, ap (index_of image.width) there.2)
