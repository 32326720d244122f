-- A strip is copied row by row into cells that show a rectangle.
use Rattle.std.proofs.Common.{◌≡◌, ℕ, ◌+◌, ◌-◌, ◌*◌, ◌<◌, ◌≤◌, List, length, get_or, ap, sym, subst, ◌∙◌, inl, inr}
use Rattle.std.proofs.Common.{arith, refl, slice_range}
use Rattle.std.proofs.lemmas.{Bool.cases_lt, List.length-drop, List.length-take}
use Rattle.std.proofs.lemmas.Nat.{mul-add-lt, mul-le, row_fits_turned}
use borrow.Rule.Slice.PartMut.{put_mid}
use Rattle.grid_core.specs.{declared.pixel.Pixel.Pixel, declared.rect.Rect.Rect}
use Rattle.grid_core.specs.Raster.{Raster, index_of, value_at}
use Rattle.grid_core.specs.Rects.{IsInRect, IsRowOf, part}
use Rattle.grid_core.proofs.Pixels.{same_pixel}
use Rattle.row_scans.proofs.Replacing.{IsReplaced, replaced_mid}
use Rattle.tile_work.proofs.Parts.{get_or_part}
use Rattle.tiled_image.specs.Shown.{CanCopy, IsStripCopied, as_image, cell_in, place_in, value_in}
use Rattle.tiled_image.proofs.Places.{in_wider}

-- ---- places in rows of `w` cells, of which row `row` has a part that begins at a column

before_row : (w row column r k start : ℕ) → start ≡ row * w + column → r < row → k < w → r * w + k < start
before_row w row column r k start start_is above across = omega (arith, mul-add-lt r w k row above across, start_is)

after_row : (w row column n r k start : ℕ) → start ≡ row * w + column → column + n ≤ w → row < r → start + n ≤ r * w + k
after_row w row column n r k start start_is across under =
    let rows : (row + 1) * w ≤ r * w = mul-le (row + 1) w r w (omega arith) (omega arith) in
    omega (arith, rows, start_is)

on_row : (w row column r k j start : ℕ) → start ≡ row * w + column → r ≡ row → k ≡ column + j → r * w + k ≡ start + j
on_row w row column r k j start start_is same_row same_column =
    let line : r * w ≡ row * w = ap (λ n. n * w) same_row in
    omega (arith, line, start_is, same_column)

left_on_row : (w row column r k start : ℕ) → start ≡ row * w + column → r ≡ row → k < column → r * w + k < start
left_on_row w row column r k start start_is same_row left =
    let line : r * w ≡ row * w = ap (λ n. n * w) same_row in
    omega (arith, line, start_is)

right_on_row : (w row column n r k start : ℕ) → start ≡ row * w + column → r ≡ row → column + n ≤ k
    → start + n ≤ r * w + k
right_on_row w row column n r k start start_is same_row right =
    let line : r * w ≡ row * w = ap (λ n. n * w) same_row in
    omega (arith, line, start_is)

row_ends_within : (w row column n h count : ℕ) → row < h → column + n ≤ w → w * h ≤ count → row * w + column + n ≤ count
row_ends_within w row column n h count below across room =
    omega (arith, row_fits_turned row w w h below (omega arith), across, room)

-- ---- a part of the cells, of this many from a place on

size_of_part : (start n : ℕ) → start + n - start ≡ n
size_of_part start n = omega arith

pub part_long : (cells : List ℕ) (start n : ℕ) → start + n ≤ length cells
    → length (slice_range cells start (start + n)) ≡ n
part_long cells start n within = simp (length-take, length-drop) (omega arith)

pub part_replaced : (start n : ℕ) (row cells : List ℕ) → length row ≡ n → start + n ≤ length cells
    → IsReplaced start row cells (put_mid start (start + n - start) cells row)
part_replaced start n row cells long within =
    replaced_mid start (start + n - start) row cells (long ∙ sym (size_of_part start n))
    (subst (λ k. start + k ≤ length cells) (sym (size_of_part start n)) within)

-- ---- a strip

-- the strip, counted from the corner of the rectangle that the source shows
abbrev pub strip_in : Rect → Rect → Rect
strip_in from strip = record { x = strip.x - from.x; y = strip.y - from.y; w = strip.w; h = strip.h }

-- the cell at which row y of the strip begins
abbrev pub row_start : Rect → Rect → ℕ → ℕ
row_start strip to y = (strip.y - to.y + y) * to.w + (strip.x - to.x)

pub none_copied : (strip : Rect) (value : Pixel → ℕ) (shown : Rect) (cells : List ℕ)
    → IsStripCopied (record strip { h = 0 }) value shown cells cells
none_copied strip value shown cells = record {
  count = refl;
  inside = λ p inside. absurd (omega (arith, inside.2, inside.3));
  beyond = λ p there outside. refl;
}

-- a row of cells that show a rectangle, from the strip's first column on
pub row_of_cells : (strip from : Rect) (cells : List ℕ) (y first : ℕ)
    → first ≡ (strip.y - from.y + y) * from.w + (strip.x - from.x) → first + strip.w ≤ length cells
    → IsRowOf strip.w (part (strip_in from strip) (value_at (as_image from cells))) y
    (slice_range cells first (first + strip.w))
row_of_cells strip from cells y first first_is within = record {
  long = part_long cells first strip.w within;
  values = λ x column.
      get_or_part cells first (first + strip.w) (omega arith) within x 0 (omega (arith, column))
      ∙ ap (λ i. get_or cells i 0) (omega (arith, first_is));
}

module _ (strip : Rect) (source : Raster) (from to : Rect) (count : ℕ) (can : CanCopy strip source from to count) where
  across : strip.x - to.x + strip.w ≤ to.w
  across = omega (arith, can.lies_to.0, can.lies_to.1)

  pub row_within : (y : ℕ) → y < strip.h → row_start strip to y + strip.w ≤ count
  row_within y below =
      row_ends_within to.w (strip.y - to.y + y) (strip.x - to.x) strip.w to.h count
      (omega (arith, below, can.lies_to.2, can.lies_to.3)) across can.room

  -- and among few cells
  pub row_small : (y : ℕ) → y < strip.h → row_start strip to y + strip.w ≤ 67108864
  row_small y below =
      let room : row_start strip to y + strip.w ≤ to.w * to.h =
      row_ends_within to.w (strip.y - to.y + y) (strip.x - to.x) strip.w to.h (to.w * to.h)
      (omega (arith, below, can.lies_to.2, can.lies_to.3)) across (omega arith) in
      omega (arith, room, can.small)

  -- so does each row in cells that show the source's rectangle
  pub row_within_source : (cells : ℕ) → from.w * from.h ≤ cells → (y : ℕ) → y < strip.h
      → row_start strip from y + strip.w ≤ cells
  row_within_source cells room y below =
      row_ends_within from.w (strip.y - from.y + y) (strip.x - from.x) strip.w from.h cells
      (omega (arith, below, can.lies_from.2, can.lies_from.3)) (omega (arith, can.lies_from.0, can.lies_from.1)) room

  -- where a pixel of the strip stands among the cells
  pub place_on_row : (p : Pixel) → IsInRect strip p → (y : ℕ) → p.y ≡ strip.y + y
      → index_of to.w (place_in to p) ≡ row_start strip to y + (p.x - strip.x)
  place_on_row p inside y here =
      on_row to.w (strip.y - to.y + y) (strip.x - to.x) (p.y - to.y) (p.x - to.x) (p.x - strip.x) (row_start strip to y)
      refl (omega (arith, here, can.lies_to.2)) (omega (arith, inside.0, can.lies_to.0))

  module _ (value : Pixel → ℕ) (old mid new row : List ℕ) (y : ℕ) (below : y < strip.h) (long : length row ≡ strip.w)
      (values : (p : Pixel) → IsInRect strip p → p.y ≡ strip.y + y → get_or row (p.x - strip.x) 0 ≡ value p)
      (replaced : IsReplaced (row_start strip to y) row mid new)
      (so_far : IsStripCopied (record strip { h = y }) value to old mid) where
    past_row : (i : ℕ) → row_start strip to y + strip.w ≤ i → get_or new i 0 ≡ get_or mid i 0
    past_row i after = replaced.behind i (subst (λ n. row_start strip to y + n ≤ i) (sym long) after)

    -- the row's own pixels
    in_row : (p : Pixel) → IsInRect strip p → p.y ≡ strip.y + y → cell_in to new p ≡ value p
    in_row p inside here =
        let j : ℕ = p.x - strip.x in
        let column : j < strip.w = omega (arith, inside.0, inside.1) in
        ap (λ i. get_or new i 0) (place_on_row p inside y here)
        ∙ replaced.inside j (subst (λ n. j < n) (sym long) column) ∙ values p inside here

    -- the pixels that are not on this row of the strip keep their values
    off_row : (p : Pixel) → IsInRect to p → (strip.x ≤ p.x → p.x < strip.x + strip.w → p.y ≡ strip.y + y → ⊥)
        → cell_in to new p ≡ cell_in to mid p
    off_row p inside off =
        let i : ℕ = index_of to.w (place_in to p) in
        elim (cases_lt p.y (strip.y + y)) [
          | inl above ↦
              replaced.ahead i (before_row to.w (strip.y - to.y + y) (strip.x - to.x) (p.y - to.y) (p.x - to.x)
              (row_start strip to y) refl (omega (arith, above, can.lies_to.2, inside.2))
              (omega (arith, inside.0, inside.1)))
          | inr not_above ↦ elim (cases_lt (strip.y + y) p.y) [
            | inl under ↦
                past_row i (after_row to.w (strip.y - to.y + y) (strip.x - to.x) strip.w (p.y - to.y) (p.x - to.x)
                (row_start strip to y) refl across (omega (arith, under, can.lies_to.2)))
            | inr not_under ↦
                let here : p.y ≡ strip.y + y = omega (arith, not_above, not_under) in
                let same_row : p.y - to.y ≡ strip.y - to.y + y = omega (arith, here, can.lies_to.2) in
                elim (cases_lt p.x strip.x) [
                  | inl before ↦
                      replaced.ahead i (left_on_row to.w (strip.y - to.y + y) (strip.x - to.x) (p.y - to.y)
                      (p.x - to.x) (row_start strip to y) refl same_row
                      (omega (arith, before, can.lies_to.0, inside.0)))
                  | inr from_left ↦ elim (cases_lt p.x (strip.x + strip.w)) [
                    | inl within ↦ absurd (off from_left within here)
                    | inr behind ↦
                        past_row i (right_on_row to.w (strip.y - to.y + y) (strip.x - to.x) strip.w (p.y - to.y)
                        (p.x - to.x) (row_start strip to y) refl same_row
                        (omega (arith, behind, can.lies_to.0)))
                  ]
                ]
          ]
        ]

    -- a row more
    pub row_put : IsStripCopied (record strip { h = y + 1 }) value to old new
    row_put = record {
      count = replaced.long ∙ so_far.count;
      inside = λ p inside.
          let whole : IsInRect strip p = (inside.0, inside.1, inside.2, omega (arith, inside.3, below)) in
          elim (cases_lt p.y (strip.y + y)) [
            | inl above ↦
                off_row p (in_wider strip to p can.lies_to whole) (λ from_left within same. omega (arith, above, same))
                ∙ so_far.inside p (inside.0, inside.1, inside.2, above)
            | inr not_above ↦ in_row p whole (omega (arith, inside.3, not_above))
          ];
      beyond = λ p there outside.
          off_row p there (λ from_left within same.
          outside (from_left, within, omega (arith, same), omega (arith, same)))
          ∙ so_far.beyond p there
          (λ inside. outside (inside.0, inside.1, inside.2, omega (arith, inside.3)));
    }

  -- so where the row is the source's
  pub row_copied : (old mid new row : List ℕ) (y : ℕ) → y < strip.h
      → IsRowOf strip.w (part (strip_in from strip) (value_at source)) y row
      → IsReplaced (row_start strip to y) row mid new
      → IsStripCopied (record strip { h = y }) (value_in from source) to old mid
      → IsStripCopied (record strip { h = y + 1 }) (value_in from source) to old new
  row_copied old mid new row y below is_row replaced so_far =
      row_put (value_in from source) old mid new row y below is_row.long
      (λ p inside here.
      let j : ℕ = p.x - strip.x in
      let there : Pixel = record { x = strip.x - from.x + j; y = strip.y - from.y + y } in
      let same : there ≡ place_in from p =
      same_pixel there (place_in from p) (omega (arith, inside.0, can.lies_from.0))
      (omega (arith, here, can.lies_from.2)) in
      is_row.values j (omega (arith, inside.0, inside.1)) ∙ ap (λ (q : Pixel). value_at source q) same)
      replaced so_far
