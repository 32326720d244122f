-- The tiles of some rows of tiles that are taken as an image by themselves.
use Rattle.std.proofs.Common.{◌≡◌, ℕ, ◌+◌, ◌-◌, ◌*◌, ◌/◌, ◌%◌, ◌<◌, ◌≤◌, ◌⊎◌, inl, inr, sym, ap, ◌∙◌, subst, arith, min}
use Rattle.std.proofs.lemmas.Bool.{cases_lt}
use Rattle.std.proofs.lemmas.Nat.{div-add-mod', mod_below, div-mul-add, mod-mul-add, mul-le}
use Rattle.std.specs.Int.{div_ceil}
use Rattle.grid_core.specs.{declared.conn.Conn.Conn, declared.pixel.Pixel.Pixel, declared.rect.Rect.Rect}
use Rattle.grid_core.specs.{Raster.IsInside, Neighbours.AreNeighbours, Rects.IsInRect}
use Rattle.grid_core.specs.declared.conn.Conn.TheVariants.{Four, Eight}
use Rattle.grid_core.specs.Tiles.{Tiles, IsTiled, columns_of, count_of, column_of, row_of, tile_of, rect_of, rect_from}
use Rattle.grid_core.proofs.Spans.{span_begins}
use Rattle.grid_core.proofs.Tilings.{some_side, some_columns, row_of-within, tile_of-within, tiles_lie_inside}
use Rattle.grid_core.proofs.Tilings.{each_pixel_in_one_tile}
use Rattle.reset_core.specs.Bands.{IsBandOf, IsInner, rows_above, tiles_above, lowered, lowered_rect}

-- so many rows further up
abbrev pub raised : ℕ → Pixel → Pixel
raised rows p = record { x = p.x; y = p.y - rows }

pub lowered-raised : (rows : ℕ) (p : Pixel) → rows ≤ p.y → lowered rows (raised rows p) ≡ p
lowered-raised rows p below =
    let same : rows + (p.y - rows) ≡ p.y = omega (arith, below) in
    λ i. record { x = p.x; y = same i }

pub neighbours_lowered : (conn : Conn) (rows : ℕ) (p q : Pixel) → AreNeighbours conn p q
    → AreNeighbours conn (lowered rows p) (lowered rows q)
neighbours_lowered Four rows p q beside = omega (arith, beside)
neighbours_lowered Eight rows p q beside = (beside.0, omega (arith, beside.1), omega (arith, beside.2))

pub neighbours_raised : (conn : Conn) (rows : ℕ) (p q : Pixel) → rows ≤ p.y → rows ≤ q.y → AreNeighbours conn p q
    → AreNeighbours conn (raised rows p) (raised rows q)
neighbours_raised Four rows p q below_p below_q beside = omega (arith, below_p, below_q, beside)
neighbours_raised Eight rows p q below_p below_q beside =
    (beside.0, omega (arith, below_p, below_q, beside.1), omega (arith, below_p, below_q, beside.2))

-- whole multiples come out of a quotient, and fall away in a remainder
quotient : (a s y : ℕ) → 0 < s → (a * s + y) / s ≡ a + y / s
quotient a s y positive =
    let whole = div-add-mod' y s in
    let same : a * s + y ≡ (a + y / s) * s + y % s = omega (arith, whole) in
    ap (λ n. n / s) same ∙ div-mul-add (a + y / s) s (y % s) (mod_below y s positive)

remainder : (a s y : ℕ) → 0 < s → (a * s + y) % s ≡ y % s
remainder a s y positive =
    let whole = div-add-mod' y s in
    let same : a * s + y ≡ (a + y / s) * s + y % s = omega (arith, whole) in
    ap (λ n. n % s) same ∙ mod-mul-add (a + y / s) s (y % s) (mod_below y s positive)

module _ (whole : Tiles) (above : ℕ) (band : Tiles) (tiled : IsTiled whole) (band_tiled : IsTiled band)
    (of : IsBandOf whole above band) where
  abbrev rows : ℕ
  rows = rows_above whole above

  abbrev tiles : ℕ
  tiles = tiles_above whole above

  pub columns_same : columns_of band ≡ columns_of whole
  columns_same = λ i. div_ceil (of.width i) (of.side i)

  pub inside_lowered : (p : Pixel) → IsInside band.width band.height p
      → IsInside whole.width whole.height (lowered rows p)
  inside_lowered p inside = (omega (arith, inside.0, of.width), omega (arith, inside.1, of.within))

  pub tile_of_lowered : (p : Pixel) → tile_of whole (lowered rows p) ≡ tiles + tile_of band p
  tile_of_lowered p =
      let row = quotient above whole.side p.y (some_side whole tiled) in
      let same : tile_of band p ≡ (p.y / whole.side) * columns_of whole + p.x / whole.side =
      λ i. (p.y / of.side i) * div_ceil (of.width i) (of.side i) + p.x / of.side i in
      let sum : (above + p.y / whole.side) * columns_of whole + p.x / whole.side
      ≡ tiles + ((p.y / whole.side) * columns_of whole + p.x / whole.side) = omega arith in
      ap (λ r. r * columns_of whole + p.x / whole.side) row ∙ sum ∙ ap (λ n. tiles + n) (sym same)

  module _ (t : ℕ) (within : t < count_of band) where
    column_same : column_of whole (tiles + t) ≡ column_of band t
    column_same =
        remainder above (columns_of whole) t (some_columns whole tiled) ∙ ap (λ n. t % n) (sym columns_same)

    row_lowered : row_of whole (tiles + t) ≡ above + row_of band t
    row_lowered =
        quotient above (columns_of whole) t (some_columns whole tiled) ∙ ap (λ n. above + t / n) (sym columns_same)

    -- the row of tiles begins in the band
    begins : row_of band t * whole.side < band.height
    begins =
        subst (λ s. row_of band t * s < band.height) of.side
        (span_begins (row_of band t) band.height band.side (some_side band band_tiled)
        (row_of-within band t band_tiled within))

    fewer : (k : ℕ) → band.height ≡ k * whole.side → row_of band t < k
    fewer k even = elim (cases_lt (row_of band t) k) [
      | inl less ↦ less
      | inr more ↦
          let long : k * whole.side ≤ row_of band t * whole.side =
          mul-le k whole.side (row_of band t) whole.side more (omega arith) in
          absurd (omega (arith, begins, even, long))
    ]

    height_same : min whole.side (whole.height - (above + row_of band t) * whole.side)
        ≡ min whole.side (band.height - row_of band t * whole.side)
    height_same = elim of.ends [
      | inl last ↦ omega (arith, last)
      | inr (k, even) ↦
          let less : row_of band t + 1 ≤ k = omega (arith, fewer k even) in
          let full : (row_of band t + 1) * whole.side ≤ k * whole.side =
          mul-le (row_of band t + 1) whole.side k whole.side less (omega arith) in
          omega (arith, full, even, of.within)
    ]

    pub rect_of_lowered : rect_of whole (tiles + t) ≡ lowered_rect rows (rect_of band t)
    rect_of_lowered =
        let column = column_of band t in
        let row = row_of band t in
        let sum : (above + row) * whole.side ≡ rows + row * whole.side = omega arith in
        let placed : rect_of whole (tiles + t) ≡ rect_from whole (column * whole.side) ((above + row) * whole.side) =
        λ i. rect_from whole (column_same i * whole.side) (row_lowered i * whole.side) in
        let by_side : ℕ → ℕ → Rect = λ side width. record {
          x = column * side;
          y = rows + row * side;
          w = min side (width - column * side);
          h = min side (band.height - row * side);
        } in
        let cut : rect_from whole (column * whole.side) ((above + row) * whole.side)
        ≡ by_side whole.side whole.width =
        λ i. record {
          x = column * whole.side;
          y = sum i;
          w = min whole.side (whole.width - column * whole.side);
          h = height_same i;
        } in
        placed ∙ cut ∙ (λ i. by_side (sym of.side i) (sym of.width i))

    pub lowered-within : tiles + t < count_of whole
    lowered-within =
        let rect = rect_of band t in
        let fits = tiles_lie_inside band t band_tiled within in
        let corner : Pixel = record { x = rect.x; y = rect.y } in
        let inside : IsInside band.width band.height corner =
        (omega (arith, fits.some_width, fits.columns), omega (arith, fits.some_height, fits.rows)) in
        let found : IsInRect rect corner =
        (omega arith, omega (arith, fits.some_width), omega arith, omega (arith, fits.some_height)) in
        let home = ((each_pixel_in_one_tile band corner band_tiled inside).1 t within).0 found in
        let there = tile_of-within whole (lowered rows corner) tiled (inside_lowered corner inside) in
        omega (arith, there, tile_of_lowered corner, home)

  -- ---- tiles whose touching tiles lie in the band

  module _ (t : ℕ) (inner : IsInner whole above band t) (p : Pixel) (found : IsInRect (rect_of band t) p) where
    pub not_at_top : (rows ≡ 0) ⊎ (0 < p.y)
    not_at_top = elim inner.top [
      | inl none ↦ inl (let zero : 0 * whole.side ≡ 0 = omega arith in ap (λ n. n * whole.side) none ∙ zero)
      | inr later ↦
          let some = some_side band band_tiled in
          let down : 1 * band.side ≤ row_of band t * band.side =
          mul-le 1 band.side (row_of band t) band.side (omega (arith, later)) (omega arith) in
          inr (omega (arith, some, down, found.2))
    ]

    pub not_at_bottom : (rows + band.height ≡ whole.height) ⊎ (p.y + 1 < band.height)
    not_at_bottom = elim inner.bottom [
      | inl last ↦ inl last
      | inr earlier ↦
          let next = span_begins (row_of band t + 1) band.height band.side (some_side band band_tiled) earlier in
          inr (omega (arith, next, found.3))
    ]
