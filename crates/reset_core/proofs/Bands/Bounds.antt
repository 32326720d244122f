-- Bounds of the tiles of a band, and so of the whole that it is put into.
use Rattle.std.proofs.Common.{◌≡◌, ℕ, ◌+◌, ◌-◌, ◌*◌, ◌<◌, ◌≤◌, ◌⊎◌, sym, ap, ◌∙◌, subst, arith, List, ◌++◌, map, inl}
use Rattle.std.proofs.Common.{inr}
use Rattle.std.proofs.Common.{length, get_or, set, ◌≢◌}
use Rattle.std.proofs.lemmas.Bool.{cases_lt, cases_eq}
use Rattle.std.proofs.lemmas.Nat.{mul-add-lt, mul-le}
use Rattle.std.proofs.lemmas.List.{length-append, length-map, length-set, get_or-set_same, get_or-set_other, get_or-map}
use Rattle.grid_core.specs.{declared.bounds.Bounds.Bounds, declared.conn.Conn.Conn, declared.pixel.Pixel.Pixel}
use Rattle.grid_core.specs.{declared.rect.Rect.Rect, Bounds.IsInBounds, Bounds.LieIn, Bounds.no_bounds}
use Rattle.grid_core.specs.Raster.{IsInside, value_at, index_of}
use Rattle.grid_core.specs.Tiles.{Tiles, IsTiled, count_of, tile_of, rect_of}
use Rattle.grid_core.proofs.Tilings.{tile_of-within}
use Rattle.tile_work.specs.OpenBounds.{AreWidened, bounds_for}
use Rattle.reset_core.specs.{Bounding.FollowChange, Telling.ImageAndWork}
use Rattle.reset_core.specs.Bands.{IsBandOf, rows_above, tiles_above, lowered_rect, Around, put_in, FitsIn}
use Rattle.reset_core.specs.Bands.{lowered_bounds, put_bounds}
use Rattle.reset_core.proofs.Bands.Tiles.{raised, lowered-raised, tile_of_lowered, rect_of_lowered}
use Rattle.reset_core.proofs.Bands.States.{get_between, value_put}
use Rattle.reset_core.proofs.{Bands.Sweeps.outside_same, Bounding.none_lie}

lie_lowered : (rows : ℕ) (b : Bounds) (rect : Rect) → LieIn b rect → LieIn (lowered_bounds rows b) (lowered_rect rows
    rect)
lie_lowered rows b rect lie = (lie.0, lie.1, omega (arith, lie.2), omega (arith, lie.3))

pub lie_raised : (rows : ℕ) (b : Bounds) (rect : Rect) → LieIn (lowered_bounds rows b) (lowered_rect rows rect) → LieIn
    b rect
lie_raised rows b rect lie = (lie.0, lie.1, omega (arith, lie.2), omega (arith, lie.3))

none_in_none : (p : Pixel) → IsInBounds no_bounds p → ⊥
none_in_none p there = omega (arith, there.1)

module _ (whole : Tiles) (above : ℕ) (band : Tiles) (tiled : IsTiled whole) (band_tiled : IsTiled band)
    (of : IsBandOf whole above band) (around : Around) (table_above table_below : List Bounds)
    (count_above : length table_above ≡ tiles_above whole above) where
  abbrev rows : ℕ
  rows = rows_above whole above

  abbrev tiles : ℕ
  tiles = tiles_above whole above

  abbrev wide : List Bounds → List Bounds
  wide = put_bounds rows table_above table_below

  -- ---- the table

  pub bounds_put : (table : List Bounds) (u : ℕ) → u < length table
      → bounds_for (wide table) (tiles + u) ≡ lowered_bounds rows (bounds_for table u)
  bounds_put table u within =
      ap (λ n. get_or (wide table) (n + u) no_bounds) (sym count_above)
      ∙ get_between table_above (map (lowered_bounds rows) table) table_below u no_bounds
      (rw (length-map table (lowered_bounds rows)) within)
      ∙ get_or-map (lowered_bounds rows) table u no_bounds no_bounds within

  bounds_outside : (table other : List Bounds) (u : ℕ) → length table ≡ length other
      → (u < tiles) ⊎ (tiles + length table ≤ u) → bounds_for (wide table) u ≡ bounds_for (wide other) u
  bounds_outside table other u same outside =
      let long = length-map table (lowered_bounds rows) in
      let other_long = length-map other (lowered_bounds rows) in
      outside_same table_above (map (lowered_bounds rows) table) (map (lowered_bounds rows) other) table_below u
      no_bounds
      (long ∙ same ∙ sym other_long) (elim outside [
        | inl before ↦ inl (omega (arith, before, count_above))
        | inr behind ↦ inr (omega (arith, behind, count_above, long))
      ])

  length_wide : (table : List Bounds) → length (wide table) ≡ length table_above + (length table + length table_below)
  length_wide table =
      omega (
        arith,
        length-append table_above (map (lowered_bounds rows) table ++ table_below),
        length-append (map (lowered_bounds rows) table) table_below,
        length-map table (lowered_bounds rows),
      )

  module _ (table new : List Bounds) (t : ℕ) (count : length table ≡ count_of band) (within : t < count_of band)
      (widened : AreWidened band (set table t no_bounds) new) where
    new_count : length new ≡ length table
    new_count = widened.count ∙ length-set table t no_bounds

    there_within : tiles + t < length (wide table)
    there_within = omega (arith, length_wide table, count_above, within, count)

    -- where in the whole a tile stands
    place : (u : ℕ) → (u ≡ tiles + t) ⊎ (((u < tiles) ⊎ (tiles + length table ≤ u))
        ⊎ ((v : ℕ) × (u ≡ tiles + v) × (v < length table) × (v ≢ t)))
    place u = elim (cases_eq u (tiles + t)) [
      | inl same ↦ inl same
      | inr other ↦ elim (cases_lt u tiles) [
        | inl over ↦ inr (inl (inl over))
        | inr more ↦ elim (cases_lt u (tiles + length table)) [
          | inr under ↦ inr (inl (inr under))
          | inl less ↦ inr (inr (
            u - tiles,
            omega (arith, more),
            omega (arith, more, less),
            λ same. other (omega (arith, same, more)),
          ))
        ]
      ]
    ]

    unchanged : (u : ℕ) → (u < tiles) ⊎ (tiles + length table ≤ u)
        → bounds_for (set (wide table) (tiles + t) no_bounds) u ≡ bounds_for (wide new) u
    unchanged u outside =
        let away : u ≢ tiles + t = λ same. elim outside [
          | inl over ↦ omega (arith, over, same)
          | inr under ↦ omega (arith, under, same, within, count)
        ] in
        get_or-set_other (wide table) (tiles + t) u no_bounds no_bounds away
        ∙ bounds_outside table new u (sym new_count) outside

    was_in_band : (v : ℕ) → v < length table → v ≢ t
        → bounds_for (set (wide table) (tiles + t) no_bounds) (tiles + v)
        ≡ lowered_bounds rows (bounds_for (set table t no_bounds) v)
    was_in_band v in_band other =
        get_or-set_other (wide table) (tiles + t) (tiles + v) no_bounds no_bounds (λ same. other (omega (arith, same)))
        ∙ bounds_put table v in_band
        ∙ ap (lowered_bounds rows) (sym (get_or-set_other table t v no_bounds no_bounds other))

    is_in_band : (v : ℕ) → v < length table
        → bounds_for (wide new) (tiles + v) ≡ lowered_bounds rows (bounds_for new v)
    is_in_band v in_band = bounds_put new v (omega (arith, in_band, new_count))

    still_there : (v : ℕ) → v < length table → v < length (set table t no_bounds)
    still_there v in_band = omega (arith, in_band, length-set table t no_bounds)

    tile_kept : (u : ℕ) (p : Pixel) → IsInBounds (bounds_for (set (wide table) (tiles + t) no_bounds) u) p
        → IsInBounds (bounds_for (wide new) u) p
    tile_kept u p found = elim (place u) [
      | inl same ↦
          absurd (none_in_none p (rw (get_or-set_same (wide table) (tiles + t) no_bounds no_bounds there_within) at
          (subst (λ n. IsInBounds (bounds_for (set (wide table) (tiles + t) no_bounds) n) p) same found)))
      | inr rest ↦ elim rest [
        | inl outside ↦ subst (λ b. IsInBounds b p) (unchanged u outside) found
        | inr (v, same, in_band, other) ↦
            let before : IsInBounds (lowered_bounds rows (bounds_for (set table t no_bounds) v)) p =
            subst (λ b. IsInBounds b p) (was_in_band v in_band other)
            (subst (λ n. IsInBounds (bounds_for (set (wide table) (tiles + t) no_bounds) n) p) same found) in
            let kept : IsInBounds (bounds_for new v) (raised rows p) =
            widened.kept v (raised rows p) (still_there v in_band)
            (before.0, before.1, omega (arith, before.2), omega (arith, before.2, before.3)) in
            let after : IsInBounds (lowered_bounds rows (bounds_for new v)) p =
            (kept.0, kept.1, omega (arith, kept.2, before.2), omega (arith, kept.3, before.2)) in
            subst (λ n. IsInBounds (bounds_for (wide new) n) p) (sym same)
            (subst (λ b. IsInBounds b p) (sym (is_in_band v in_band)) after)
      ]
    ]

    tile_lies : (u : ℕ) → LieIn (bounds_for (set (wide table) (tiles + t) no_bounds) u) (rect_of whole u)
        → LieIn (bounds_for (wide new) u) (rect_of whole u)
    tile_lies u lay = elim (place u) [
      | inl same ↦
          let none : LieIn (bounds_for (set table t no_bounds) t) (rect_of band t) =
          rw (get_or-set_same table t no_bounds no_bounds (omega (arith, within, count)))
          (none_lie band t band_tiled within) in
          let lies = widened.lie t (still_there t (omega (arith, within, count))) none in
          subst (λ n. LieIn (bounds_for (wide new) n) (rect_of whole n)) (sym same)
          (lies_lowered t within (omega (arith, within, count)) lies)
      | inr rest ↦ elim rest [
        | inl outside ↦ subst (λ b. LieIn b (rect_of whole u)) (unchanged u outside) lay
        | inr (v, same, in_band, other) ↦
            let tile : v < count_of band = omega (arith, in_band, count) in
            let before : LieIn (lowered_bounds rows (bounds_for (set table t no_bounds) v))
            (lowered_rect rows (rect_of band v)) =
            subst (λ r. LieIn (lowered_bounds rows (bounds_for (set table t no_bounds) v)) r)
            (rect_of_lowered whole above band tiled band_tiled of v tile)
            (subst (λ b. LieIn b (rect_of whole (tiles + v))) (was_in_band v in_band other)
            (subst (λ n. LieIn (bounds_for (set (wide table) (tiles + t) no_bounds) n) (rect_of whole n)) same lay)) in
            let lies =
            widened.lie v (still_there v in_band)
            (lie_raised rows (bounds_for (set table t no_bounds) v) (rect_of band v) before) in
            subst (λ n. LieIn (bounds_for (wide new) n) (rect_of whole n)) (sym same) (lies_lowered v tile in_band lies)
      ]
    ] where
      lies_lowered : (v : ℕ) → v < count_of band → v < length table → LieIn (bounds_for new v) (rect_of band v)
          → LieIn (bounds_for (wide new) (tiles + v)) (rect_of whole (tiles + v))
      lies_lowered v tile in_band lies =
          subst (λ b. LieIn b (rect_of whole (tiles + v))) (sym (is_in_band v in_band))
          (subst (λ r. LieIn (lowered_bounds rows (bounds_for new v)) r)
          (sym (rect_of_lowered whole above band tiled band_tiled of v tile))
          (lie_lowered rows (bounds_for new v) (rect_of band v) lies))

    pub widened_put : AreWidened whole (set (wide table) (tiles + t) no_bounds) (wide new)
    widened_put = record {
      count =
          omega (arith, length_wide new, length_wide table, new_count, length-set (wide table) (tiles + t) no_bounds);
      kept = λ u p in_table. tile_kept u p;
      lie = λ u in_table. tile_lies u;
    }

    -- ---- what follows a change within the band

    module _ (conn : Conn) (s after : ImageAndWork) (fits : FitsIn whole above band around s)
        (fits_after : FitsIn whole above band around after)
        (rises : (p : Pixel) → IsInside band.width band.height p → value_at s.image p ≤ value_at after.image p)
        (follow : FollowChange band conn s.image after.image (set table t no_bounds) new) where
      -- a pixel of the whole is one of the band, or shows what it showed
      in_band_or_same : (p : Pixel) → IsInside whole.width whole.height p
          → ((rows ≤ p.y) × IsInside band.width band.height (raised rows p))
          ⊎ (value_at (put_in around s).image p ≡ value_at (put_in around after).image p)
      in_band_or_same p inside =
          let from : length around.cells_above ≡ rows * around.width =
          fits.cells_above ∙ ap (λ w. rows * w) (sym fits.width) in
          let column : p.x < around.width = omega (arith, inside.0, fits.width) in
          elim (cases_lt p.y rows) [
            | inl over ↦
                inr (outside_same around.cells_above s.image.cells after.image.cells around.cells_below
                (index_of around.width p) 0 same_cells
                (inl (omega (arith, from, mul-add-lt p.y around.width p.x rows over column))))
            | inr at_least ↦ elim (cases_lt p.y (rows + band.height)) [
              | inl under ↦ inl (at_least, (omega (arith, inside.0, of.width), omega (arith, at_least, under)))
              | inr below ↦
                  let long : (rows + band.height) * around.width ≤ p.y * around.width =
                  mul-le (rows + band.height) around.width p.y around.width below (omega arith) in
                  inr (outside_same around.cells_above s.image.cells after.image.cells around.cells_below
                  (index_of around.width p) 0 same_cells (inr (omega (arith, from, counted, long))))
            ]
          ] where
            sized : (x : ImageAndWork) → FitsIn whole above band around x → length x.image.cells ≡ band.height *
                around.width
            sized x fit =
                let w : x.image.width ≡ around.width = fit.band_width ∙ of.width ∙ sym fit.width in
                let turned : around.width * band.height ≡ band.height * around.width = omega arith in
                fit.filled ∙ (λ i. w i * fit.band_height i) ∙ turned

            counted : length s.image.cells ≡ band.height * around.width
            counted = sized s fits

            same_cells : length s.image.cells ≡ length after.image.cells
            same_cells = sized s fits ∙ sym (sized after fits_after)

      values : (p : Pixel) → rows ≤ p.y → IsInside band.width band.height (raised rows p)
          → (value_at (put_in around s).image p ≡ value_at s.image (raised rows p))
          × (value_at (put_in around after).image p ≡ value_at after.image (raised rows p))
      values p below inside =
          let back = lowered-raised rows p below in (
            ap (value_at (put_in around s).image) (sym back)
                ∙ value_put whole above band tiled band_tiled of around s fits (raised rows p) inside,
            ap (value_at (put_in around after).image) (sym back)
                ∙ value_put whole above band tiled band_tiled of around after fits_after (raised rows p) inside,
          )

      pub follow_put : FollowChange whole conn (put_in around s).image (put_in around after).image
          (set (wide table) (tiles + t) no_bounds) (wide new)
      follow_put = record {
        widened = widened_put;
        risen = λ p inside rose. elim (in_band_or_same p inside) [
          | inr same ↦ absurd (omega (arith, rose, same))
          | inl (below, in_band) ↦
              let both = values p below in_band in
              let v = tile_of band (raised rows p) in
              let tile : v < length table = omega (
                arith,
                tile_of-within band (raised rows p) band_tiled in_band,
                count,
              ) in
              let found = follow.risen (raised rows p) in_band (omega (arith, rose, both.0, both.1)) in
              let home : tile_of whole p ≡ tiles + v =
              ap (tile_of whole) (sym (lowered-raised rows p below))
              ∙ tile_of_lowered whole above band tiled band_tiled of (raised rows p) in
              let lower : IsInBounds (lowered_bounds rows (bounds_for new v)) p =
              (found.0, found.1, omega (arith, found.2, below), omega (arith, found.3, below)) in
              subst (λ n. IsInBounds (bounds_for (wide new) n) p) (sym home)
              (subst (λ b. IsInBounds b p) (sym (is_in_band v tile)) lower)
        ];
        fallen = λ p q inside_p inside_q beside fell. elim (in_band_or_same q inside_q) [
          | inr same ↦ absurd (omega (arith, fell, same))
          | inl (below, in_band) ↦
              let both = values q below in_band in
              absurd (omega (arith, fell, both.0, both.1, rises (raised rows q) in_band))
        ];
      }
