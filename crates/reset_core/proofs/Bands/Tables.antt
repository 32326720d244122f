-- Bounds that were cut out with bands, and those that are put back: each tile has the same pixels within its bounds.
use Rattle.std.proofs.Common.{◌≡◌, ◌⊎◌, ℕ, ◌+◌, ◌-◌, ◌<◌, ◌≤◌, inl, inr, sym, ap, ◌∙◌, subst, arith, refl, Bool}
use Rattle.std.proofs.Common.{cond, true, false, List, [], ◌∷◌, length, map, slice_range, drop}
use Rattle.std.proofs.lemmas.Bool.{cases_lt}
use Rattle.std.proofs.lemmas.List.{length-append, length-map, get_or_append_left, get_or-append_right, get_or-map}
use Rattle.grid_core.specs.{declared.bounds.Bounds.Bounds, declared.conn.Conn.Conn, declared.pixel.Pixel.Pixel}
use Rattle.grid_core.specs.{declared.rect.Rect.Rect, Bounds.IsInBounds, Bounds.LieIn, Bounds.bounds_of}
use Rattle.grid_core.specs.{Bounds.no_bounds}
use Rattle.grid_core.specs.Tiles.{Tiles, IsTiled, count_of, rows_of, rect_of, tile_of}
use Rattle.grid_core.proofs.Tilings.{tiles_lie_inside, tile_of-within}
use Rattle.border_queues.specs.TileWork.{TileWork}
use Rattle.core_rules.specs.Work.{Core, tiling}
use Rattle.tile_work.specs.{Cutting.have_pixels, Cutting.in_band, Cutting.in_whole, Cutting.EndWithin}
use Rattle.tile_work.specs.OpenBounds.{bounds_for}
use Rattle.tile_work.proofs.CuttingBounds.{bounds_cut, within_band, within_whole, band_lies}
use Rattle.tile_work.proofs.Parts.{length_part}
use Rattle.reset_core.specs.declared.replica.bands.Band.{Band}
use Rattle.reset_core.specs.{Bounding.AreBounded}
use Rattle.reset_core.specs.Bands.{lowered_bounds, lowered_rect, rows_above, tiles_above, tables_of}
use Rattle.reset_core.specs.BandParts.{IsBandCut, AreBandsCut, cells_in, strips_of}
use Rattle.reset_core.specs.PuttingBack.{bounds_in}
use Rattle.reset_core.proofs.{Bands.Tiles.raised, Bands.Tiles.lowered-raised, Bounding.none_lie}
use Rattle.reset_core.proofs.Bands.Cuts.{begin_below, count_to, tiles_within}

-- ---- cut out

-- bands follow one another downwards
pub cut_down : (tiles : Tiles) (conn : Conn) (limit : ℕ) (works : List TileWork) (table : List Bounds) (bands : List
    Band) (above below : ℕ) → AreBandsCut tiles conn limit works table above bands below → above ≤ below
cut_down tiles conn limit works table [] above below same = omega (arith, same)
cut_down tiles conn limit works table (band ∷ rest) above below (one, more) =
    omega (arith, cut_down tiles conn limit works table rest (above + rows_of band.tiling) below more)

module _ (tiles : Tiles) (tiled : IsTiled tiles) (conn : Conn) (limit : ℕ) (works : List TileWork) (table : List Bounds)
    (count : length table ≡ count_of tiles) where
  module _ (above below : ℕ) (band : Band) (within : above + rows_of band.tiling ≤ rows_of tiles)
      (cut : IsBandCut tiles conn limit works table above band) where
    abbrev first : ℕ
    first = tiles_above tiles above

    pub next_first : tiles_above tiles (above + rows_of band.tiling) ≡ first + count_of band.tiling
    next_first = sym (count_to tiles above (above + rows_of band.tiling) band.tiling tiled cut.tiling)

    fits : first + count_of band.tiling ≤ length table
    fits =
        let most = tiles_within tiles above (above + rows_of band.tiling) band.tiling tiled within cut.tiling in
        omega (arith, most, count)

    pub bounds_count : length band.bounds ≡ count_of band.tiling
    bounds_count =
        ap length cut.bounds
        ∙ length-map (slice_range table first (first + count_of band.tiling)) (in_band (rows_above tiles above))
        ∙ length_part table first (first + count_of band.tiling) (omega arith) fits ∙ omega arith

    pub bounds_are : (u : ℕ) → u < count_of band.tiling
        → bounds_for band.bounds u ≡ in_band (rows_above tiles above) (bounds_for table (first + u))
    bounds_are u here =
        ap (λ (l : List Bounds). bounds_for l u) cut.bounds
        ∙ bounds_cut table first (first + count_of band.tiling) (rows_above tiles above) (omega arith) fits u
        (omega (arith, here))

  -- there are bounds for each of their tiles
  pub length_cut : (mask image : List ℕ) (bands : List Band) (above below : ℕ) → below ≤ rows_of tiles
      → AreBandsCut tiles conn limit works table above bands below
      → tiles_above tiles above + length (tables_of tiles above (strips_of mask image bands)) ≡ tiles_above tiles below
  length_cut mask image [] above below within same = omega arith ∙ ap (tiles_above tiles) same
  length_cut mask image (band ∷ rest) above below within (one, more) =
      let n = cells_in band in
      let next = above + rows_of band.tiling in
      let down = cut_down tiles conn limit works table rest next below more in
      let here : next ≤ rows_of tiles = omega (arith, down, within) in
      let low = lowered_bounds (rows_above tiles above) in
      let tail = tables_of tiles next (strips_of (drop n mask) (drop n image) rest) in
      omega (
        arith,
        length_cut (drop n mask) (drop n image) rest next below within more,
        length-append (map low band.bounds) tail,
        length-map band.bounds low,
        bounds_count above below band here one,
        next_first above below band here one,
      )

  -- the bounds of a tile were taken into a band that begins above it, and back
  pub cut_at : (mask image : List ℕ) (bands : List Band) (above below : ℕ) → below ≤ rows_of tiles
      → AreBandsCut tiles conn limit works table above bands below → (u t : ℕ) → tiles_above tiles above + u ≡ t
      → t < tiles_above tiles below → (a : ℕ) × (tiles_above tiles a ≤ t)
      × (bounds_for (tables_of tiles above (strips_of mask image bands)) u
      ≡ lowered_bounds (rows_above tiles a) (in_band (rows_above tiles a) (bounds_for table t)))
  cut_at mask image [] above below within same u t place before =
      absurd (omega (arith, before, place, ap (tiles_above tiles) same))
  cut_at mask image (band ∷ rest) above below within (one, more) u t place before =
      let n = cells_in band in
      let next = above + rows_of band.tiling in
      let down = cut_down tiles conn limit works table rest next below more in
      let here : next ≤ rows_of tiles = omega (arith, down, within) in
      let low = lowered_bounds (rows_above tiles above) in
      let tail = tables_of tiles next (strips_of (drop n mask) (drop n image) rest) in
      let count_here = bounds_count above below band here one in
      let long = length-map band.bounds low in
      elim (cases_lt u (count_of band.tiling)) [
        | inl inside ↦ (
          above,
          omega (arith, place),
          get_or_append_left (map low band.bounds) tail no_bounds u (omega (arith, inside, count_here, long))
              ∙ get_or-map low band.bounds u no_bounds no_bounds (omega (arith, inside, count_here))
              ∙ ap low (bounds_are above below band here one u inside)
              ∙ ap (λ k. low (in_band (rows_above tiles above) (bounds_for table k))) place,
        )
        | inr beyond ↦
            let step = next_first above below band here one in
            let (a, from, is) =
            cut_at (drop n mask) (drop n image) rest next below within more (u - count_of band.tiling) t
            (omega (arith, place, beyond, step)) before in (
              a,
              from,
              get_or-append_right (map low band.bounds) tail (count_of band.tiling) u no_bounds
                  (omega (arith, count_here, long)) beyond
                  ∙ is,
            )
      ]

  -- ---- a tile's bounds, taken into a band and back

  module _ (a t : ℕ) (from : tiles_above tiles a ≤ t) (within : t < count_of tiles) (b : Bounds)
      (lies : LieIn b (rect_of tiles t)) where
    abbrev rows : ℕ
    rows = rows_above tiles a

    begins : rows ≤ b.top
    begins = begin_below tiles a t b tiled from lies

    rect_below : rows ≤ (rect_of tiles t).y
    rect_below =
        begin_below tiles a t (bounds_of (rect_of tiles t)) tiled from
        (omega arith, omega arith, omega arith, omega arith)

    pub both_lie : LieIn (lowered_bounds rows (in_band rows b)) (rect_of tiles t)
    both_lie =
        let rect = rect_of tiles t in
        let inside = tiles_lie_inside tiles t tiled within in
        let up : Rect = record { x = rect.x; y = rect.y - rows; w = rect.w; h = rect.h } in
        let same : lowered_rect rows up ≡ rect =
        let y : rows + (rect.y - rows) ≡ rect.y = omega (arith, rect_below) in
        λ i. record { x = rect.x; y = y i; w = rect.w; h = rect.h } in
        let band : LieIn (in_band rows b) up =
        band_lies rows b up (omega (arith, inside.columns, tiled.size.width_within))
        (omega (arith, inside.rows, tiled.size.height_within)) (subst (LieIn b) (sym same) lies) in
        subst (LieIn (lowered_bounds rows (in_band rows b))) same
        (band.0, band.1, omega (arith, band.2), omega (arith, band.3))

    pub both_within : (p : Pixel) → IsInBounds b p → IsInBounds (lowered_bounds rows (in_band rows b)) p
    both_within p inside =
        let below : rows ≤ p.y = omega (arith, begins, inside.2) in
        let band : IsInBounds (in_band rows b) (raised rows p) =
        (within_band rows b (inr begins) (raised rows p)).1
        (subst (IsInBounds b) (sym (lowered-raised rows p below)) inside) in
        (band.0, band.1, omega (arith, band.2, below), omega (arith, band.3, below))

-- bounds that were cut out with bands are bounds of the core still
pub bounded_cut : (core : Core) (conn : Conn) (limit : ℕ) (works : List TileWork) (table : List Bounds)
    (mask image : List ℕ) (bands : List Band) → IsTiled (tiling core) → AreBounded core table
    → AreBandsCut (tiling core) conn limit works table 0 bands (rows_of (tiling core))
    → AreBounded core (tables_of (tiling core) 0 (strips_of mask image bands))
bounded_cut core conn limit works table mask image bands tiled bounded cut =
    let tiles = tiling core in
    let all : tiles_above tiles (rows_of tiles) ≡ count_of tiles = omega arith in
    let long =
    length_cut tiles tiled conn limit works table bounded.count mask image bands 0 (rows_of tiles) (omega arith) cut in
    let new = tables_of tiles 0 (strips_of mask image bands) in
    let count : length new ≡ count_of tiles = omega (arith, long, all) in
    let at : (t : ℕ) → t < count_of tiles → (a : ℕ) × (tiles_above tiles a ≤ t)
    × (bounds_for new t ≡ lowered_bounds (rows_above tiles a) (in_band (rows_above tiles a) (bounds_for table t))) =
    λ t within.
    cut_at tiles tiled conn limit works table bounded.count mask image bands 0 (rows_of tiles) (omega arith) cut t t
    (omega arith) (omega (arith, within, all)) in
    record {
      count = count;
      lie = λ t there.
          let within : t < count_of tiles = omega (arith, there, count) in
          let (a, from, is) = at t within in
          subst (λ b. LieIn b (rect_of tiles t)) (sym is)
          (both_lie tiles tiled conn limit works table bounded.count a t from within (bounds_for table t)
          (bounded.lie t (omega (arith, within, bounded.count))));
      begin = λ p q wide.
          let t = tile_of tiles p in
          let within : t < count_of tiles = tile_of-within tiles p tiled wide.from_inside in
          let (a, from, is) = at t within in
          subst (λ b. IsInBounds b p) (sym is)
          (both_within tiles tiled conn limit works table bounded.count a t from within (bounds_for table t)
          (bounded.lie t (omega (arith, within, bounded.count))) p (bounded.begin p q wide));
    }

-- ---- put back

-- a choice gives one or the other
one_or_other : (c : Bool) (x y : Bounds) → (cond c x y ≡ x) ⊎ (cond c x y ≡ y)
one_or_other true x y = inl refl
one_or_other false x y = inr refl

-- bounds in the whole are those of the band so many rows further down, or those of no pixel
whole_is : (rows : ℕ) (b : Bounds) → (in_whole rows b ≡ lowered_bounds rows b) ⊎ (in_whole rows b ≡ no_bounds)
whole_is rows b = one_or_other (have_pixels b) (lowered_bounds rows b) no_bounds

length_back : (tiles : Tiles) (mask image : List ℕ) (bands : List Band) (above : ℕ)
    → length (bounds_in tiles above bands) ≡ length (tables_of tiles above (strips_of mask image bands))
length_back tiles mask image [] above = refl
length_back tiles mask image (band ∷ rest) above =
    let n = cells_in band in
    let next = above + rows_of band.tiling in
    let low = lowered_bounds (rows_above tiles above) in
    let whole = in_whole (rows_above tiles above) in
    omega (
      arith,
      length_back tiles (drop n mask) (drop n image) rest next,
      length-append (map low band.bounds) (tables_of tiles next (strips_of (drop n mask) (drop n image) rest)),
      length-append (map whole band.bounds) (bounds_in tiles next rest),
      length-map band.bounds low,
      length-map band.bounds whole,
    )

-- the bounds of a tile in the whole are its bounds in some band, so many rows further down
back_at : (tiles : Tiles) (mask image : List ℕ) (bands : List Band) (above u : ℕ)
    → u < length (bounds_in tiles above bands) → (rows : ℕ) × (b : Bounds)
    × (bounds_for (tables_of tiles above (strips_of mask image bands)) u ≡ lowered_bounds rows b)
    × (bounds_for (bounds_in tiles above bands) u ≡ in_whole rows b)
back_at tiles mask image [] above u within = absurd (omega (arith, within))
back_at tiles mask image (band ∷ rest) above u within =
    let n = cells_in band in
    let next = above + rows_of band.tiling in
    let rows = rows_above tiles above in
    let low = lowered_bounds rows in
    let whole = in_whole rows in
    let tail = tables_of tiles next (strips_of (drop n mask) (drop n image) rest) in
    let new_tail = bounds_in tiles next rest in
    let long = length-map band.bounds low in
    let new_long = length-map band.bounds whole in
    elim (cases_lt u (length band.bounds)) [
      | inl inside ↦ (
        rows,
        bounds_for band.bounds u,
        get_or_append_left (map low band.bounds) tail no_bounds u (omega (arith, inside, long))
            ∙ get_or-map low band.bounds u no_bounds no_bounds inside,
        get_or_append_left (map whole band.bounds) new_tail no_bounds u (omega (arith, inside, new_long))
            ∙ get_or-map whole band.bounds u no_bounds no_bounds inside,
      )
      | inr beyond ↦
          let both = length-append (map whole band.bounds) new_tail in
          let (r, b, old, new) =
          back_at tiles (drop n mask) (drop n image) rest next (u - length band.bounds)
          (omega (arith, within, both, new_long, beyond)) in (
            r,
            b,
            get_or-append_right (map low band.bounds) tail (length band.bounds) u no_bounds long beyond ∙ old,
            get_or-append_right (map whole band.bounds) new_tail (length band.bounds) u no_bounds new_long beyond ∙ new,
          )
    ]

-- bounds of bands that are put back are bounds of the core still
pub bounded_back : (core : Core) (mask image : List ℕ) (bands : List Band) → IsTiled (tiling core)
    → AreBounded core (tables_of (tiling core) 0 (strips_of mask image bands))
    → AreBounded core (bounds_in (tiling core) 0 bands)
bounded_back core mask image bands tiled bounded =
    let tiles = tiling core in
    let old = tables_of tiles 0 (strips_of mask image bands) in
    let new = bounds_in tiles 0 bands in
    let same = length_back tiles mask image bands 0 in
    let count : length new ≡ count_of tiles = same ∙ bounded.count in
    record {
      count = count;
      lie = λ t there.
          let (rows, b, old_is, new_is) = back_at tiles mask image bands 0 t there in
          let within : t < count_of tiles = omega (arith, there, count) in
          let lies : LieIn (lowered_bounds rows b) (rect_of tiles t) =
          subst (λ x. LieIn x (rect_of tiles t)) old_is (bounded.lie t (omega (arith, there, same))) in
          subst (λ x. LieIn x (rect_of tiles t)) (sym new_is) (elim (whole_is rows b) [
            | inl lower ↦ subst (λ x. LieIn x (rect_of tiles t)) (sym lower) lies
            | inr none ↦ subst (λ x. LieIn x (rect_of tiles t)) (sym none) (none_lie tiles t tiled within)
          ]);
      begin = λ p q wide.
          let t = tile_of tiles p in
          let within : t < count_of tiles = tile_of-within tiles p tiled wide.from_inside in
          let (rows, b, old_is, new_is) =
          back_at tiles mask image bands 0 t (omega (arith, within, count)) in
          subst (λ x. IsInBounds x p) (sym new_is)
          ((within_whole rows b p).1 (subst (λ x. IsInBounds x p) old_is (bounded.begin p q wide)));
    }

-- the bounds of each band end within an image, further down
pub ends_within : (tiles : Tiles) (above t : ℕ) (table : List Bounds) → IsTiled tiles
    → t + length table ≤ count_of tiles
    → ((u : ℕ) → u < length table
    → LieIn (lowered_bounds (rows_above tiles above) (bounds_for table u)) (rect_of tiles (t + u)))
    → EndWithin (rows_above tiles above) table
ends_within tiles above t table tiled within lie = λ u here.
    let inside = tiles_lie_inside tiles (t + u) tiled (omega (arith, here, within)) in
    let lies = lie u here in
    inr (omega (arith, lies.3, inside.rows, tiled.size.height_within))
