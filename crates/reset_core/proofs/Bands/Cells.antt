-- Bands that are cut out stand one below another, and have all cells and all work of the whole.
use Rattle.std.proofs.Common.{◌≡◌, ℕ, ◌+◌, ◌-◌, ◌*◌, ◌<◌, ◌≤◌, inl, inr, sym, ap, ◌∙◌, arith, refl}
use Rattle.std.proofs.Common.{min, List}
use Rattle.std.proofs.Common.{[], ◌∷◌, ◌++◌, length, get_or, take, drop}
use Rattle.std.proofs.lemmas.Grind.{div_ceil_times}
use Rattle.std.proofs.lemmas.Nat.{mul-le, mul-add-lt}
use Rattle.std.proofs.lemmas.List.{length-take-le, length-drop, length-replicate, get_or-take, get_or-drop, drop_all}
use Rattle.std.proofs.lemmas.List.{drop-drop, take-append-drop, nil_from_length}
use Rattle.grid_core.specs.{declared.bounds.Bounds.Bounds}
use Rattle.grid_core.specs.Tiles.{Tiles, IsTiled, columns_of, count_of, rows_of}
use Rattle.grid_core.proofs.Tilings.{some_side}
use Rattle.core_rules.specs.Work.{Core, tiling}
use Rattle.tile_work.proofs.Parts.{length_part}
use Rattle.reset_core.specs.declared.replica.bands.Band.{Band}
use Rattle.reset_core.specs.Bands.{StandsAt, AreStacked, cells_of, works_of, rows_above, tiles_above}
use Rattle.reset_core.specs.BandParts.{AreReady, IsTilingOf, IsBandCut, AreBandsCut, cells_in, strip_of, strips_of}
use Rattle.reset_core.proofs.Bands.Cuts.{span_count, tiles_within}
use Rattle.reset_core.proofs.Bands.Tables.{cut_down, next_first, bounds_count}
use Rattle.reset_core.proofs.Bands.Parts.{some_rows}

-- how many rows of pixels stand above a row of tiles, of those that there are
abbrev pub top_of : Tiles → ℕ → ℕ
top_of tiles above = min (above * tiles.side) tiles.height

-- the rows of tiles have all rows of pixels
all_rows : (tiles : Tiles) → IsTiled tiles → tiles.height ≤ rows_of tiles * tiles.side
all_rows tiles tiled = (div_ceil_times tiles.height tiles.side (some_side tiles tiled)).0

module _ (tiles : Tiles) (tiled : IsTiled tiles) (above : ℕ) (band : Tiles)
    (cut : IsTilingOf tiles above (above + rows_of band) band) where
  -- the last band ends where the image does
  last_ends : above + rows_of band ≡ rows_of tiles → above * tiles.side + band.height ≡ tiles.height
  last_ends last = elim cut.is_band.ends [
    | inl ends ↦ ends
    | inr (rows, even) ↦
        let whole : band.height ≡ rows * band.side = even ∙ ap (λ s. rows * s) (sym cut.is_band.side) in
        let positive = some_side band cut.tiled in
        let rows_are : rows_of band ≡ rows =
        span_count band.height band.side rows positive (omega (arith, whole)) (omega (arith, whole, positive)) in
        let all : (above + rows) * tiles.side ≡ rows_of tiles * tiles.side =
        ap (λ n. n * tiles.side) (ap (λ n. above + n) (sym rows_are) ∙ last) in
        omega (arith, all, even, all_rows tiles tiled, cut.is_band.within)
  ]

  pub next_top : top_of tiles (above + rows_of band) ≡ top_of tiles above + band.height
  next_top = elim cut.ends [
    | inl last ↦
        let all : (above + rows_of band) * tiles.side ≡ rows_of tiles * tiles.side =
        ap (λ n. n * tiles.side) last in
        omega (arith, all, all_rows tiles tiled, last_ends last)
    | inr even ↦ omega (arith, even, cut.is_band.within)
  ]

-- ---- what is left of mask and image

-- mask and image without the rows of pixels above this row of tiles
pub record AreLeft (whole : Core) (above : ℕ) (mask image : List ℕ) : Type 0 where
  pub mask_is : (k : ℕ) → k < length mask
      → get_or mask k 0 ≡ get_or whole.mask.cells (rows_above (tiling whole) above * whole.mask.width + k) 0
  pub mask_count : length mask + top_of (tiling whole) above * whole.mask.width ≡ whole.mask.height * whole.mask.width
  pub image_count : length image + top_of (tiling whole) above * whole.mask.width
      ≡ whole.mask.height * whole.mask.width

-- how many are left below
count_below : (long n top below height width all : ℕ) → long + top * width ≡ all → n ≡ height * width
    → below ≡ top + height → below * width ≤ all → (n ≤ long) × (long - n + below * width ≡ all)
count_below long n top below height width all sum size next most =
    let split : below * width ≡ (top + height) * width = ap (λ t. t * width) next in
    (omega (arith, sum, size, split, most), omega (arith, sum, size, split, most))

module _ (whole : Core) (tiled : IsTiled (tiling whole)) (above : ℕ) (band : Band)
    (cut : IsTilingOf (tiling whole) above (above + rows_of band.tiling) band.tiling) (mask image : List ℕ)
    (left : AreLeft whole above mask image) where
  abbrev tiles : Tiles
  tiles = tiling whole

  abbrev below : ℕ
  below = above + rows_of band.tiling

  size : cells_in band ≡ band.tiling.height * whole.mask.width
  size =
      let turned : band.tiling.width * band.tiling.height ≡ band.tiling.height * band.tiling.width = omega arith in
      turned ∙ ap (λ w. band.tiling.height * w) cut.is_band.width

  most : top_of tiles below * whole.mask.width ≤ whole.mask.height * whole.mask.width
  most = mul-le (top_of tiles below) whole.mask.width whole.mask.height whole.mask.width (omega arith) (omega arith)

  mask_sizes : (cells_in band ≤ length mask)
      × (length mask - cells_in band + top_of tiles below * whole.mask.width ≡ whole.mask.height * whole.mask.width)
  mask_sizes =
      count_below (length mask) (cells_in band) (top_of tiles above) (top_of tiles below) band.tiling.height
      whole.mask.width (whole.mask.height * whole.mask.width) left.mask_count size
      (next_top tiles tiled above band.tiling cut) most

  image_sizes : (cells_in band ≤ length image)
      × (length image - cells_in band + top_of tiles below * whole.mask.width ≡ whole.mask.height * whole.mask.width)
  image_sizes =
      count_below (length image) (cells_in band) (top_of tiles above) (top_of tiles below) band.tiling.height
      whole.mask.width (whole.mask.height * whole.mask.width) left.image_count size
      (next_top tiles tiled above band.tiling cut) most

  -- where there is more below, it begins behind the band's cells
  place_below : 0 < length mask - cells_in band
      → rows_above tiles below * whole.mask.width ≡ rows_above tiles above * whole.mask.width + cells_in band
  place_below some = elim cut.ends [
    | inl last ↦
        let all : below * tiles.side ≡ rows_of tiles * tiles.side = ap (λ n. n * tiles.side) last in
        let top : top_of tiles below ≡ whole.mask.height = omega (arith, all, all_rows tiles tiled) in
        let full : top_of tiles below * whole.mask.width ≡ whole.mask.height * whole.mask.width =
        ap (λ n. n * whole.mask.width) top in
        absurd (omega (arith, full, mask_sizes.1, some))
    | inr even ↦
        let rows : band.tiling.height * whole.mask.width ≡ rows_of band.tiling * tiles.side * whole.mask.width =
        ap (λ n. n * whole.mask.width) even in
        omega (arith, rows, size)
  ]

  pub left_below : AreLeft whole below (drop (cells_in band) mask) (drop (cells_in band) image)
  left_below =
      let n = cells_in band in
      let long = length-drop n mask in
      record {
        mask_is = λ k within.
            let place : rows_above tiles above * whole.mask.width + (n + k)
            ≡ rows_above tiles below * whole.mask.width + k =
            omega (arith, place_below (omega (arith, within, long))) in
            get_or-drop n mask k 0 ∙ left.mask_is (n + k) (omega (arith, within, long))
            ∙ ap (λ i. get_or whole.mask.cells i 0) place;
        mask_count = omega (arith, long, mask_sizes.1);
        image_count = omega (arith, length-drop n image, image_sizes.1);
      }

  -- ---- where the band stands

  pub stands : (limit : ℕ) (table : List Bounds) → length table ≡ count_of tiles → length whole.tiles ≡ count_of tiles
      → below ≤ rows_of tiles → IsBandCut tiles whole.conn limit whole.tiles table above band
      → StandsAt whole above (strip_of band (take (cells_in band) mask) (take (cells_in band) image))
  stands limit table bounds works within one =
      let n = cells_in band in
      let width = cut.is_band.width in
      record {
        tiled = cut.tiled;
        tiles = cut.is_band;
        conn = one.conn_is;
        mask = λ p inside.
            let k = p.y * band.tiling.width + p.x in
            let here : k < n =
            omega (arith, mul-add-lt p.y band.tiling.width p.x band.tiling.height inside.1 inside.0) in
            let same : k ≡ p.y * whole.mask.width + p.x = ap (λ w. p.y * w + p.x) width in
            let place : (rows_above tiles above + p.y) * whole.mask.width + p.x
            ≡ rows_above tiles above * whole.mask.width + k = omega (arith, same) in
            ap (λ i. get_or whole.mask.cells i 0) place
            ∙ sym (left.mask_is k (omega (arith, here, mask_sizes.0))) ∙ sym (get_or-take n mask k 0 here);
        width = refl;
        height = refl;
        filled = length-take-le n image image_sizes.0;
        works =
            let first = tiles_above tiles above in
            let fits = tiles_within tiles above below band.tiling tiled within cut in
            ap length one.work
            ∙ length_part whole.tiles first (first + count_of band.tiling) (omega arith) (omega (arith, fits, works))
            ∙ omega arith;
        table = bounds_count tiles tiled whole.conn limit whole.tiles table bounds above below band within one;
      }

-- ---- all bands

-- how many cells the bands have
abbrev pub all_cells : List Band → ℕ
all_cells [] = 0
all_cells (band ∷ rest) = cells_in band + all_cells rest

module _ (whole : Core) (tiled : IsTiled (tiling whole)) (limit : ℕ) (table : List Bounds)
    (bounds : length table ≡ count_of (tiling whole)) (works : length whole.tiles ≡ count_of (tiling whole)) where
  abbrev all_tiles : Tiles
  all_tiles = tiling whole

  -- below the last row of tiles no band is cut out
  none_below : (mask image : List ℕ) (bands : List Band) (above : ℕ) → above ≡ rows_of all_tiles
      → AreBandsCut all_tiles whole.conn limit whole.tiles table above bands (rows_of all_tiles)
      → strips_of mask image bands ≡ []
  none_below mask image [] above last cut = refl
  none_below mask image (band ∷ rest) above last (one, more) =
      let down =
      cut_down all_tiles whole.conn limit whole.tiles table rest (above + rows_of band.tiling) (rows_of all_tiles)
      more in
      absurd (omega (arith, down, last, some_rows band.tiling one.tiling.tiled))

  pub stacked : (bands : List Band) (above : ℕ) (mask image : List ℕ)
      → AreBandsCut all_tiles whole.conn limit whole.tiles table above bands (rows_of all_tiles)
      → AreLeft whole above mask image → AreStacked whole above (strips_of mask image bands)
  stacked [] above mask image cut left = tt
  stacked (band ∷ rest) above mask image (one, more) left =
      let n = cells_in band in
      let below = above + rows_of band.tiling in
      let within = cut_down all_tiles whole.conn limit whole.tiles table rest below (rows_of all_tiles) more in (
        stands whole tiled above band one.tiling mask image left limit table bounds works within one,
        elim one.tiling.ends [
          | inl last ↦ inl (none_below (drop n mask) (drop n image) rest below last more)
          | inr even ↦ inr even
        ],
        stacked rest below (drop n mask) (drop n image) more
            (left_below whole tiled above band one.tiling mask image left),
      )

  -- the bands have all work that is not above them
  pub works_cut : (bands : List Band) (above : ℕ) (mask image : List ℕ)
      → AreBandsCut all_tiles whole.conn limit whole.tiles table above bands (rows_of all_tiles)
      → works_of (strips_of mask image bands) ≡ drop (tiles_above all_tiles above) whole.tiles
  works_cut [] above mask image last =
      let all : tiles_above all_tiles above ≡ rows_of all_tiles * columns_of all_tiles =
      ap (λ n. n * columns_of all_tiles) last in
      sym (drop_all (tiles_above all_tiles above) whole.tiles (omega (arith, all, works)))
  works_cut (band ∷ rest) above mask image (one, more) =
      let n = cells_in band in
      let below = above + rows_of band.tiling in
      let within = cut_down all_tiles whole.conn limit whole.tiles table rest below (rows_of all_tiles) more in
      let first = tiles_above all_tiles above in
      let end = first + count_of band.tiling in
      let next = next_first all_tiles tiled whole.conn limit whole.tiles table bounds above below band within one in
      let tail = works_cut rest below (drop n mask) (drop n image) more in
      let behind : drop (tiles_above all_tiles below) whole.tiles ≡ drop (end - first) (drop first whole.tiles) =
      ap (λ k. drop k whole.tiles) (next ∙ omega arith) ∙ sym (drop-drop (end - first) first whole.tiles) in
      (λ i. one.work i ++ (tail ∙ behind) i) ∙ take-append-drop (end - first) (drop first whole.tiles)

  pub cells_cut : (bands : List Band) (above : ℕ) (mask image : List ℕ)
      → AreBandsCut all_tiles whole.conn limit whole.tiles table above bands (rows_of all_tiles)
      → AreLeft whole above mask image → length image ≤ all_cells bands
  cells_cut [] above mask image last left =
      let all : above * whole.side ≡ rows_of all_tiles * whole.side = ap (λ n. n * whole.side) last in
      let top : top_of all_tiles above ≡ whole.mask.height = omega (arith, all, all_rows all_tiles tiled) in
      let full : top_of all_tiles above * whole.mask.width ≡ whole.mask.height * whole.mask.width =
      ap (λ n. n * whole.mask.width) top in
      omega (arith, full, left.image_count)
  cells_cut (band ∷ rest) above mask image (one, more) left =
      let n = cells_in band in
      let tail =
      cells_cut rest (above + rows_of band.tiling) (drop n mask) (drop n image) more
      (left_below whole tiled above band one.tiling mask image left) in
      omega (arith, tail, length-drop n image)

  pub ready : (bands : List Band) (above end : ℕ)
      → AreBandsCut all_tiles whole.conn limit whole.tiles table above bands end → AreReady bands
  ready [] above end cut = tt
  ready (band ∷ rest) above end (one, more) = (
    record { enough = one.enough; count = ap length one.swept ∙ length-replicate (count_of band.tiling) _ },
    ready rest (above + rows_of band.tiling) end more,
  )

-- cells that are no more than the bands have are theirs
pub cells_are : (bands : List Band) (mask image : List ℕ) → length image ≤ all_cells bands
    → cells_of (strips_of mask image bands) ≡ image
cells_are [] mask image few = sym (nil_from_length image (omega (arith, few)))
cells_are (band ∷ rest) mask image few =
    let n = cells_in band in
    ap (λ l. take n image ++ l) (cells_are rest (drop n mask) (drop n image) (omega (arith, few, length-drop n image)))
    ∙ take-append-drop n image
