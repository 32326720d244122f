-- Hints that are handed over within a band, and so in the whole that it is put into.
use Rattle.std.proofs.Common.{◌≡◌, ℕ, ◌+◌, ◌-◌, ◌*◌, ◌<◌, sym, ap, ◌∙◌, arith, refl, List, [], ◌∷◌, ◌++◌, map}
use Rattle.std.proofs.Common.{length, get_or, set, Bool, true, false, nat_lt, if◌then◌else◌, Contains}
use Rattle.std.proofs.lemmas.List.{get_or-append-add, get_or_append_left, set-append_right, set-append_left, length-set}
use Rattle.grid_core.specs.{declared.pixel.Pixel.Pixel, Raster.IsInside, Raster.value_at}
use Rattle.grid_core.specs.{Raster.index_of}
use Rattle.grid_core.specs.Tiles.{Tiles, IsTiled, tile_of}
use Rattle.grid_core.proofs.Common.{here, later}
use Rattle.grid_core.proofs.Cells.{index_of-within}
use Rattle.grid_core.proofs.Tilings.{tile_of-within}
use Rattle.border_queues.specs.{declared.hint.Hint.Hint, TileWork.TileWork, TileWork.idle}
use Rattle.reset_core.specs.Telling.{ImageAndWork, risen_by, handed, all_handed}
use Rattle.reset_core.specs.Bands.{IsBandOf, rows_above, tiles_above, lowered, lowered_hint, Around, put_in, FitsIn}
use Rattle.reset_core.proofs.Bands.Tiles.{tile_of_lowered}

-- ---- lists between two others

pub get_between : {X : Type 0} (a b c : List X) (n : ℕ) (d : X) → n < length b
    → get_or (a ++ (b ++ c)) (length a + n) d ≡ get_or b n d
get_between a b c n d within = get_or-append-add a (b ++ c) n d ∙ get_or_append_left b c d n within

pub set_between : {X : Type 0} (a b c : List X) (n : ℕ) (x : X) → n < length b
    → set (a ++ (b ++ c)) (length a + n) x ≡ a ++ (set b n x ++ c)
set_between a b c n x within =
    let back : length a + n - length a ≡ n = omega arith in
    set-append_right a (b ++ c) (length a) (length a + n) x refl (omega arith)
    ∙ ap (λ k. a ++ set (b ++ c) k x) back ∙ ap (λ l. a ++ l) (set-append_left b c n x within)

either_way : (b : Bool) (P : ImageAndWork → Type 0) (x y : ImageAndWork) → P x → P y → P (if b then x else y)
either_way true P x y holds other = holds
either_way false P x y holds other = other

module _ (whole : Tiles) (above : ℕ) (band : Tiles) (tiled : IsTiled whole) (band_tiled : IsTiled band)
    (of : IsBandOf whole above band) (around : Around) where
  abbrev rows : ℕ
  rows = rows_above whole above

  abbrev tiles : ℕ
  tiles = tiles_above whole above

  -- ---- one pixel and one tile

  module _ (s : ImageAndWork) (fits : FitsIn whole above band around s) where
    module _ (p : Pixel) (inside : IsInside band.width band.height p) where
      place : index_of around.width (lowered rows p) ≡ length around.cells_above + index_of s.image.width p
      place =
          let widths : s.image.width ≡ whole.width = fits.band_width ∙ of.width in
          let sum : (rows + p.y) * whole.width + p.x ≡ rows * whole.width + (p.y * whole.width + p.x) = omega arith in
          ap (λ w. (rows + p.y) * w + p.x) fits.width ∙ sum
          ∙ (λ i. sym fits.cells_above i + (p.y * sym widths i + p.x))

      within : index_of s.image.width p < length s.image.cells
      within =
          index_of-within s.image p fits.filled
          (omega (arith, inside.0, fits.band_width), omega (arith, inside.1, fits.band_height))

      pub value_put : value_at (put_in around s).image (lowered rows p) ≡ value_at s.image p
      value_put =
          ap (get_or_in around.cells_above s.image.cells around.cells_below) place
          ∙ get_between around.cells_above s.image.cells around.cells_below (index_of s.image.width p) 0 within where
            get_or_in : List ℕ → List ℕ → List ℕ → ℕ → ℕ
            get_or_in a b c n = get_or (a ++ (b ++ c)) n 0

      home : tile_of band p < length s.rows
      home = omega (arith, tile_of-within band p band_tiled inside, fits.works)

      home_place : tile_of whole (lowered rows p) ≡ length around.works_above + tile_of band p
      home_place =
          tile_of_lowered whole above band tiled band_tiled of p
          ∙ ap (λ n. n + tile_of band p) (sym fits.works_above)

    pub risen_put : (hint : Hint) → IsInside band.width band.height hint.to_pixel
        → risen_by whole (lowered_hint whole above hint) (put_in around s) ≡ put_in around (risen_by band hint s)
    risen_put hint inside =
        let p = hint.to_pixel in
        let work_of_tile : ℕ → TileWork = λ t. get_or (put_in around s).rows t idle in
        let dirty : TileWork → TileWork = λ w. record w { dirty = true } in
        let cells : set (put_in around s).image.cells (index_of around.width (lowered rows p)) hint.value
        ≡ around.cells_above
        ++ (set s.image.cells (index_of s.image.width p) hint.value ++ around.cells_below) =
        ap (λ n. set (put_in around s).image.cells n hint.value) (place p inside)
        ∙ set_between around.cells_above s.image.cells around.cells_below (index_of s.image.width p) hint.value
        (within p inside) in
        let works : set (put_in around s).rows (tile_of whole (lowered rows p))
        (dirty (work_of_tile (tile_of whole (lowered rows p))))
        ≡ around.works_above
        ++ (set s.rows (tile_of band p) (dirty (get_or s.rows (tile_of band p) idle)) ++ around.works_below) =
        ap (λ t. set (put_in around s).rows t (dirty (work_of_tile t))) (home_place p inside)
        ∙ ap (λ w. set (put_in around s).rows (length around.works_above + tile_of band p) (dirty w))
        (get_between around.works_above s.rows around.works_below (tile_of band p) idle (home p inside))
        ∙ set_between around.works_above s.rows around.works_below (tile_of band p)
        (dirty (get_or s.rows (tile_of band p) idle)) (home p inside) in
        λ i. record {
          image = record { width = around.width; height = around.height; cells = cells i };
          rows = works i;
        }

    pub handed_put : (hint : Hint) → IsInside band.width band.height hint.to_pixel
        → handed whole (lowered_hint whole above hint) (put_in around s) ≡ put_in around (handed band hint s)
    handed_put hint inside =
        let whole_risen = risen_by whole (lowered_hint whole above hint) (put_in around s) in
        ap (λ v. if nat_lt v hint.value then whole_risen else put_in around s) (value_put hint.to_pixel inside)
        ∙ ap (λ r. if nat_lt (value_at s.image hint.to_pixel) hint.value then r else put_in around s)
        (risen_put hint inside)
        ∙ put_either (nat_lt (value_at s.image hint.to_pixel) hint.value) where
          put_either : (b : Bool) → (if b then put_in around (risen_by band hint s) else put_in around s)
              ≡ put_in around (if b then risen_by band hint s else s)
          put_either true = refl
          put_either false = refl

    pub fits_handed : (hint : Hint) → FitsIn whole above band around (handed band hint s)
    fits_handed hint =
        let v = nat_lt (value_at s.image hint.to_pixel) hint.value in
        either_way v (FitsIn whole above band around) (risen_by band hint s) s (record {
          width = fits.width;
          height = fits.height;
          cells_above = fits.cells_above;
          works_above = fits.works_above;
          band_width = fits.band_width;
          band_height = fits.band_height;
          filled = length-set s.image.cells (index_of s.image.width hint.to_pixel) hint.value ∙ fits.filled;
          works =
              length-set s.rows (tile_of band hint.to_pixel)
              (record (get_or s.rows (tile_of band hint.to_pixel) idle) { dirty = true }) ∙ fits.works;
        }) fits

  -- ---- all hints

  pub all_handed_put : (hints : List Hint)
      → ((hint : Hint) → Contains hints hint → IsInside band.width band.height hint.to_pixel) → (s : ImageAndWork)
      → FitsIn whole above band around s
      → all_handed whole (map (lowered_hint whole above) hints) (put_in around s)
      ≡ put_in around (all_handed band hints s)
  all_handed_put [] inside s fits = refl
  all_handed_put (hint ∷ rest) inside s fits =
      ap (all_handed whole (map (lowered_hint whole above) rest)) (handed_put s fits hint (inside hint (here hint rest
      hint refl)))
      ∙ all_handed_put rest (λ other there. inside other (later hint rest other there)) (handed band hint s)
      (fits_handed s fits hint)
