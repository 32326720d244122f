-- A tile that is swept within a band, and so in the whole that the band is put into.
use Rattle.std.proofs.Common.{◌≡◌, ℕ, ◌+◌, ◌-◌, ◌*◌, ◌<◌, ◌≤◌, ◌⊎◌, sym, ap, ◌∙◌, subst, arith, refl, List, ◌++◌, map}
use Rattle.std.proofs.Common.{inl, inr}
use Rattle.std.proofs.Common.{length, get_or, set, false}
use Rattle.std.proofs.lemmas.Bool.{cases_lt}
use Rattle.std.proofs.lemmas.Nat.{mul-add-lt, mul-le}
use Rattle.std.proofs.lemmas.List.{get_or-append-add, get_or_append_left, length-append, length-set}
use Rattle.grid_core.specs.{declared.pixel.Pixel.Pixel, declared.rect.Rect.Rect}
use Rattle.grid_core.specs.{Reconstruction.IsReconstruction, Rects.IsInRect, Rects.domain_in, Rects.part}
use Rattle.grid_core.specs.{Rects.in_image}
use Rattle.grid_core.specs.Raster.{Raster, IsInside, IsFilled, value_at, index_of}
use Rattle.grid_core.specs.Tiles.{IsTiled}
use Rattle.grid_core.proofs.Tilings.{tile_pixels, each_pixel_in_one_tile, neighbours_lie_in_touching_tiles}
use Rattle.border_queues.specs.{Laws.EdgesAreOpen, OpenEdges.open_edges, OpenEdges.sender_by}
use Rattle.border_queues.specs.TileWork.{TileWork, idle}
use Rattle.core_rules.specs.{Image.IsOfSize, Sweeps.tile_rect, Sweeps.hints_of, Sweeps.sender_of}
use Rattle.core_rules.specs.Work.{Core, tiling, mask_at, image_at, work_at}
use Rattle.core_rules.proofs.Pieces.{reconstruction_same}
use Rattle.reset_core.specs.Telling.{ImageAndWork, image_and_work, AreTold}
use Rattle.reset_core.specs.Bands.{IsBandIn, IsInner, rows_above, tiles_above, lowered, lowered_rect, lowered_hint}
use Rattle.reset_core.specs.Bands.{Around, put_in, FitsIn}
use Rattle.reset_core.proofs.Bands.Tiles.{raised, lowered-raised, rect_of_lowered}
use Rattle.reset_core.proofs.Bands.Edges.{edges_lowered}
use Rattle.reset_core.proofs.Bands.States.{get_between, set_between, value_put}
use Rattle.reset_core.proofs.Bands.Telling.{told_put}
use Rattle.reset_core.proofs.{Telling.with_image_and_work, TellingOrder.told_by}
use Rattle.reset_core.proofs.TellingSweeps.{IsGrownAt, clean, grown_core}

-- what lies outside the list between does not change with it
pub outside_same : {X : Type 0} (a b other c : List X) (i : ℕ) (d : X) → length b ≡ length other
    → (i < length a) ⊎ (length a + length b ≤ i) → get_or (a ++ (b ++ c)) i d ≡ get_or (a ++ (other ++ c)) i d
outside_same a b other c i d same outside = elim outside [
  | inl before ↦
      get_or_append_left a (b ++ c) d i before ∙ sym (get_or_append_left a (other ++ c) d i before)
  | inr behind ↦
      let n = i - (length a + length b) in
      let place : i ≡ length a + (length b + n) = omega (arith, behind) in
      let other_place : i ≡ length a + (length other + n) = omega (arith, behind, same) in
      ap (λ k. get_or (a ++ (b ++ c)) k d) place ∙ get_or-append-add a (b ++ c) (length b + n) d
      ∙ get_or-append-add b c n d ∙ sym (get_or-append-add other c n d)
      ∙ sym (get_or-append-add a (other ++ c) (length other + n) d)
      ∙ ap (λ k. get_or (a ++ (other ++ c)) k d) (sym other_place)
]

module _ (edges_open : EdgesAreOpen) (whole : Core) (above : ℕ) (band : Core) (around : Around)
    (tiled : IsTiled (tiling whole)) (band_tiled : IsTiled (tiling band)) (is : IsBandIn whole above band around)
    (filled : IsFilled whole.image) (t : ℕ) (inner : IsInner (tiling whole) above (tiling band) t) (image : Raster)
    (grown : IsGrownAt band t image) where
  abbrev rows : ℕ
  rows = rows_above (tiling whole) above

  -- the tile in the whole
  abbrev there : ℕ
  there = tiles_above (tiling whole) above + t

  abbrev rect : Rect
  rect = tile_rect band t

  -- the whole image once the band's is this one
  abbrev pub image_in : Raster
  image_in = (put_in around (record { image = image; rows = band.tiles })).image

  fits_grown : FitsIn (tiling whole) above (tiling band) around (record { image = image; rows = band.tiles })
  fits_grown = record {
    width = is.fits.width;
    height = is.fits.height;
    cells_above = is.fits.cells_above;
    works_above = is.fits.works_above;
    band_width = grown.size.width ∙ is.fits.band_width;
    band_height = grown.size.height ∙ is.fits.band_height;
    filled = grown.size.filled;
    works = is.fits.works;
  }

  same_length : length image.cells ≡ length band.image.cells
  same_length =
      grown.size.filled ∙ (λ i. grown.size.width i * grown.size.height i) ∙ sym is.fits.filled

  size_in : IsOfSize whole.image image_in
  size_in =
      let cells : length whole.image.cells
      ≡ length (around.cells_above ++ (band.image.cells ++ around.cells_below)) =
      ap (λ (s : ImageAndWork). length s.image.cells) is.parts in
      let width : whole.image.width ≡ around.width = ap (λ (s : ImageAndWork). s.image.width) is.parts in
      let height : whole.image.height ≡ around.height = ap (λ (s : ImageAndWork). s.image.height) is.parts in
      let long = length-append around.cells_above (image.cells ++ around.cells_below) in
      let long_end = length-append image.cells around.cells_below in
      let was = length-append around.cells_above (band.image.cells ++ around.cells_below) in
      let was_end = length-append band.image.cells around.cells_below in
      let count : length image_in.cells ≡ length whole.image.cells =
      omega (arith, cells, long, long_end, was, was_end, same_length) in
      record {
        width = sym width;
        height = sym height;
        filled = count ∙ filled ∙ (λ i. width i * height i);
      }

  -- ---- within the tile

  rect_is : tile_rect whole there ≡ lowered_rect rows rect
  rect_is = rect_of_lowered (tiling whole) above (tiling band) tiled band_tiled is.tiles t inner.within

  inside_band : (p : Pixel) → IsInside rect.w rect.h p → IsInside band.mask.width band.mask.height (in_image rect p)
  inside_band p inside =
      ((tile_pixels (tiling band) t (in_image rect p) band_tiled inner.within).1 (p, inside, refl)).0

  place_is : (p : Pixel) → in_image (lowered_rect rows rect) p ≡ lowered rows (in_image rect p)
  place_is p =
      let sum : rows + rect.y + p.y ≡ rows + (rect.y + p.y) = omega arith in
      λ i. record { x = rect.x + p.x; y = sum i }

  image_was : (p : Pixel) → IsInside band.mask.width band.mask.height p
      → image_at whole (lowered rows p) ≡ image_at band p
  image_was p inside =
      ap (λ (s : ImageAndWork). value_at s.image (lowered rows p)) is.parts
      ∙ value_put (tiling whole) above (tiling band) tiled band_tiled is.tiles around (image_and_work band) is.fits p
      inside

  image_is : (p : Pixel) → IsInside band.mask.width band.mask.height p
      → value_at image_in (lowered rows p) ≡ value_at image p
  image_is p inside =
      value_put (tiling whole) above (tiling band) tiled band_tiled is.tiles around
      (record { image = image; rows = band.tiles }) fits_grown p inside

  grown_lowered : IsReconstruction (domain_in (lowered_rect rows rect) band.conn)
      (part (lowered_rect rows rect) (mask_at whole)) (part (lowered_rect rows rect) (image_at whole))
      (part (lowered_rect rows rect) (value_at image_in))
  grown_lowered =
      reconstruction_same (domain_in rect band.conn) (part rect (mask_at band))
      (part (lowered_rect rows rect) (mask_at whole)) (part rect (image_at band))
      (part (lowered_rect rows rect) (image_at whole)) (part rect (value_at image))
      (part (lowered_rect rows rect) (value_at image_in))
      (λ p h. sym (ap (mask_at whole) (place_is p) ∙ is.mask (in_image rect p) (inside_band p h)))
      (λ p h. sym (ap (image_at whole) (place_is p) ∙ image_was (in_image rect p) (inside_band p h)))
      (λ p h. sym (ap (value_at image_in) (place_is p) ∙ image_is (in_image rect p) (inside_band p h))) grown.grown

  -- ---- beyond the tile

  beyond_lowered : (p : Pixel) → IsInside whole.image.width whole.image.height p
      → (IsInRect (lowered_rect rows rect) p → ⊥) → value_at image_in p ≡ image_at whole p
  beyond_lowered p inside out =
      let width : whole.image.width ≡ around.width = ap (λ (s : ImageAndWork). s.image.width) is.parts in
      let as_put : image_at whole p ≡ value_at (put_in around (image_and_work band)).image p =
      ap (λ (s : ImageAndWork). value_at s.image p) is.parts in
      let column : p.x < around.width = omega (arith, inside.0, width) in
      let from : length around.cells_above ≡ rows * around.width =
      is.fits.cells_above ∙ ap (λ w. rows * w) (sym is.fits.width) in
      let count : length image.cells ≡ (tiling band).height * around.width = counted in
      let outside : (index_of around.width p < length around.cells_above)
      ⊎ (length around.cells_above + length image.cells ≤ index_of around.width p)
      → value_at image_in p ≡ image_at whole p = λ where_out.
      outside_same around.cells_above image.cells band.image.cells around.cells_below (index_of around.width p) 0
      same_length where_out ∙ sym as_put in
      elim (cases_lt p.y rows) [
        | inl over ↦ outside (inl (omega (arith, from, mul-add-lt p.y around.width p.x rows over column)))
        | inr at_least ↦ elim (cases_lt p.y (rows + (tiling band).height)) [
          | inl within ↦ in_rows p inside out at_least within
          | inr under ↦
              let long : (rows + (tiling band).height) * around.width ≤ p.y * around.width =
              mul-le (rows + (tiling band).height) around.width p.y around.width under (omega arith) in
              outside (inr (omega (arith, from, count, long)))
        ]
      ] where
        counted : length image.cells ≡ (tiling band).height * around.width
        counted =
            let w : image.width ≡ around.width =
            grown.size.width ∙ is.fits.band_width ∙ is.tiles.width ∙ sym is.fits.width in
            let h : image.height ≡ (tiling band).height = grown.size.height ∙ is.fits.band_height in
            let turned : around.width * (tiling band).height ≡ (tiling band).height * around.width = omega arith in
            grown.size.filled ∙ (λ i. w i * h i) ∙ turned

        in_rows : (p : Pixel) → IsInside whole.image.width whole.image.height p
            → (IsInRect (lowered_rect rows rect) p → ⊥) → rows ≤ p.y → p.y < rows + (tiling band).height
            → value_at image_in p ≡ image_at whole p
        in_rows p inside out at_least within =
            let q = raised rows p in
            let back : lowered rows q ≡ p = lowered-raised rows p at_least in
            let width : whole.image.width ≡ around.width = ap (λ (s : ImageAndWork). s.image.width) is.parts in
            let w : around.width ≡ band.mask.width = is.fits.width ∙ sym is.tiles.width in
            let inside_q : IsInside band.mask.width band.mask.height q =
            (omega (arith, inside.0, width, w), omega (arith, at_least, within)) in
            let inside_image : IsInside band.image.width band.image.height q =
            (omega (arith, inside_q.0, is.fits.band_width), omega (arith, inside_q.1, is.fits.band_height)) in
            let out_q : IsInRect rect q → ⊥ = λ found.
            out (found.0, found.1, omega (arith, found.2, at_least), omega (arith, found.3, at_least)) in
            ap (value_at image_in) (sym back) ∙ image_is q inside_q ∙ grown.beyond q inside_image out_q
            ∙ sym (image_was q inside_q) ∙ ap (image_at whole) back

  -- the tile has grown in the whole
  pub grown_in : IsGrownAt whole there image_in
  grown_in = record {
    size = size_in;
    grown =
        subst (λ conn. IsReconstruction (domain_in (tile_rect whole there) conn)
        (part (tile_rect whole there) (mask_at whole)) (part (tile_rect whole there) (image_at whole))
        (part (tile_rect whole there) (value_at image_in))) is.conn
        (subst (λ r. IsReconstruction (domain_in r band.conn) (part r (mask_at whole)) (part r (image_at whole))
        (part r (value_at image_in))) (sym rect_is) grown_lowered);
    beyond =
        subst (λ r. (p : Pixel) → IsInside whole.image.width whole.image.height p → (IsInRect r p → ⊥)
        → value_at image_in p ≡ image_at whole p) (sym rect_is) beyond_lowered;
  }

  -- ---- the core once the tile is swept

  within_tiles : t < length band.tiles
  within_tiles = omega (arith, inner.within, is.fits.works)

  pub work_is : work_at whole there ≡ work_at band t
  work_is =
      ap (λ (s : ImageAndWork). get_or s.rows there idle) is.parts
      ∙ ap (λ n. get_or (put_in around (image_and_work band)).rows (n + t) idle) (sym is.fits.works_above)
      ∙ get_between around.works_above band.tiles around.works_below t idle within_tiles

  tiles_are : set whole.tiles there (clean whole there)
      ≡ around.works_above ++ (set band.tiles t (clean band t) ++ around.works_below)
  tiles_are =
      ap (λ (w : TileWork). set whole.tiles there (record w { dirty = false })) work_is
      ∙ ap (λ (s : ImageAndWork). set s.rows there (clean band t)) is.parts
      ∙ ap (λ n. set (put_in around (image_and_work band)).rows (n + t) (clean band t)) (sym is.fits.works_above)
      ∙ set_between around.works_above band.tiles around.works_below t (clean band t) within_tiles

  pub middle_is : image_and_work (grown_core whole there image_in)
      ≡ put_in around (image_and_work (grown_core band t image))
  middle_is = λ i. record { image = image_in; rows = tiles_are i }

  pub fits_middle : FitsIn (tiling whole) above (tiling band) around (image_and_work (grown_core band t image))
  fits_middle = record {
    width = fits_grown.width;
    height = fits_grown.height;
    cells_above = fits_grown.cells_above;
    works_above = fits_grown.works_above;
    band_width = fits_grown.band_width;
    band_height = fits_grown.band_height;
    filled = fits_grown.filled;
    works = length-set band.tiles t (clean band t) ∙ is.fits.works;
  }

  pub hints_are : hints_of whole (grown_core whole there image_in) there
      ≡ map (lowered_hint (tiling whole) above) (hints_of band (grown_core band t image) t)
  hints_are =
      edges_lowered edges_open (tiling whole) above (tiling band) tiled band_tiled is.tiles t inner whole.conn
      (mask_at whole) (value_at image_in) (mask_at band) (value_at image) (work_at whole there).generation is.mask
      image_is
      ∙ (λ i. map (lowered_hint (tiling whole) above) (open_edges (sender_by (tiling band) (sym is.conn i) (mask_at
      band)
      (value_at image) t (ap (λ (w : TileWork). w.generation) work_is i))))

  module _ (s : ImageAndWork) (told : AreTold (tiling band) (hints_of band (grown_core band t image) t)
      (image_and_work (grown_core band t image)) s) where
    pub told_in : AreTold (tiling whole) (hints_of whole (grown_core whole there image_in) there)
        (image_and_work (grown_core whole there image_in)) (put_in around s)
    told_in =
        rw (hints_are, middle_is) (told_put (tiling whole) above (tiling band) tiled band_tiled is.tiles
        (hints_of band (grown_core band t image) t) (λ hint found.
        (told_by edges_open neighbours_lie_in_touching_tiles each_pixel_in_one_tile
        (record (sender_of band t) { image = value_at image }) band_tiled inner.within hint found).inside) around
        (image_and_work (grown_core band t image)) s fits_middle told)

    pub fits_after : FitsIn (tiling whole) above (tiling band) around s
    fits_after = record {
      width = fits_middle.width;
      height = fits_middle.height;
      cells_above = fits_middle.cells_above;
      works_above = fits_middle.works_above;
      band_width = told.over.width ∙ fits_middle.band_width;
      band_height = told.over.height ∙ fits_middle.band_height;
      filled =
          told.over.cells ∙ fits_middle.filled ∙ (λ i. sym told.over.width i * sym told.over.height i);
      works = told.over.count ∙ fits_middle.works;
    }

    -- the band afterwards is what stands in the whole then
    pub band_still : IsBandIn (with_image_and_work (grown_core whole there image_in) (put_in around s)) above
        (with_image_and_work (grown_core band t image) s) around
    band_still = record {
      tiles = is.tiles;
      conn = is.conn;
      mask = is.mask;
      parts = refl;
      fits = fits_after;
    }
