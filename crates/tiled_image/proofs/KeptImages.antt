-- Which image is kept as rows and parts.
use Rattle.std.proofs.Common.{◌≡◌, ◌≢◌, ℕ, ◌+◌, ◌<◌, ◌≤◌, Bool, false, List, Option, Some, None, length, ap, sym}
use Rattle.std.proofs.Common.{subst, ◌∙◌, arith, inl, inr, refl, if◌then◌else◌, replicate, slice_index_or}
use Rattle.std.proofs.lemmas.Bool.{both_ways, cases_Bool, cases_lt}
use Rattle.std.proofs.lemmas.List.{get_or_past, length-replicate}
use Rattle.grid_core.specs.{declared.pixel.Pixel.Pixel, declared.rect.Rect.Rect, Rects.IsInRect, Rects.RectFits}
use Rattle.grid_core.specs.Raster.{Raster, IsImageSize, IsInside, IsOfSize, value_at}
use Rattle.grid_core.specs.Tiles.{Tiles, count_of, rect_of, tile_of}
use Rattle.grid_core.proofs.{Cells.equal_images, Tilings.tiles_lie_inside}
use Rattle.reset_core.specs.Parts.{IsPieceFor}
use Rattle.reset_core.proofs.Storing.{none_cut}
use Rattle.tile_generations.specs.{CutMasks.AreTileMasks, Jobs.all_of}
use Rattle.tile_work.specs.TileSet.{Has}
use Rattle.tile_work.proofs.TileSets.{is_there, replicate_has_none}
use Rattle.tiled_image.specs.Shown.{Shows, place_in, value_in}
use Rattle.tiled_image.specs.TiledImage.{TiledRaster, IsOfTiling, IsKept, IsKeptAs, image_of, kept_value, part_value}
use Rattle.tiled_image.specs.TiledImage.{tiled_raster}
use Rattle.tiled_image.proofs.Places.{lies_in_all, lies_in_itself, pixel_in_tile, place_inside, rect_from_tile}
use Rattle.tiled_image.proofs.Places.{tile_within, value_in_all, value_in_part}
use Rattle.tiled_image.proofs.Rasters.{is_raster_of}

-- ---- parts that are there, or are not

pub some_part : (slot : Option Raster) → slot ≢ None → (m : Raster) × (slot ≡ Some m)
some_part None some = absurd (some refl)
some_part (Some m) some = (m, refl)

pub none_is_no_part : (m : Raster) → None ≡ Some m → ⊥
none_is_no_part m same = cc

pub same_part : (m n : Raster) → Some m ≡ Some n → m ≡ n
same_part m n same = cc

-- a tile that has a part has a place in the list
pub part_within : (parts : List (Option Raster)) (t : ℕ) (m : Raster) → slice_index_or parts t None ≡ Some m
    → t < length parts
part_within parts t m there = elim (cases_lt t (length parts)) [
  | inl within ↦ within
  | inr past ↦ absurd (none_is_no_part m (sym (get_or_past parts t None past) ∙ there))
]

-- ---- images of a tiling's size

module _ (tiling : Tiles) (image : Raster) (of_tiling : IsOfTiling tiling image) where
  pub inside_image : (p : Pixel) → IsInside tiling.width tiling.height p → IsInside image.width image.height p
  inside_image p inside = (omega (arith, inside.0, of_tiling.width), omega (arith, inside.1, of_tiling.height))

  pub inside_tiling : (p : Pixel) → IsInside image.width image.height p → IsInside tiling.width tiling.height p
  inside_tiling p inside = (omega (arith, inside.0, of_tiling.width), omega (arith, inside.1, of_tiling.height))

  -- the rectangle of a tile fits the image
  pub tile_fits : (t : ℕ) → t < count_of tiling → RectFits image.width image.height (rect_of tiling t)
  tile_fits t within =
      let fits = tiles_lie_inside tiling t of_tiling.tiled within in
      record {
        some_width = fits.some_width;
        some_height = fits.some_height;
        columns = subst (λ w. (rect_of tiling t).x + (rect_of tiling t).w ≤ w) (sym of_tiling.width) fits.columns;
        rows = subst (λ h. (rect_of tiling t).y + (rect_of tiling t).h ≤ h) (sym of_tiling.height) fits.rows;
      }

  -- so is one of the same size
  pub still_of_tiling : (new : Raster) → IsOfSize image new → IsOfTiling tiling new
  still_of_tiling new size = record {
    tiled = of_tiling.tiled;
    width = size.width ∙ of_tiling.width;
    height = size.height ∙ of_tiling.height;
    sized = record {
      size =
          subst (λ w. IsImageSize w new.height) (sym size.width)
          (subst (λ h. IsImageSize image.width h) (sym size.height) of_tiling.sized.size);
      filled = size.filled;
    };
  }

-- ---- the image that is kept

module _ {whole : Raster} {tiling : Tiles} {rows : Raster} {parts : List (Option Raster)} {newer : List Bool}
    (kept : IsKeptAs whole tiling rows parts newer) where
  -- a part has the image's values
  pub part_has : (t : ℕ) (m : Raster) → slice_index_or parts t None ≡ Some m → (p : Pixel)
      → IsInRect (rect_of tiling t) p → value_in (rect_of tiling t) m p ≡ value_at whole p
  part_has t m there p inside = value_in_part (rect_of tiling t) whole m (kept.are_cut.cut t m there) p inside

  -- so has what is read at a pixel
  pub kept_values : (p : Pixel) → IsInside tiling.width tiling.height p
      → kept_value tiling rows parts newer p ≡ value_at whole p
  kept_values p inside =
      let t = tile_of tiling p in
      let rect = rect_of tiling t in
      let tiled = kept.of_tiling.tiled in
      elim (cases_Bool (slice_index_or newer t false)) [
        | inl on ↦
            let (m, there) = some_part (slice_index_or parts t None) (kept.has_part t (is_there newer t on)) in
            ap (λ b. if b then part_value rect (slice_index_or parts t None) p else value_at rows p) on
            ∙ ap (λ slot. part_value rect slot p) there
            ∙ part_has t m there p (rect_from_tile tiling t tiled (tile_within tiling p tiled inside) p inside refl)
        | inr off ↦
            ap (λ b. if b then part_value rect (slice_index_or parts t None) p else value_at rows p) off
            ∙ kept.current p inside (λ has. both_ways (slice_index_or newer t false) off has.1)
      ]

  pub image_is : image_of tiling rows parts newer ≡ whole
  image_is =
      is_raster_of rows.width rows.height (kept_value tiling rows parts newer) whole kept.of_tiling.sized.filled
      (kept.of_tiling.width ∙ sym kept.rows_of_tiling.width) (kept.of_tiling.height ∙ sym kept.rows_of_tiling.height)
      (λ p inside. kept_values p (inside_tiling tiling rows kept.rows_of_tiling p inside))

  pub is_kept : IsKept tiling rows parts newer
  is_kept = subst (λ (r : Raster). IsKeptAs r tiling rows parts newer) (sym image_is) kept

  -- rows that have the image's values are the image
  pub rows_are : ((p : Pixel) → IsInside tiling.width tiling.height p → value_at rows p ≡ value_at whole p)
      → rows ≡ whole
  rows_are same =
      equal_images rows whole kept.rows_of_tiling.sized.filled kept.of_tiling.sized.filled
      (kept.rows_of_tiling.width ∙ sym kept.of_tiling.width) (kept.rows_of_tiling.height ∙ sym kept.of_tiling.height)
      (λ p inside. same p (inside_tiling tiling rows kept.rows_of_tiling p inside))

  -- ---- a tile of it

  module _ (t : ℕ) (within : t < count_of tiling) where
    pub slot_within : t < length parts
    slot_within = subst (λ n. t < n) (sym kept.are_cut.count) within

    pub bit_within : t < length newer
    bit_within = subst (λ n. t < n) (sym kept.count) within

    -- its part can be written into the rows
    pub piece_for_rows : (m : Raster) → slice_index_or parts t None ≡ Some m → IsPieceFor (rect_of tiling t) rows m
    piece_for_rows m there = record {
      fits = tile_fits tiling rows kept.rows_of_tiling t within;
      width = (kept.are_cut.cut t m there).width;
      height = (kept.are_cut.cut t m there).height;
    }

    pub part_shows : (m : Raster) → slice_index_or parts t None ≡ Some m
        → Shows (rect_of tiling t) whole m (rect_of tiling t)
    part_shows m there = record {
      width = (kept.are_cut.cut t m there).width;
      height = (kept.are_cut.cut t m there).height;
      lies = lies_in_itself (rect_of tiling t);
      values = part_has t m there;
    }

    -- it has the place of each pixel of the tile's rectangle, and the image's value there
    pub part_at : (m : Raster) → slice_index_or parts t None ≡ Some m → (rect : Rect) → rect ≡ rect_of tiling t
        → (p : Pixel) → IsInRect rect p
        → IsInside m.width m.height (place_in rect p) × (value_in rect m p ≡ value_at whole p)
    part_at m there rect is p inside =
        let own = rect_of tiling t in
        let in_own = subst (λ (r : Rect). IsInRect r p) is inside in
        let place = place_inside own p in_own in
        let cut = kept.are_cut.cut t m there in
        subst (λ (r : Rect). IsInside m.width m.height (place_in r p) × (value_in r m p ≡ value_at whole p)) (sym is) (
          (
            subst (λ w. (place_in own p).x < w) (sym cut.width) place.0,
            subst (λ h. (place_in own p).y < h) (sym cut.height) place.1,
          ),
          part_has t m there p in_own,
        )

    -- where it has none, the rows have each pixel of the tile's rectangle, and the image's value there
    pub rows_at : slice_index_or parts t None ≡ None → (p : Pixel) → IsInRect (rect_of tiling t) p
        → IsInside rows.width rows.height p × (value_at rows p ≡ value_at whole p)
    rows_at none p inside =
        let (there, same) = pixel_in_tile tiling t kept.of_tiling.tiled within p inside in (
          inside_image tiling rows kept.rows_of_tiling p there,
          kept.current p there (λ has. kept.has_part t (subst (λ n. Has newer n) same has) none),
        )

    pub rows_show : slice_index_or parts t None ≡ None → Shows (rect_of tiling t) whole rows (all_of rows)
    rows_show none = record {
      width = refl;
      height = refl;
      lies = lies_in_all rows (rect_of tiling t) (tile_fits tiling rows kept.rows_of_tiling t within);
      values = λ p inside. value_in_all rows p ∙ (rows_at none p inside).1;
    }

-- ---- rows alone

-- rows over which no tile has a part
pub rows_kept : (tiling : Tiles) (rows : Raster) (parts : List (Option Raster)) (newer : List Bool) (count : ℕ)
    → IsOfTiling tiling rows → count ≡ count_of tiling → parts ≡ replicate count None → newer ≡ replicate count false
    → IsKeptAs rows tiling rows parts newer
rows_kept tiling rows parts newer count of_tiling count_is parts_are newer_are =
    let none : parts ≡ replicate (count_of tiling) None = parts_are ∙ ap (λ n. replicate n None) count_is in
    record {
      of_tiling = of_tiling;
      rows_of_tiling = of_tiling;
      are_cut =
          subst (λ (ps : List (Option Raster)). AreTileMasks rows tiling ps) (sym none)
          (none_cut rows tiling of_tiling.width of_tiling.height);
      count = ap length newer_are ∙ length-replicate count false ∙ count_is;
      has_part = λ t has empty. replicate_has_none count t (subst (λ (bits : List Bool). Has bits t) newer_are has);
      current = λ p inside older. refl;
    }

-- ---- the tiled image that contracts see

-- a tile of it is one of its tiling
pub tile_before : (tiling : Tiles) (image : Raster) (now : TiledRaster) (t : ℕ) → tiled_raster tiling image ≡ now
    → t < count_of now.tiling → t < count_of tiling
tile_before tiling image now t same within = subst (λ (r : TiledRaster). t < count_of r.tiling) (sym same) within

-- its rectangle is one of that tiling too
pub rect_before : (tiling : Tiles) (image : Raster) (now : TiledRaster) (t : ℕ) (rect : Rect)
    → tiled_raster tiling image ≡ now → rect ≡ rect_of now.tiling t → rect ≡ rect_of tiling t
rect_before tiling image now t rect same is = is ∙ sym (ap (λ (r : TiledRaster). rect_of r.tiling t) same)

-- a pixel of it lies in the rectangle of its tile
pub in_its_tile : (now : TiledRaster) (tiling : Tiles) (t : ℕ) (p : Pixel) → IsOfTiling now.tiling now.image
    → tiling ≡ now.tiling → IsInside now.image.width now.image.height p → t ≡ tile_of tiling p
    → (t < count_of now.tiling) × IsInRect (rect_of now.tiling t) p
in_its_tile now tiling t p of_tiling same inside is =
    let own : t ≡ tile_of now.tiling p = is ∙ ap (λ (tiles : Tiles). tile_of tiles p) same in
    let in_tiling = inside_tiling now.tiling now.image of_tiling p inside in
    let within : t < count_of now.tiling =
    subst (λ n. n < count_of now.tiling) (sym own) (tile_within now.tiling p of_tiling.tiled in_tiling) in
    (within, rect_from_tile now.tiling t of_tiling.tiled within p in_tiling (sym own))
