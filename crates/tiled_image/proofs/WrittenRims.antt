-- The rim of a tile is written into an image that shows a rectangle of the whole one.
use Rattle.std.proofs.Common.{◌≡◌, ◌*◌, ◌<◌, ◌≤◌, ℕ, List, Option, Some, None, length, slice_index, ap, sym}
use Rattle.std.proofs.Common.{subst, ◌∙◌, inl, inr, arith, refl}
use Rattle.grid_core.specs.{declared.pixel.Pixel.Pixel, declared.rect.Rect.Rect, Bounds.LieIn, Bounds.bounds_of}
use Rattle.grid_core.specs.Raster.{Raster, IsInside, IsOfSize, IsSized, index_of, max_pixels, value_at}
use Rattle.grid_core.specs.{Rects.IsInRect, Tiles.Tiles, Tiles.IsTiled, Tiles.count_of, Tiles.rect_of, Tiles.tile_of}
use Rattle.tile_generations.specs.Jobs.{all_of}
use Rattle.tiled_image.specs.declared.rims.Edge.{Edge}
use Rattle.tiled_image.specs.declared.rims.Edge.TheVariants as edges
use Rattle.tiled_image.specs.RaisedTiles.{IsEdgeAt, IsInner, IsLaidIn, IsRimWritten, IsStripWritten, edge_at}
use Rattle.tiled_image.specs.Rims.{strip_of}
use Rattle.tiled_image.specs.{SharedCopies.IsTileCopied}
use Rattle.tiled_image.specs.Shown.{CanCopy, IsStripCopied, as_image, cell_in, place_in, value_in}
use Rattle.tiled_image.proofs.KeptImages.{inside_image, still_of_tiling}
use Rattle.tiled_image.proofs.{LaidRims.edge_at_is, RingTiles.in_rect_or_not}
use Rattle.tiled_image.proofs.Places.{in_all, in_wider, lies_in_itself, rect_from_tile, value_in_all}
use Rattle.tiled_image.proofs.Strips.{pixel_of_strip, strip_in_tile, tile_strip_lies, tile_strip_some}
use Rattle.tiled_image.proofs.WrittenParts.{with_cells_of}

-- ---- one strip

-- cells that show the rectangle, by the image's width
value_by_width : (shown : Rect) (image : Raster) (cells : List ℕ) (p : Pixel) → image.width ≡ shown.w
    → value_in shown (with_cells_of image cells) p ≡ cell_in shown cells p
value_by_width shown image cells p width = ap (λ w. slice_index cells (index_of w (place_in shown p))) width

module _ (tiling : Tiles) (tile : ℕ) (tiled : IsTiled tiling) (within : tile < count_of tiling) (edge : Edge)
    (image : Raster) (shown : Rect) (width : image.width ≡ shown.w) (height : image.height ≡ shown.h)
    (lies : LieIn (bounds_of (rect_of tiling tile)) shown) where
  pub can_write_strip : (cells : List ℕ) (count : ℕ) → IsSized image → count ≡ length image.cells
      → CanCopy (strip_of tiling tile edge) (as_image (strip_of tiling tile edge) cells) (strip_of tiling tile edge)
      shown count
  can_write_strip cells count sized count_is =
      let inner = tile_strip_lies tiling tile tiled within edge in
      let (some_width, some_height) = tile_strip_some tiling tile tiled within edge in
      let size : image.width * image.height ≡ shown.w * shown.h = λ i. width i * height i in
      record {
        width = refl;
        height = refl;
        some_width = some_width;
        some_height = some_height;
        lies_from = lies_in_itself (strip_of tiling tile edge);
        lies_to = (
          omega (arith, inner.0, lies.0),
          omega (arith, inner.1, lies.1),
          omega (arith, inner.2, lies.2),
          omega (arith, inner.3, lies.3),
        );
        room = omega (arith, size, count_is, sized.filled);
        small = subst (λ n. n ≤ max_pixels) size sized.size.pixels_within;
      }

  module _ (cells new : List ℕ) (copied : IsStripCopied (strip_of tiling tile edge)
      (cell_in (strip_of tiling tile edge) cells) shown image.cells new) where
    pub strip_written : (whole : Raster)
        → ((p : Pixel) → IsInRect (strip_of tiling tile edge) p
        → cell_in (strip_of tiling tile edge) cells p ≡ value_at whole p)
        → IsStripWritten (strip_of tiling tile edge) whole shown image (with_cells_of image new)
    strip_written whole values = record {
      inside = λ p in_strip.
          value_by_width shown image new p width ∙ copied.inside p in_strip ∙ values p in_strip;
      beyond = λ p there outside.
          value_by_width shown image new p width ∙ copied.beyond p there outside
          ∙ sym (value_by_width shown image image.cells p width);
    }

-- ---- four strips

module _ (tiling : Tiles) (tile : ℕ) (tiled : IsTiled tiling) (within : tile < count_of tiling) (whole : Raster)
    (shown : Rect) (lies : LieIn (bounds_of (rect_of tiling tile)) shown) where
  in_shown : (edge : Edge) (p : Pixel) → IsInRect (strip_of tiling tile edge) p → IsInRect shown p
  in_shown edge p inside =
      in_wider (rect_of tiling tile) shown p lies (strip_in_tile tiling tile tiled within edge p inside)

  -- what agrees with the whole image agrees still
  agrees : (edge : Edge) (old new : Raster) → IsStripWritten (strip_of tiling tile edge) whole shown old new
      → (p : Pixel) → IsInRect shown p → value_in shown old p ≡ value_at whole p
      → value_in shown new p ≡ value_at whole p
  agrees edge old new step p there same = elim (in_rect_or_not (strip_of tiling tile edge) p) [
    | inl inside ↦ step.inside p inside
    | inr outside ↦ step.beyond p there outside ∙ same
  ]

  module _ (start top bottom left end : Raster)
      (top_done : IsStripWritten (strip_of tiling tile edges.Top) whole shown start top)
      (bottom_done : IsStripWritten (strip_of tiling tile edges.Bottom) whole shown top bottom)
      (left_done : IsStripWritten (strip_of tiling tile edges.Left) whole shown bottom left)
      (right_done : IsStripWritten (strip_of tiling tile edges.Right) whole shown left end) where
    on_rim : (edge : Edge) (p : Pixel) → IsInRect (strip_of tiling tile edge) p
        → value_in shown end p ≡ value_at whole p
    on_rim edges.Top p inside =
        let there = in_shown edges.Top p inside in
        agrees edges.Right left end right_done p there
        (agrees edges.Left bottom left left_done p there
        (agrees edges.Bottom top bottom bottom_done p there (top_done.inside p inside)))
    on_rim edges.Bottom p inside =
        let there = in_shown edges.Bottom p inside in
        agrees edges.Right left end right_done p there
        (agrees edges.Left bottom left left_done p there (bottom_done.inside p inside))
    on_rim edges.Left p inside =
        agrees edges.Right left end right_done p (in_shown edges.Left p inside) (left_done.inside p inside)
    on_rim edges.Right p inside = right_done.inside p inside

    pub four_written : IsRimWritten tiling tile whole shown start end
    four_written = record {
      rim = on_rim;
      beyond = λ p there is_inner.
          right_done.beyond p there (is_inner edges.Right) ∙ left_done.beyond p there (is_inner edges.Left)
          ∙ bottom_done.beyond p there (is_inner edges.Bottom) ∙ top_done.beyond p there (is_inner edges.Top);
    }

-- ---- the tile

module _ (tiling : Tiles) (tile : ℕ) (tiled : IsTiled tiling) (within : tile < count_of tiling) (whole : Raster)
    (shown : Rect) (old new : Raster) (written : IsRimWritten tiling tile whole shown old new) where
  by_edge : (p : Pixel) → IsInRect shown p
      → (IsInner (rect_of tiling tile) p → value_in shown old p ≡ value_at whole p) → (at : Option Edge)
      → IsEdgeAt (rect_of tiling tile) p at → value_in shown new p ≡ value_at whole p
  by_edge p there same None is_inner = written.beyond p there is_inner ∙ same is_inner
  by_edge p there same (Some edge) in_strip = written.rim edge p in_strip

  -- a pixel of it has the whole image's value
  pub tile_value : (p : Pixel) → IsInRect shown p → IsInRect (rect_of tiling tile) p
      → (IsInner (rect_of tiling tile) p → value_in shown old p ≡ value_at whole p)
      → value_in shown new p ≡ value_at whole p
  tile_value p there in_rect same =
      by_edge p there same (edge_at (rect_of tiling tile) p) (edge_at_is (rect_of tiling tile) p in_rect)

  -- and one of another tile its old one
  pub other_value : (p : Pixel) → IsInRect shown p → (tile_of tiling p ≡ tile → ⊥)
      → value_in shown new p ≡ value_in shown old p
  other_value p there other =
      written.beyond p there (λ edge in_strip. other (pixel_of_strip tiling tile tiled within edge p in_strip).1)

-- in an image of the whole one's size
module _ (tiling : Tiles) (tile : ℕ) (within : tile < count_of tiling) (whole old new : Raster) (rims : List ℕ)
    (laid : IsLaidIn tile whole tiling old rims) (size : IsOfSize old new)
    (written : IsRimWritten tiling tile whole (all_of old) old new) where
  in_old : (p : Pixel) → IsInside tiling.width tiling.height p → IsInRect (all_of old) p
  in_old p inside = in_all old p (inside_image tiling old laid.below_of_tiling p inside)

  all_new : (p : Pixel) → value_in (all_of old) new p ≡ value_at new p
  all_new p = value_in_all new p

  pub tile_copied : IsTileCopied whole tiling tile old new
  tile_copied = record {
    of_tiling = still_of_tiling tiling old laid.below_of_tiling new size;
    here = λ p inside own.
        sym (all_new p)
        ∙ tile_value tiling tile laid.below_of_tiling.tiled within whole (all_of old) old new written p
        (in_old p inside)
        (rect_from_tile tiling tile laid.below_of_tiling.tiled within p inside own)
        (λ is_inner. value_in_all old p ∙ laid.inner p inside own is_inner);
    others = λ p inside other.
        sym (all_new p)
        ∙ other_value tiling tile laid.below_of_tiling.tiled within whole (all_of old) old new written p
        (in_old p inside) other
        ∙ value_in_all old p;
  }
