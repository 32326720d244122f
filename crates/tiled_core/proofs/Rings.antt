-- The pixels around a tile, as a patch of the image.
use Rattle.std.proofs.Common.{◌≡◌, ℕ, ◌+◌, ◌-◌, ◌*◌, ◌<◌, ◌≤◌, List, ap, arith, min, refl, subst, sym, ◌∙◌}
use Rattle.std.proofs.Common.{if◌then◌else◌, inl, inr}
use Rattle.std.proofs.{lemmas.List.get_or-take, lemmas.Nat.mul-add-lt, lemmas.Nat.mul-le}
use Rattle.std.proofs.lemmas.Bool.Decides.{eqb_tells}
use Rattle.grid_core.specs.{declared.pixel.Pixel.Pixel, declared.rect.Rect.Rect, Rects.IsInRect, Rects.RectFits}
use Rattle.grid_core.specs.Raster.{Raster, IsImageSize, IsInside, IsOnBorder, index_of, value_at}
use Rattle.grid_core.specs.Tiles.{Tiles, IsTiled, count_of, rect_of, tile_of}
use Rattle.border_queues.specs.{Around.IsRimmedRingOf, Around.IsRingOf, Around.around_of, OpenEdges.from_corner}
use Rattle.border_queues.specs.OpenEdges.{with_tile}
use Rattle.tiled_image.specs.{declared.rims.Edge.Edge, Rims.strip_at, Ring.HasRimmedRing, Ring.HasRing}
use Rattle.tiled_image.specs.declared.rims.Edge.TheVariants as edges
use Rattle.tiled_image.specs.Shown.{value_in}
use Rattle.tiled_image.proofs.Places.{in_wider, pixel_in_tile, rect_from_tile}
use Rattle.tiled_image.proofs.Sides.{tile_around}
use Rattle.tiled_core.specs.Patches.{patch_of}

-- ---- sizes

-- a rectangle that fits an image has sides that an image may have
pub rect_is_sized : (width height : ℕ) (rect : Rect) → IsImageSize width height → RectFits width height rect
    → IsImageSize rect.w rect.h
rect_is_sized width height rect size fits =
    let columns : rect.w ≤ width = omega (arith, fits.columns) in
    let rows : rect.h ≤ height = omega (arith, fits.rows) in
    let pixels : rect.w * rect.h ≤ width * height = mul-le rect.w rect.h width height columns rows in
    record {
      some_width = fits.some_width;
      some_height = fits.some_height;
      width_within = omega (arith, columns, size.width_within);
      height_within = omega (arith, rows, size.height_within);
      pixels_within = omega (arith, pixels, size.pixels_within);
    }

low_min : (a b : ℕ) → min a b ≤ a
low_min a b = omega arith

-- some places of at most a side's length are with those beside them at most 2 more
with_both_ends : (first len whole side : ℕ) → len ≤ side → min (first + len + 1) whole - (first - 1) ≤ side + 2
with_both_ends first len whole side low = omega arith

-- there are no more pixels in a tile and around it than in a square whose side is that of tiles and 2 more
pub around_within : (tiles : Tiles) (t : ℕ)
    → (around_of tiles t).w * (around_of tiles t).h ≤ (tiles.side + 2) * (tiles.side + 2)
around_within tiles t =
    let rect = rect_of tiles t in
    mul-le (around_of tiles t).w (around_of tiles t).h (tiles.side + 2) (tiles.side + 2)
    (with_both_ends rect.x rect.w tiles.width tiles.side (low_min tiles.side (tiles.width - rect.x)))
    (with_both_ends rect.y rect.h tiles.height tiles.side (low_min tiles.side (tiles.height - rect.y)))

-- ---- values

-- a pixel of a rectangle stands among the first cells that show it
cell_within : (rect : Rect) (q : Pixel) → IsInRect rect q → index_of rect.w (from_corner rect q) < rect.w * rect.h
cell_within rect q found =
    let column : q.x - rect.x < rect.w = omega (arith, found) in
    let row : q.y - rect.y < rect.h = omega (arith, found) in
    mul-add-lt (q.y - rect.y) rect.w (q.x - rect.x) rect.h row column

-- cells with the pixels around a tile are a ring
cells_are_ring : (tiles : Tiles) (t : ℕ) (image : Raster) (cells : List ℕ) → HasRing tiles t image cells
    → IsRingOf tiles t (value_at image) (patch_of (around_of tiles t) cells)
cells_are_ring tiles t image cells has =
    let around = around_of tiles t in
    record {
      size = record { width = refl; height = refl };
      values = λ q inside found beyond.
          get_or-take (around.w * around.h) cells (index_of around.w (from_corner around q)) 0
          (cell_within around q found) ∙ has q found beyond;
    }

-- and so is a look at them
pub look_is_ring : (tiles : Tiles) (t : ℕ) (image look : Raster) (around : Rect) (shown cells : List ℕ)
    → around ≡ around_of tiles t → shown ≡ cells → look ≡ patch_of around shown → HasRing tiles t image cells
    → IsRingOf tiles t (value_at image) look
look_is_ring tiles t image look around shown cells around_is same look_is has =
    subst (IsRingOf tiles t (value_at image))
    (sym (look_is ∙ ap (λ (r : Rect). patch_of r shown) around_is ∙ ap (patch_of (around_of tiles t)) same))
    (cells_are_ring tiles t image cells has)

-- ---- values on the tile's border, too

-- a pixel of a rectangle's border lies in one of its strips
on_strip : (rect : Rect) (p : Pixel) → IsInRect rect p → IsOnBorder rect.w rect.h (from_corner rect p)
    → (edge : Edge) × IsInRect (strip_at edge rect) p
on_strip rect p found (inl left) = (edges.Left, (found.0, omega (arith, left, found.0), found.2, found.3))
on_strip rect p found (inr (inl right)) =
    (edges.Right, (omega (arith, right, found.0), omega (arith, right, found.0), found.2, found.3))
on_strip rect p found (inr (inr (inl top))) =
    (edges.Top, (found.0, found.1, found.2, omega (arith, top, found.2)))
on_strip rect p found (inr (inr (inr bottom))) =
    (edges.Bottom, (found.0, found.1, omega (arith, bottom, found.2), omega (arith, bottom, found.2)))

module _ (tiles : Tiles) (t : ℕ) (tiled : IsTiled tiles) (within : t < count_of tiles) (image raised : Raster) where
  -- the image, with this one on the tile
  abbrev with_raised : Pixel → ℕ
  with_raised = with_tile tiles t (value_at raised) (value_at image)

  pub on_tile : (p : Pixel) → IsInRect (rect_of tiles t) p → with_raised p ≡ value_in (rect_of tiles t) raised p
  on_tile p found = elim (eqb_tells (tile_of tiles p) t) [
    | inl (passes, same) ↦
        ap (λ b. if b then value_at raised (from_corner (rect_of tiles t) p) else value_at image p) passes
    | inr (fails, other) ↦ absurd (other (pixel_in_tile tiles t tiled within p found).1)
  ]

  pub off_tile : (p : Pixel) → IsInside tiles.width tiles.height p → (IsInRect (rect_of tiles t) p → ⊥)
      → with_raised p ≡ value_at image p
  off_tile p inside outside = elim (eqb_tells (tile_of tiles p) t) [
    | inl (passes, same) ↦ absurd (outside (rect_from_tile tiles t tiled within p inside same))
    | inr (fails, other) ↦
        ap (λ b. if b then value_at raised (from_corner (rect_of tiles t) p) else value_at image p) fails
  ]

  cells_are_rimmed : (cells : List ℕ) → HasRimmedRing tiles t image (value_in (rect_of tiles t) raised) cells
      → IsRimmedRingOf tiles t with_raised (patch_of (around_of tiles t) cells)
  cells_are_rimmed cells has =
      let around = around_of tiles t in
      let ring = cells_are_ring tiles t image cells has.ring in
      record {
        ring = record {
          size = ring.size;
          values = λ q inside found beyond. ring.values q inside found beyond ∙ sym (off_tile q inside beyond);
        };
        border = λ p found border.
            let (edge, there) = on_strip (rect_of tiles t) p found border in
            let near = in_wider (rect_of tiles t) around p (tile_around tiles t tiled within) found in
            get_or-take (around.w * around.h) cells (index_of around.w (from_corner around p)) 0
            (cell_within around p near) ∙ has.border edge p there ∙ sym (on_tile p found);
      }

  -- a look at cells with the pixels around a tile and with its border is a ring with a rim
  pub look_is_rimmed : (look : Raster) (around : Rect) (shown cells : List ℕ) → around ≡ around_of tiles t
      → shown ≡ cells → look ≡ patch_of around shown
      → HasRimmedRing tiles t image (value_in (rect_of tiles t) raised) cells
      → IsRimmedRingOf tiles t (with_tile tiles t (value_at raised) (value_at image)) look
  look_is_rimmed look around shown cells around_is same look_is has =
      subst (IsRimmedRingOf tiles t with_raised)
      (sym (look_is ∙ ap (λ (r : Rect). patch_of r shown) around_is ∙ ap (patch_of (around_of tiles t)) same))
      (cells_are_rimmed cells has)
