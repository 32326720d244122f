-- The values of a strip of a tile are taken over into the rims, and read from them.
use Rattle.std.proofs.Common.{◌≡◌, ℕ, ◌+◌, ◌*◌, ◌<◌, ◌≤◌, List, length, set, slice_range, ap, sym}
use Rattle.std.proofs.Common.{subst, ◌∙◌, arith, refl}
use Rattle.std.specs.Prelude.{⊤}
use Rattle.std.proofs.lemmas.List.{get_or-set_other, get_or-set_same, length-set}
use Rattle.grid_core.specs.{declared.pixel.Pixel.Pixel, declared.rect.Rect.Rect, Bounds.LieIn, Bounds.bounds_of}
use Rattle.grid_core.specs.Raster.{Raster, index_of, value_at}
use Rattle.grid_core.specs.{Rects.IsInRect, Tiles.Tiles, Tiles.IsTiled, Tiles.count_of, Tiles.rect_of}
use Rattle.row_scans.proofs.Replacing.{IsReplaced}
use Rattle.tile_work.proofs.Parts.{get_or_part}
use Rattle.tiled_image.specs.declared.rims.Edge.{Edge}
use Rattle.tiled_image.specs.Rims.{AreRimsOf, IsStripChanged, rim_value, room_of, start_of, strip_of}
use Rattle.tiled_image.specs.Shown.{CanCopy, cell_in, place_in}
use Rattle.tiled_image.proofs.Places.{lies_in_itself}
use Rattle.tiled_image.proofs.Strips.{in_strip_room, one_place, strip_ends, tile_strip_lies, tile_strip_some}
use Rattle.tiled_image.proofs.Strips.{tile_strip_within}

module _ (tiling : Tiles) (tile : ℕ) (tiled : IsTiled tiling) (within : tile < count_of tiling) (edge : Edge) where
  abbrev strip : Rect
  strip = strip_of tiling tile edge

  abbrev start : ℕ
  start = start_of tiling tile edge

  -- ---- taken over

  pub can_take : (source : Raster) (shown : Rect) (cells : List ℕ) → source.width ≡ shown.w → source.height ≡ shown.h
      → LieIn (bounds_of (strip_of tiling tile edge)) shown → length cells ≡ tiling.side
      → CanCopy (strip_of tiling tile edge) source shown (strip_of tiling tile edge) (length cells)
  can_take source shown cells width height lies long =
      let (some_width, some_height) = tile_strip_some tiling tile tiled within edge in
      let room : strip.w * strip.h ≤ tiling.side = tile_strip_within tiling tile tiled within edge in
      record {
        width = width;
        height = height;
        some_width = some_width;
        some_height = some_height;
        lies_from = lies;
        lies_to = lies_in_itself strip;
        room = omega (arith, room, long);
        small = omega (arith, room, tiled.tile_side.at_most);
      }

  pub taken_strip : (value : Pixel → ℕ) (old cells new : List ℕ)
      → IsReplaced (start_of tiling tile edge) cells old new
      → length cells ≡ tiling.side
      → ((p : Pixel) → IsInRect (strip_of tiling tile edge) p
      → cell_in (strip_of tiling tile edge) cells p ≡ value p)
      → IsStripChanged tiling tile edge (λ _. ⊤) value old new
  taken_strip value old cells new replaced long inside = record {
    count = replaced.long;
    here = λ p in_strip holds.
        let k : ℕ = index_of strip.w (place_in strip p) in
        let below : k < length cells =
        subst (λ n. k < n) (sym long) (in_strip_room tiling tile tiled within edge p in_strip) in
        replaced.inside k below ∙ inside p in_strip;
    kept = λ p in_strip spared. absurd (spared tt);
    ahead = replaced.ahead;
    behind = λ i after. replaced.behind i (subst (λ n. start + n ≤ i) (sym long) after);
  }

  -- a strip lies where its tile does
  pub strip_lies_in : (shown : Rect) → LieIn (bounds_of (rect_of tiling tile)) shown
      → LieIn (bounds_of (strip_of tiling tile edge)) shown
  strip_lies_in shown lies =
      let inner = tile_strip_lies tiling tile tiled within edge in (
        omega (arith, inner.0, lies.0),
        omega (arith, inner.1, lies.1),
        omega (arith, inner.2, lies.2),
        omega (arith, inner.3, lies.3),
      )

  -- these are other words for the values
  pub strip_with : (one other : Pixel → ℕ) (old new : List ℕ) → IsStripChanged tiling tile edge (λ _. ⊤) one old new
      → ((p : Pixel) → IsInRect (strip_of tiling tile edge) p → one p ≡ other p)
      → IsStripChanged tiling tile edge (λ _. ⊤) other old new
  strip_with one other old new changed same = record {
    count = changed.count;
    here = λ p in_strip holds. changed.here p in_strip holds ∙ same p in_strip;
    kept = changed.kept;
    ahead = changed.ahead;
    behind = changed.behind;
  }

  -- ---- one pixel

  pub set_strip : (p : Pixel) (value : ℕ) (old : List ℕ) → length old ≡ room_of tiling
      → IsInRect (strip_of tiling tile edge) p
      → IsStripChanged tiling tile edge (λ q. q ≡ p) (λ _. value) old
      (set old (start_of tiling tile edge
      + index_of (strip_of tiling tile edge).w (place_in (strip_of tiling tile edge) p)) value)
  set_strip p value old long inside =
      let k : Pixel → ℕ = λ q. index_of strip.w (place_in strip q) in
      let below : k p < tiling.side = in_strip_room tiling tile tiled within edge p inside in
      let ends : start + tiling.side ≤ room_of tiling = strip_ends tiling tile tiled within edge in
      let new : List ℕ = set old (start + k p) value in
      record {
        count = length-set old (start + k p) value;
        here = λ q in_strip is.
            ap (λ (r : Pixel). rim_value tiling new tile edge r) is
            ∙ get_or-set_same old (start + k p) value 0 (omega (arith, below, ends, long));
        kept = λ q in_strip differ.
            get_or-set_other old (start + k p) (start + k q) value 0 (λ same.
            differ (one_place edge (rect_of tiling tile) p q inside in_strip (omega (arith, same))));
        ahead = λ i before. get_or-set_other old (start + k p) i value 0 (λ same. omega (arith, same, before));
        behind = λ i after. get_or-set_other old (start + k p) i value 0 (λ same. omega (arith, same, after, below));
      }

  pub unset_strip : (p : Pixel) (value : ℕ) (old : List ℕ) → (IsInRect (strip_of tiling tile edge) p → ⊥)
      → IsStripChanged tiling tile edge (λ q. q ≡ p) (λ _. value) old old
  unset_strip p value old outside = record {
    count = refl;
    here = λ q in_strip is. absurd (outside (subst (λ (r : Pixel). IsInRect strip r) is in_strip));
    kept = λ q in_strip differ. refl;
    ahead = λ i before. refl;
    behind = λ i after. refl;
  }

  -- ---- read

  pub strip_cell : (image : Raster) (rims : List ℕ) → AreRimsOf tiling image rims → (p : Pixel)
      → IsInRect (strip_of tiling tile edge) p
      → cell_in (strip_of tiling tile edge)
      (slice_range rims (start_of tiling tile edge) (start_of tiling tile edge + tiling.side)) p
      ≡ value_at image p
  strip_cell image rims are p inside =
      let k : ℕ = index_of strip.w (place_in strip p) in
      let below : k < tiling.side = in_strip_room tiling tile tiled within edge p inside in
      let ends : start + tiling.side ≤ length rims =
      omega (arith, strip_ends tiling tile tiled within edge, are.count) in
      get_or_part rims start (start + tiling.side) (omega arith) ends k 0 (omega (arith, below))
      ∙ are.values tile within edge p inside
