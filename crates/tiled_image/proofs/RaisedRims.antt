-- The rim of a tile is raised to a copy of another one, strip by strip.
use Rattle.std.proofs.Common.{◌≡◌, ℕ, ◌+◌, ◌*◌, ◌<◌, ◌≤◌, List, length, get_or, max, slice_range, ap, sym, ◌∙◌, arith}
use Rattle.std.proofs.Common.{refl}
use Rattle.std.specs.Prelude.{⊤}
use Rattle.grid_core.specs.{declared.pixel.Pixel.Pixel, declared.rect.Rect.Rect, Raster.Raster, Raster.index_of}
use Rattle.grid_core.specs.{Rects.IsInRect, Tiles.Tiles, Tiles.IsTiled, Tiles.count_of, Tiles.rect_of}
use Rattle.row_scans.proofs.Replacing.{IsReplaced}
use Rattle.tile_generations.specs.Rims.{Rim}
use Rattle.tile_work.proofs.Parts.{get_or_part}
use Rattle.tiled_image.specs.declared.rims.Edge.{Edge}
use Rattle.tiled_image.specs.declared.rims.Edge.TheVariants as edges
use Rattle.tiled_image.specs.Raising.{greater_of, raised_value}
use Rattle.tiled_image.specs.Rims.{IsRimChanged, IsRimOf, IsStripChanged, rank_of, rim_value, room_of}
use Rattle.tiled_image.specs.Rims.{start_of, strip_of}
use Rattle.tiled_image.specs.{Shown.place_in, Sides.HasValues, Sides.side_of}
use Rattle.tiled_image.proofs.{StripCopies.strip_with, TileRims.beside, TileRims.four_changed}
use Rattle.tiled_image.proofs.Strips.{cell_within, strip_ends, tile_strip_within}

-- ---- one strip

module _ (tiling : Tiles) (tile : ℕ) (tiled : IsTiled tiling) (within : tile < count_of tiling) (edge : Edge) where
  -- as many values as the strip has pixels have room there
  pub side_ends : (side : List ℕ) → length side ≡ (strip_of tiling tile edge).w * (strip_of tiling tile edge).h
      → start_of tiling tile edge + length side ≤ room_of tiling
  side_ends side long =
      omega (
        arith,
        long,
        tile_strip_within tiling tile tiled within edge,
        strip_ends tiling tile tiled within edge,
      )

  -- the strip stands from a place on, and its values are raised to those given
  pub raised_strip : (at : ℕ) (given side old row new : List ℕ) → at ≡ start_of tiling tile edge → given ≡ side
      → length side ≡ (strip_of tiling tile edge).w * (strip_of tiling tile edge).h
      → length old ≡ room_of tiling → length row ≡ length given → IsReplaced at row old new
      → ((k : ℕ) → k < length row
      → get_or row k 0 ≡ max (get_or (slice_range old at (at + length given)) k 0) (get_or given k 0))
      → IsStripChanged tiling tile edge (λ _. ⊤) (raised_value tiling old tile edge side) old new
  raised_strip at given side old row new at_is given_is long full same replaced raised =
      let strip : Rect = strip_of tiling tile edge in
      let given_long : length given ≡ strip.w * strip.h = ap length given_is ∙ long in
      let ends : at + length given ≤ length old =
      omega (arith, at_is, given_long, long, side_ends side long, full) in
      record {
        count = replaced.long;
        here = λ p in_strip holds.
            let k : ℕ = index_of strip.w (place_in strip p) in
            let below : k < strip.w * strip.h = cell_within strip (strip.w * strip.h) p (omega arith) in_strip in
            let in_row : k < length row = omega (arith, below, given_long, same) in
            ap (λ n. get_or new (n + k) 0) (sym at_is) ∙ replaced.inside k in_row ∙ raised k in_row
            ∙ ap (λ n. max n (get_or given k 0)) (get_or_part old at (at + length given) (omega arith) ends k 0
            (omega (arith, below, given_long)))
            ∙ (λ i. max (get_or old (at_is i + k) 0) (get_or (given_is i) k 0));
        kept = λ p in_strip spared. absurd (spared tt);
        ahead = λ i before. replaced.ahead i (omega (arith, before, at_is));
        behind = λ i after.
            replaced.behind i (omega (
              arith,
              after,
              at_is,
              same,
              given_long,
              tile_strip_within tiling tile tiled within edge,
            ));
      }

-- ---- four strips

module _ (tiling : Tiles) (tiled : IsTiled tiling) (tile : ℕ) (within : tile < count_of tiling) (image : Raster)
    (value : Pixel → ℕ) (rim : Rim) (has : HasValues (rect_of tiling tile) value rim) (start : List ℕ)
    (is_rim : IsRimOf tiling image start tile) where
  -- a strip that is raised from what it was at first
  as_greater : (edge : Edge) (old new : List ℕ)
      → ((p : Pixel) → IsInRect (strip_of tiling tile edge) p
      → rim_value tiling old tile edge p ≡ rim_value tiling start tile edge p)
      → IsStripChanged tiling tile edge (λ _. ⊤) (raised_value tiling old tile edge (side_of edge rim)) old new
      → IsStripChanged tiling tile edge (λ _. ⊤) (greater_of image value) old new
  as_greater edge old new same raised =
      strip_with tiling tile tiled within edge (raised_value tiling old tile edge (side_of edge rim))
      (greater_of image value) old new raised
      (λ p inside. λ i. max ((same p inside ∙ is_rim edge p inside) i) (has edge p inside i))

  -- another strip is as it was
  untouched : (edge : Edge) (old new : List ℕ)
      → IsStripChanged tiling tile edge (λ _. ⊤) (greater_of image value) old new → (e : Edge)
      → (rank_of e ≡ rank_of edge → ⊥) → (p : Pixel) → IsInRect (strip_of tiling tile e) p
      → rim_value tiling new tile e p ≡ rim_value tiling old tile e p
  untouched = beside tiling tiled tile within (λ _. ⊤) (greater_of image value)

  module _ (top bottom left end : List ℕ)
      (top_done : IsStripChanged tiling tile edges.Top (λ _. ⊤)
      (raised_value tiling start tile edges.Top (side_of edges.Top rim)) start top)
      (bottom_done : IsStripChanged tiling tile edges.Bottom (λ _. ⊤)
      (raised_value tiling top tile edges.Bottom (side_of edges.Bottom rim)) top bottom)
      (left_done : IsStripChanged tiling tile edges.Left (λ _. ⊤)
      (raised_value tiling bottom tile edges.Left (side_of edges.Left rim)) bottom left)
      (right_done : IsStripChanged tiling tile edges.Right (λ _. ⊤)
      (raised_value tiling left tile edges.Right (side_of edges.Right rim)) left end) where
    top_raised : IsStripChanged tiling tile edges.Top (λ _. ⊤) (greater_of image value) start top
    top_raised = as_greater edges.Top start top (λ p inside. refl) top_done

    bottom_raised : IsStripChanged tiling tile edges.Bottom (λ _. ⊤) (greater_of image value) top bottom
    bottom_raised =
        as_greater edges.Bottom top bottom
        (untouched edges.Top start top top_raised edges.Bottom (λ same. omega (arith, same))) bottom_done

    left_raised : IsStripChanged tiling tile edges.Left (λ _. ⊤) (greater_of image value) bottom left
    left_raised =
        as_greater edges.Left bottom left
        (λ p inside.
        untouched edges.Bottom top bottom bottom_raised edges.Left (λ same. omega (arith, same)) p inside
        ∙ untouched edges.Top start top top_raised edges.Left (λ same. omega (arith, same)) p inside) left_done

    right_raised : IsStripChanged tiling tile edges.Right (λ _. ⊤) (greater_of image value) left end
    right_raised =
        as_greater edges.Right left end
        (λ p inside.
        untouched edges.Left bottom left left_raised edges.Right (λ same. omega (arith, same)) p inside
        ∙ untouched edges.Bottom top bottom bottom_raised edges.Right (λ same. omega (arith, same)) p inside
        ∙ untouched edges.Top start top top_raised edges.Right (λ same. omega (arith, same)) p inside) right_done

    pub four_raised : IsRimChanged tiling tile (λ _. ⊤) (greater_of image value) start end
    four_raised =
        four_changed tiling tiled tile within (λ _. ⊤) (greater_of image value) start top bottom left end top_raised
        bottom_raised left_raised right_raised
