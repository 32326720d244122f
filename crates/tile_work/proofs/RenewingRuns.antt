-- Tiles that stand side by side, and what is copied into them.
use Rattle.std.proofs.Common.{◌≡◌, ℕ, ◌+◌, ◌<◌, Bool, List, arith, refl, sym, subst, ◌∙◌, inl, inr, ◌⊎◌, ◌↔◌}
use Rattle.std.proofs.lemmas.Bool.{cases_lt}
use Rattle.grid_core.specs.{declared.pixel.Pixel.Pixel, declared.rect.Rect.Rect, Raster.Raster, Raster.IsInside}
use Rattle.grid_core.specs.{Raster.IsOfSize, Rects.IsInRect, Rects.RectFits, TileLaws.EachPixelInOneTile}
use Rattle.grid_core.specs.Tiles.{Tiles, IsTiled, count_of, rect_of, tile_of}
use Rattle.tile_work.specs.TileSet.{Has, IsFirstFrom}
use Rattle.tile_work.specs.Renewing.{AreCopiedIn, IsCopiedIn, IsRun}
use Rattle.tile_work.proofs.{RenewingResets.IsMarkedBefore, RenewingSpans.sizes_join}

-- one tile
pub run_of_one : (tiling : Tiles) (set : List Bool) (tile : ℕ) (rect : Rect) → EachPixelInOneTile → IsTiled tiling
    → tile < count_of tiling → Has set tile → rect ≡ rect_of tiling tile → RectFits tiling.width tiling.height rect
    → IsRun tiling set tile rect (tile + 1)
run_of_one tiling set tile rect in_one tiled is_tile has is_rect fits = record {
  order = omega arith;
  within = omega (arith, is_tile);
  has = λ t from below. subst (Has set) (omega (arith, from, below)) has;
  fits = fits;
  pixels = λ p inside.
      let one : IsInRect rect p ↔ (tile_of tiling p ≡ tile) =
      subst (λ (r : Rect). IsInRect r p ↔ (tile_of tiling p ≡ tile)) (sym is_rect)
      ((in_one tiling p tiled inside).1 tile is_tile) in (
        λ found. let same = one.0 found in (omega (arith, same), omega (arith, same)),
        λ between. one.1 (omega (arith, between.0, between.1)),
      );
}

-- one tile more, whose rectangle begins where the others end, in the same rows
module _ (tiling : Tiles) (set : List Bool) (first end : ℕ) (rect next : Rect) (in_one : EachPixelInOneTile)
    (tiled : IsTiled tiling) (run : IsRun tiling set first rect end) (is_tile : end < count_of tiling)
    (has : Has set end) (is_next : next ≡ rect_of tiling end) (fits : RectFits tiling.width tiling.height next)
    (x : next.x ≡ rect.x + rect.w) (y : next.y ≡ rect.y) (h : next.h ≡ rect.h) where
  abbrev joined : Rect
  joined = record rect { w = rect.w + next.w }

  in_next : (p : Pixel) → IsInside tiling.width tiling.height p → IsInRect next p ↔ (tile_of tiling p ≡ end)
  in_next p inside =
      subst (λ (r : Rect). IsInRect r p ↔ (tile_of tiling p ≡ end)) (sym is_next)
      ((in_one tiling p tiled inside).1 end is_tile)

  either : (p : Pixel) → IsInRect joined p → IsInRect rect p ⊎ IsInRect next p
  either p found = elim (cases_lt p.x (rect.x + rect.w)) [
    | inl left ↦ inl (found.0, left, found.2, found.3)
    | inr right ↦ inr (
      omega (arith, right, x),
      omega (arith, found.1, x),
      omega (arith, found.2, y),
      omega (arith, found.3, y, h),
    )
  ]

  pub run_more : IsRun tiling set first joined (end + 1)
  run_more = record {
    order = omega (arith, run.order);
    within = omega (arith, is_tile);
    has = λ t from below. elim (cases_lt t end) [
      | inl earlier ↦ run.has t from earlier
      | inr later ↦ subst (Has set) (omega (arith, below, later)) has
    ];
    fits = record {
      some_width = omega (arith, run.fits.some_width);
      some_height = run.fits.some_height;
      columns = omega (arith, fits.columns, x);
      rows = run.fits.rows;
    };
    pixels = λ p inside. (
      λ found. elim (either p found) [
        | inl here ↦ let between = (run.pixels p inside).0 here in (between.0, omega (arith, between.1))
        | inr there ↦ let same = (in_next p inside).0 there in (omega (arith, same, run.order), omega (arith, same))
      ],
      λ between. elim (cases_lt (tile_of tiling p) end) [
        | inl earlier ↦
            let here = (run.pixels p inside).1 (between.0, earlier) in
            (here.0, omega (arith, here.1), here.2, here.3)
        | inr later ↦
            let there = (in_next p inside).1 (omega (arith, between.1, later)) in (
              omega (arith, there.0, x),
              omega (arith, there.1, x),
              omega (arith, there.2, y),
              omega (arith, there.3, y, h),
            )
      ],
    );
  }

-- ---- copies

pub none_copied : (tiling : Tiles) (is_marked : ℕ → Type 0) (marker image : Raster) → ((t : ℕ) → is_marked t → ⊥)
    → IsOfSize image image → AreCopiedIn tiling is_marked marker image image
none_copied tiling is_marked marker image never size = record {
  size = size;
  within = λ p inside marked. absurd (never (tile_of tiling p) marked);
  beyond = λ p inside not_marked. refl;
}

-- one run more is copied, that of the first marked tile from a place on
pub run_copied : (tiling : Tiles) (marks : List Bool) (from tile : ℕ) (rect : Rect) (end : ℕ)
    (marker old middle new : Raster) → old.width ≡ tiling.width → old.height ≡ tiling.height
    → IsFirstFrom marks from tile → IsRun tiling marks tile rect end
    → AreCopiedIn tiling (IsMarkedBefore marks from) marker old middle → IsCopiedIn rect marker middle new
    → AreCopiedIn tiling (IsMarkedBefore marks end) marker old new
run_copied tiling marks from tile rect end marker old middle new width height first run so_far copied =
    let in_middle : (p : Pixel) → IsInside tiling.width tiling.height p → IsInside middle.width middle.height p =
    λ p inside. (
      omega (arith, inside.0, so_far.size.width, width),
      omega (arith, inside.1, so_far.size.height, height),
    ) in
    record {
      size = sizes_join so_far.size copied.size;
      within = λ p inside marked. elim (cases_lt (tile_of tiling p) from) [
        | inl earlier ↦
            copied.beyond p (in_middle p inside)
            (λ found. let between = (run.pixels p inside).0 found in omega (arith, between.0, earlier, first.from))
            ∙ so_far.within p inside (marked.0, earlier)
        | inr later ↦
            let at_least = first.first (tile_of tiling p) later marked.0 in
            copied.within p (in_middle p inside) ((run.pixels p inside).1 (at_least, marked.1))
      ];
      beyond = λ p inside not_marked.
          copied.beyond p (in_middle p inside) (λ found.
          let between = (run.pixels p inside).0 found in
          not_marked (run.has (tile_of tiling p) between.0 between.1, between.1))
          ∙ so_far.beyond p inside
          (λ marked. not_marked (marked.0, omega (arith, marked.1, first.from, run.order)));
    }

-- the same tiles are marked
pub copied_alike : (tiling : Tiles) (a b : ℕ → Type 0) (marker old new : Raster) → ((t : ℕ) → a t ↔ b t)
    → AreCopiedIn tiling a marker old new → AreCopiedIn tiling b marker old new
copied_alike tiling a b marker old new same copied = record {
  size = copied.size;
  within = λ p inside marked. copied.within p inside ((same (tile_of tiling p)).1 marked);
  beyond = λ p inside not_marked. copied.beyond p inside (λ marked. not_marked ((same (tile_of tiling p)).0 marked));
}
