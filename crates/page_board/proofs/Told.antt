-- What a page is told covers each difference.
use Rattle.std.proofs.Common.{◌≡◌, ℕ, List, ◌<◌, ◌⊎◌, inl, inr, refl, sym, subst, arith, ◌≢◌, Contains}
use Rattle.grid_core.specs.{declared.pixel.Pixel.Pixel, declared.rect.Rect.Rect, Raster.Raster, Raster.IsInside}
use Rattle.grid_core.specs.{TileLaws.EachPixelInOneTile, Tiles.Tiles, Tiles.tile_of}
use Rattle.stroke_lattice.specs.State.{IsLiveTag}
use Rattle.core_rules.specs.Work.{tiling, image_at, IsTile}
use Rattle.page_board.specs.Board.{PageBoard, shown_at, since_in, since_of, IsWhole, HasTurned}
use Rattle.page_board.specs.{Later.IsLater, Later.HasSameStroke, Laws.TellsAllSince, Strips.AreStrips}
use Rattle.page_board.specs.Changes.{AreChanges, AreRectsSince, IsCovered}
use Rattle.page_board.proofs.{Since.since_of_at_most, Since.since_another_run, Since.turned_after, Later.same_tiling}

module _ (in_one : EachPixelInOneTile) where
  -- the tile of a pixel is one of the board's
  pub tile_there : (b : PageBoard) (p : Pixel) → IsWhole b → IsInside b.core.mask.width b.core.mask.height p
      → IsTile b.core (tile_of (tiling b.core) p)
  tile_there b p whole inside =
      subst (λ (n : ℕ). tile_of (tiling b.core) p < n) (sym whole.tiles) (in_one (tiling b.core) p whole.tiled inside).0

  -- the rectangles of tiles with a later step are those that a page is told
  pub strips_tell : (b : PageBoard) (since : ℕ) (rects : List Rect) → IsWhole b
      → AreStrips (tiling b.core) b.shown since rects → AreRectsSince b since rects
  strips_tell b since rects whole strips = record {
    fit = strips.fit;
    cover = λ p inside.
        let at_p = in_one (tiling b.core) p whole.tiled inside in (
          λ covered.
              let tile = (strips.cover p).0 covered in
              let same = (at_p.1 tile.t (omega (arith, tile.below, whole.count, whole.tiles))).0 tile.within in
              subst (λ (t : ℕ). since < shown_at b t) (sym same) tile.later,
          λ later. (strips.cover p).1 (record {
            t = tile_of (tiling b.core) p;
            below = omega (arith, at_p.0, whole.count, whole.tiles);
            later = later;
            within = (at_p.1 (tile_of (tiling b.core) p) at_p.0).1 refl;
          }),
        );
    apart = strips.apart;
  }

  module _ (old new : PageBoard) (text : List ℕ) (whole : IsWhole old) (later : IsLater old new)
      (changes : AreChanges new old.run old.step text) where
    covered : (p : Pixel) → IsInside old.core.mask.width old.core.mask.height p
        → since_in new old.step < shown_at new (tile_of (tiling old.core) p) → IsCovered changes.rects p
    covered p inside news =
        let now_inside = subst (λ (mask : Raster). IsInside mask.width mask.height p) (sym later.ground.mask) inside in
        let now_news = subst (λ (tiles : Tiles). since_in new old.step < shown_at new (tile_of tiles p))
        (sym (same_tiling old.core new.core later.ground)) news in
        (changes.are_rects.cover p now_inside).1 (omega (arith, since_of_at_most new old.run old.step, now_news))

    pixels : (p : Pixel) → IsInside old.core.mask.width old.core.mask.height p
        → (image_at new.core p ≡ image_at old.core p) ⊎ IsCovered changes.rects p
    pixels p inside = elim (later.tiles (tile_of (tiling old.core) p) (tile_there old p whole inside)) [
      | inl same ↦ inl (same p (record { inside = inside; tile = refl }))
      | inr news ↦ inr (covered p inside news)
    ]

    strokes : (tag : ℕ) → HasSameStroke old.core.state new.core.state tag ⊎ Contains changes.tags tag
    strokes tag = elim (later.strokes tag) [
      | inl same ↦ inl same
      | inr turned ↦ inr ((changes.are_tags.each tag).1 (turned_after new (since_of new old.run old.step)
          (since_in new old.step) tag (since_of_at_most new old.run old.step) turned))
    ]

    pub changes_tell_all : TellsAllSince old new text changes
    changes_tell_all = record { pixels = pixels; strokes = strokes }

  module _ (b : PageBoard) (run since : ℕ) (text : List ℕ) (whole : IsWhole b) (other : run ≢ b.run)
      (changes : AreChanges b run since text) where
    pub all_pixels : (p : Pixel) → IsInside b.core.mask.width b.core.mask.height p → IsCovered changes.rects p
    all_pixels p inside =
        let begun = whole.begun (tile_of (tiling b.core) p) (tile_there b p whole inside) in
        (changes.are_rects.cover p inside).1 (omega (arith, since_another_run b run since other, begun))

    pub all_strokes : (tag : ℕ) → IsLiveTag b.core.state tag → Contains changes.tags tag
    all_strokes tag live =
        (changes.are_tags.each tag).1
        (subst (λ (n : ℕ). HasTurned b n tag) (sym (since_another_run b run since other)) (whole.told tag live))
