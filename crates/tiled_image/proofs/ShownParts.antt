-- What shows a tile is compared with a piece in place of the whole image.
use Rattle.std.proofs.Common.{◌≡◌, ◌+◌, ◌<◌, ◌≤◌, max, ap, sym, subst, ◌∙◌, refl, inl, inr, arith}
use Rattle.grid_core.specs.{declared.bounds.Bounds.Bounds, declared.pixel.Pixel.Pixel, declared.rect.Rect.Rect}
use Rattle.grid_core.specs.Bounds.{AreEmpty, LieIn, no_bounds}
use Rattle.grid_core.specs.Raster.{Raster, IsInside, value_at}
use Rattle.grid_core.specs.Rects.{IsAtMostPart, IsPart, in_image}
use Rattle.grid_core.proofs.Pixels.{same_pixel}
use Rattle.reset_core.specs.{Bounding.AreCountedFrom, Parts.AreBoundsAbove, Parts.IsPieceFor}
use Rattle.reset_core.specs.Parts.{IsRaisedPart}
use Rattle.tiled_image.specs.Shown.{AreInWhole, HasPartAt, Shows, place_in}
use Rattle.tiled_image.proofs.{CopiedStrips.strip_in, Places.image_in_rect}

-- what shows a rectangle has its part
module _ (rect : Rect) (whole source : Raster) (shown : Rect) (shows : Shows rect whole source shown) where
  place_in_own : (p : Pixel) → place_in shown (in_image rect p) ≡ in_image (strip_in shown rect) p
  place_in_own p =
      same_pixel (place_in shown (in_image rect p)) (in_image (strip_in shown rect) p) (omega (arith, shows.lies.0))
      (omega (arith, shows.lies.2))

  pub shown_part : 0 < rect.w → 0 < rect.h → HasPartAt rect whole source (strip_in shown rect)
  shown_part some_width some_height = record {
    fits = record {
      some_width = some_width;
      some_height = some_height;
      columns = omega (arith, shows.width, shows.lies.0, shows.lies.1);
      rows = omega (arith, shows.height, shows.lies.2, shows.lies.3);
    };
    width = refl;
    height = refl;
    values = λ p inside.
        ap (λ (q : Pixel). value_at source q) (sym (place_in_own p))
        ∙ shows.values (in_image rect p) (image_in_rect rect p inside);
  }

-- ---- pieces

module _ {rect : Rect} {whole source : Raster} {own : Rect} (has : HasPartAt rect whole source own) where
  inside_own : (p : Pixel) → IsInside rect.w rect.h p → IsInside own.w own.h p
  inside_own p inside = (
    subst (λ w. p.x < w) (sym has.width) inside.0,
    subst (λ h. p.y < h) (sym has.height) inside.1,
  )

  inside_rect : (p : Pixel) → IsInside own.w own.h p → IsInside rect.w rect.h p
  inside_rect p inside = (subst (λ w. p.x < w) has.width inside.0, subst (λ h. p.y < h) has.height inside.1)

  module _ (piece : Raster) where
    pub part_in_whole : IsPart own source piece → IsPart rect whole piece
    part_in_whole is_part = record {
      width = is_part.width ∙ has.width;
      height = is_part.height ∙ has.height;
      filled = is_part.filled;
      values = λ p inside. is_part.values p (inside_own p inside) ∙ has.values p inside;
    }

    pub part_in_source : IsPart rect whole piece → IsPart own source piece
    part_in_source is_part = record {
      width = is_part.width ∙ sym has.width;
      height = is_part.height ∙ sym has.height;
      filled = is_part.filled;
      values = λ p inside.
          is_part.values p (inside_rect p inside) ∙ sym (has.values p (inside_rect p inside));
    }

    pub at_most_in_whole : IsAtMostPart own source piece → IsAtMostPart rect whole piece
    at_most_in_whole is_most = record {
      width = is_most.width ∙ has.width;
      height = is_most.height ∙ has.height;
      filled = is_most.filled;
      values = λ p inside.
          subst (λ v. value_at piece p ≤ v) (has.values p inside) (is_most.values p (inside_own p inside));
    }

    pub at_most_in_source : IsAtMostPart rect whole piece → IsAtMostPart own source piece
    at_most_in_source is_most = record {
      width = is_most.width ∙ sym has.width;
      height = is_most.height ∙ sym has.height;
      filled = is_most.filled;
      values = λ p inside.
          subst (λ v. value_at piece p ≤ v) (sym (has.values p (inside_rect p inside)))
          (is_most.values p (inside_rect p inside));
    }

    pub piece_in_source : IsPieceFor rect whole piece → IsPieceFor own source piece
    piece_in_source is_piece = record {
      fits = has.fits;
      width = is_piece.width ∙ sym has.width;
      height = is_piece.height ∙ sym has.height;
    }

    pub raised_in_whole : (part : Raster) → IsRaisedPart own source piece part → IsRaisedPart rect whole piece part
    raised_in_whole part raised = record {
      width = raised.width ∙ has.width;
      height = raised.height ∙ has.height;
      filled = raised.filled;
      values = λ p inside.
          raised.values p (inside_own p inside) ∙ ap (λ v. max v (value_at piece p)) (has.values p inside);
    }

    -- bounds that are found there, counted from the corner and then in the whole image
    pub bounds_in_whole : (found counted bounds : Bounds) → AreBoundsAbove own own.h source piece found
        → AreCountedFrom own found counted → AreInWhole rect counted bounds
        → AreBoundsAbove rect rect.h whole piece bounds
    bounds_in_whole found counted bounds above from_corner in_whole = record {
      lie = in_whole.lie;
      above = λ p inside high.
          in_whole.kept p (from_corner.kept p (above.above p (inside_own p inside)
          (subst (λ v. value_at piece p < v) (sym (has.values p inside)) high)));
    }

-- ---- bounds

-- bounds that lie in a rectangle at the corner lie in one of the same size
pub lie_in_size : (bounds : Bounds) (rect own : Rect) → own.w ≡ rect.w → own.h ≡ rect.h
    → LieIn bounds (record own { x = 0; y = 0 }) → LieIn bounds (record rect { x = 0; y = 0 })
lie_in_size bounds rect own width height lies = (
  lies.0,
  subst (λ w. bounds.right ≤ 0 + w) width lies.1,
  lies.2,
  subst (λ h. bounds.bottom ≤ 0 + h) height lies.3,
)

pub none_in_whole : (rect : Rect) (bounds : Bounds) → AreEmpty bounds → rect.x + rect.w < 4294967296
    → rect.y + rect.h < 4294967296 → AreInWhole rect bounds no_bounds
none_in_whole rect bounds empty columns rows = record {
  lie = (omega (arith, columns), omega arith, omega (arith, rows), omega arith);
  kept = λ p there. elim empty [
    | inl thin ↦ absurd (omega (arith, thin, there.0, there.1))
    | inr flat ↦ absurd (omega (arith, flat, there.2, there.3))
  ];
}

pub moved_in_whole : (rect : Rect) (bounds : Bounds) → LieIn bounds (record rect { x = 0; y = 0 })
    → AreInWhole rect bounds (record {
      left = rect.x + bounds.left;
      right = rect.x + bounds.right;
      top = rect.y + bounds.top;
      bottom = rect.y + bounds.bottom;
    })
moved_in_whole rect bounds lies = record {
  lie = (omega arith, omega (arith, lies.1), omega arith, omega (arith, lies.3));
  kept = λ p there. (
    omega (arith, there.0),
    omega (arith, there.1),
    omega (arith, there.2),
    omega (arith, there.3),
  );
}
