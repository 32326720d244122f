-- Rectangles that fit an image.
use Rattle.std.proofs.Common.{◌≡◌, ℕ, List, ◌∙◌, sym, ap, subst}
use Rattle.grid_core.specs.{declared.rect.Rect.Rect, Raster.Raster, Tiles.Tiles}
use Rattle.core_rules.specs.Work.{Core, tiling}
use Rattle.reset_core.specs.Answers.{IsImageOf}
use Rattle.page_board.specs.Changes.{AllFit}

-- rectangles that fit the mask fit an image of its size
pub fit_image : (width height w h : ℕ) (rects : List Rect) → w ≡ width → h ≡ height → AllFit width height rects
    → AllFit w h rects
fit_image width height w h rects same_width same_height fit = rw (same_width, same_height) fit

-- and so the rectangles that are told
pub fits_at : (core : Core) (tiles : Tiles) (image : Raster) (rects told : List Rect) → IsImageOf core image
    → tiles ≡ tiling core → told ≡ rects → AllFit tiles.width tiles.height rects → AllFit image.width image.height told
fits_at core tiles image rects told is same_tiles same fit =
    subst (λ (all : List Rect). AllFit image.width image.height all) (sym same)
    (fit_image tiles.width tiles.height image.width image.height rects
    (ap (λ (r : Raster). r.width) is.value ∙ is.below.width ∙ sym (ap (λ (t : Tiles). t.width) same_tiles))
    (ap (λ (r : Raster). r.height) is.value ∙ is.below.height ∙ sym (ap (λ (t : Tiles). t.height) same_tiles)) fit)
