-- What the tactics leave open of `around_of`.
use Rattle.std.proofs.Common.{◌≡◌, ◌+◌, ◌-◌, ℕ, min, ap, sym, subst, ◌∙◌}
use Rattle.grid_core.specs.{declared.rect.Rect.Rect, Rects.RectFits, Tiles.rect_of}
use Rattle.border_queues.specs.Around.{widened}
use Rattle.tiled_image.proofs.RingTiles.{border_fits}
use Rattle.tiled_image.proofs.image.ring.around_of.Goals as goal

-- a rectangle with its border, from its parts
border_is : (width height : ℕ) (rect own : Rect) (w h x y right bottom : ℕ) → w ≡ width → h ≡ height → own ≡ rect
    → x ≡ own.x - 1 → y ≡ own.y - 1 → right ≡ min (own.x + own.w + 1) w → bottom ≡ min (own.y + own.h + 1) h
    → widened width height rect ≡ record { x = x; y = y; w = right - x; h = bottom - y }
border_is width height rect own w h x y right bottom w_is h_is own_is x_is y_is right_is bottom_is =
    let x_now : x ≡ rect.x - 1 = x_is ∙ ap (λ (r : Rect). r.x - 1) own_is in
    let y_now : y ≡ rect.y - 1 = y_is ∙ ap (λ (r : Rect). r.y - 1) own_is in
    let right_now : right ≡ min (rect.x + rect.w + 1) width =
    right_is ∙ (λ i. min ((own_is i).x + (own_is i).w + 1) (w_is i)) in
    let bottom_now : bottom ≡ min (rect.y + rect.h + 1) height =
    bottom_is ∙ (λ i. min ((own_is i).y + (own_is i).h + 1) (h_is i)) in
    λ i. record {
      x = sym x_now i;
      y = sym y_now i;
      w = sym right_now i - sym x_now i;
      h = sym bottom_now i - sym y_now i;
    }

pub returns-clause-value : goal.returns-clause-value
returns-clause-value c =
    sym (border_is c.args.tiling.now.width c.args.tiling.now.height (rect_of c.args.tiling.now c.args.tile)
    c.rect-rect.result c.width-width.result c.height-height.result c.saturating_sub-x.result c.saturating_sub-y.result
    c.min-right.result c.min-bottom.result c.width-width.ensures.value c.height-height.ensures.value
    c.rect-rect.ensures.value c.saturating_sub-x.ensures c.saturating_sub-y.ensures c.min-right.ensures
    c.min-bottom.ensures)

pub returns-clause-fits : goal.returns-clause-fits
returns-clause-fits c =
    let tiling = c.args.tiling.now in
    let is = border_is tiling.width tiling.height (rect_of tiling c.args.tile) c.rect-rect.result c.width-width.result
    c.height-height.result c.saturating_sub-x.result c.saturating_sub-y.result c.min-right.result c.min-bottom.result
    c.width-width.ensures.value c.height-height.ensures.value c.rect-rect.ensures.value c.saturating_sub-x.ensures
    c.saturating_sub-y.ensures c.min-right.ensures c.min-bottom.ensures in
    subst (λ (r : Rect). RectFits tiling.width tiling.height r) is
    (border_fits tiling.width tiling.height (rect_of tiling c.args.tile)
    (subst (λ (r : Rect). RectFits tiling.width tiling.height r) c.rect-rect.ensures.value c.rect-rect.ensures.fits))
