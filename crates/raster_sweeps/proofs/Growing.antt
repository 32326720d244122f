-- Growing whole rows of cells: what it needs, and what it says of the image whose cells they are.
use Rattle.std.proofs.Common.{◌≡◌, ℕ, List, ap, subst, sym, ◌∙◌}
use Rattle.grid_core.specs.{declared.conn.Conn.Conn, declared.rect.Rect.Rect, Rects.RectFits}
use Rattle.grid_core.specs.Raster.{Raster, IsBelow, IsFilled, IsSized}
use Rattle.raster_sweeps.specs.declared.size.Size.{Size}
use Rattle.raster_sweeps.specs.Growth.{CanClose, IsGrown, rows_of}
use Rattle.raster_sweeps.proofs.Grown.{fits_below, grown_filled, grown_same}

-- an image that may grow has grown from itself
pub grown_nowhere : {conn : Conn} {rect : Rect} {mask image : Raster} → CanClose rect mask image
    → IsGrown conn rect mask image image
grown_nowhere close = grown_same close.filled close.below (fits_below close.below close.fits)

-- an image that may grow may do so when it has grown
pub can_close_on : {conn : Conn} {rect : Rect} {mask before after : Raster} → CanClose rect mask before
    → IsGrown conn rect mask before after → CanClose rect mask after
can_close_on close grown = record {
  size = rw (grown.width, grown.height) close.size;
  filled = grown_filled close.filled grown;
  mask_filled = close.mask_filled;
  below = grown.below;
  fits = close.fits;
}

-- ---- a mask and an image, and their rows

module _ (size : Size) (mask before : Raster) (limits cells : List ℕ) (of_mask : limits ≡ mask.cells)
    (of_before : cells ≡ before.cells) (whole : rows_of size before.cells ≡ before) (below : IsBelow before mask) where
  rows_before : rows_of size cells ≡ before
  rows_before = ap (rows_of size) of_before ∙ whole

  -- the mask has as many columns and rows as the image
  rows_mask : rows_of size limits ≡ mask
  rows_mask =
      subst (λ w. rows_of size limits ≡ record { width = w; height = mask.height; cells = mask.cells }) below.width
      (subst (λ h. rows_of size limits ≡ record { width = before.width; height = h; cells = mask.cells }) below.height
      (λ i. record { width = (whole i).width; height = (whole i).height; cells = of_mask i }))

  -- what holds of the mask and the image holds of their rows
  to_rows : (Holds : Raster → Raster → Type 0) → Holds mask before
      → Holds (rows_of size limits) (rows_of size cells)
  to_rows Holds held =
      subst (λ r. Holds r (rows_of size cells)) (sym rows_mask) (subst (λ r. Holds mask r) (sym rows_before) held)

  -- the rows of an image that may grow
  pub rows_can_close : (rect : Rect) → RectFits mask.width mask.height rect → IsFilled mask → IsSized before
      → CanClose rect (rows_of size limits) (rows_of size cells)
  rows_can_close rect fits filled sized =
      to_rows (CanClose rect)
      (record { size = sized.size; filled = sized.filled; mask_filled = filled; below = below; fits = fits })

  -- what holds of the rows, and of what they are afterwards, holds of the mask and the images
  pub of_rows : (Holds : Raster → Raster → Raster → Type 0) (after : Raster) (new : List ℕ)
      → after ≡ record { width = before.width; height = before.height; cells = new }
      → Holds (rows_of size limits) (rows_of size cells) (rows_of size new) → Holds mask before after
  of_rows Holds after new back held =
      let drawn : rows_of size new ≡ record { width = before.width; height = before.height; cells = new } =
      λ i. record { width = (whole i).width; height = (whole i).height; cells = new } in
      subst (λ r. Holds mask before r) (drawn ∙ sym back)
      (subst (λ r. Holds mask r (rows_of size new)) rows_before
      (subst (λ r. Holds r (rows_of size cells) (rows_of size new)) rows_mask held))
