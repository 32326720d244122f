-- Bounding boxes of pixels.
use Rattle.std.specs.Prelude.{◌+◌, ◌-◌, ◌<◌, ◌≤◌, ◌⊎◌, min, max}
use Rattle.grid_core.specs.{declared.bounds.Bounds.Bounds, declared.pixel.Pixel.Pixel, declared.rect.Rect.Rect}

-- the pixel lies within the bounds
abbrev pub IsInBounds : Bounds → Pixel → Type 0
IsInBounds b p = (b.left ≤ p.x) × (p.x < b.right) × (b.top ≤ p.y) × (p.y < b.bottom)

-- no pixel lies within the bounds
abbrev pub AreEmpty : Bounds → Type 0
AreEmpty b = (b.right ≤ b.left) ⊎ (b.bottom ≤ b.top)

-- the bounds do not reach out of the rectangle
abbrev pub LieIn : Bounds → Rect → Type 0
LieIn b rect = (rect.x ≤ b.left) × (b.right ≤ rect.x + rect.w) × (rect.y ≤ b.top) × (b.bottom ≤ rect.y + rect.h)

-- the bounds of the pixels of a rectangle
abbrev pub bounds_of : Rect → Bounds
bounds_of rect = record { left = rect.x; right = rect.x + rect.w; top = rect.y; bottom = rect.y + rect.h }

-- the least bounds within which lie those of two
abbrev pub joined : Bounds → Bounds → Bounds
joined a b = record {
  left = min a.left b.left;
  right = max a.right b.right;
  top = min a.top b.top;
  bottom = max a.bottom b.bottom;
}

-- the bounds within which lie the pixels that lie within both
abbrev pub intersection : Bounds → Bounds → Bounds
intersection a b = record {
  left = max a.left b.left;
  right = min a.right b.right;
  top = max a.top b.top;
  bottom = min a.bottom b.bottom;
}

-- the bounds with one more column and row on each side, but none left of the first or above it
abbrev pub wider : Bounds → Bounds
wider b = record { left = b.left - 1; right = b.right + 1; top = b.top - 1; bottom = b.bottom + 1 }

-- the rectangle of the pixels within the bounds, where there are some
abbrev pub rect_within : Bounds → Rect
rect_within b = record { x = b.left; y = b.top; w = b.right - b.left; h = b.bottom - b.top }

-- the bounds of one pixel
abbrev pub bounds_at : Pixel → Bounds
bounds_at p = record { left = p.x; right = p.x + 1; top = p.y; bottom = p.y + 1 }

-- the bounds of no pixel, which lie in each rectangle
abbrev pub no_bounds : Bounds
no_bounds = record { left = 4294967295; right = 0; top = 4294967295; bottom = 0 }
