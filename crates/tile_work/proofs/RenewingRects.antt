-- A rectangle that is copied row by row.
use Rattle.std.proofs.Common.{◌≡◌, ℕ, ◌+◌, ◌≤◌, Bool, arith, ◌||◌, ◌&&◌, nat_le, nat_lt}
use Rattle.std.proofs.lemmas.Bool.Decides.{nat_tests}
use Rattle.grid_core.specs.{declared.pixel.Pixel.Pixel, declared.rect.Rect.Rect}
use Rattle.stroke_core.specs.{declared.span.Span.Span, Spans.span_has}

-- the pixels of the rectangle above this row
abbrev pub rect_above : Rect → ℕ → Pixel → Bool
rect_above rect row p =
    (nat_le rect.x p.x && nat_lt p.x (rect.x + rect.w)) && (nat_le rect.y p.y && nat_lt p.y row)

-- the pixels of the rectangle on this row
abbrev pub rect_row : Rect → ℕ → Span
rect_row rect row = record { y = row; first = rect.x; end = rect.x + rect.w }

pub rect_row_more : (rect : Rect) (row : ℕ) (p : Pixel) → rect.y ≤ row
    → rect_above rect (row + 1) p ≡ (rect_above rect row p || span_has (rect_row rect row) p)
rect_row_more rect row p below = grind (arith, nat_tests)
