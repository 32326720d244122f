-- The pixels of a seed as spans, row by row.
use Rattle.std.specs.Prelude.{ℕ, zero, suc, ◌+◌, ◌-◌, ◌*◌, ◌==◌, ◌&&◌, nat_le, nat_lt, min, Bool, List, map, ◌<◌, ◌≤◌}
use Rattle.std.specs.Prelude.{if◌then◌else◌}
use Rattle.std.specs.{List.range_with_len, List.Sorted.IsPartitionPoint}
use Rattle.grid_core.specs.{declared.pixel.Pixel.Pixel, Neighbours.apart}
use Rattle.stroke_core.specs.{declared.run.Run.Run, declared.span.Span.Span}
use Rattle.stroke_core.specs.Seed.{Shape, Runs, Disc, Seed}

-- whether the span has the pixel
abbrev pub span_has : Span → Pixel → Bool
span_has s p = (p.y == s.y) && (nat_le s.first p.x && nat_lt p.x s.end)

-- the span lies in an image of this width and height
abbrev pub SpanFits : ℕ → ℕ → Span → Type 0
SpanFits width height s = (s.y < height) × (s.end ≤ width)

-- the spans before this number are above the row, and the others on it or below
abbrev pub IsFirstFrom : ℕ → List Span → ℕ → Type 0
IsFirstFrom row spans i = IsPartitionPoint (λ span. span.y < row) (λ span. row ≤ span.y) spans i

-- the pixels of a run
abbrev pub span_of_run : Run → Span
span_of_run run = record { y = run.y; first = run.x0; end = run.x1 + 1 }

-- the greatest number up to a bound whose square, with that of dy, is at most the square of r; 0 if there is none
abbrev pub reach_up_to : ℕ → ℕ → ℕ → ℕ
reach_up_to zero r dy = 0
reach_up_to (suc h) r dy = if nat_le (suc h * suc h + dy * dy) (r * r) then suc h else reach_up_to h r dy

-- how far a disc of radius r reaches to either side of its centre, on a row dy away from it
abbrev pub half_width : ℕ → ℕ → ℕ
half_width r dy = reach_up_to r r dy

-- the pixels on this row that are at most so far from column x
abbrev pub span_round : ℕ → ℕ → ℕ → Span
span_round x half row = record { y = row; first = x - half; end = x + half + 1 }

-- the pixels on this row of the disc of radius r round the pixel (x, y)
abbrev pub span_of_row : ℕ → ℕ → ℕ → ℕ → Span
span_of_row x y r row = span_round x (half_width r (apart y row)) row

-- the spans of a shape: one for each run, or one for each row of a disc from its top, or that of the image
abbrev pub spans_of_shape : Shape → List Span
spans_of_shape (Runs runs) = map span_of_run runs
spans_of_shape (Disc x y r) = map (span_of_row x y r) (range_with_len (y - r) (min y r + r + 1))

-- those of a seed
abbrev pub spans_of : Seed → List Span
spans_of s = spans_of_shape s.shape
