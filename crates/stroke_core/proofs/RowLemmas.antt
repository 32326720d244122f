-- The rows of spans never fall.
use Rattle.std.proofs.Common.{◌≡◌, ℕ, zero, suc, ◌+◌, ◌-◌, ◌<◌, ◌≤◌, inl, inr, min, true, false, List, [], ◌∷◌, length}
use Rattle.std.proofs.Common.{get_or, ap, refl, arith, ltb}
use Rattle.std.proofs.{lemmas.Bool.Decides.nat_tests, lemmas.List.get_or-map}
use Rattle.std.proofs.{lemmas.List.FromFn.get_or-map-range_with_len}
use Rattle.std.specs.List.Sorted.{IsPartitionPoint, IsNonDecreasingBy}
use Rattle.stroke_core.specs.{declared.run.Run.Run, declared.span.Span.Span, Seed.Runs, Seed.Disc, Seed.AreInOrder}
use Rattle.stroke_core.specs.{Seed.AreOrdered, Spans.span_of_run, Spans.span_of_row, Spans.spans_of_shape}
use Rattle.stroke_core.proofs.SpanLemmas.{run_count, row_count}

in_order_rows : (a b : Run) → AreInOrder a b → a.y ≤ b.y
in_order_rows a b (inl earlier) = omega arith
in_order_rows a b (inr same) = omega (arith, same.0)

first_is_highest : (run : Run) (rest : List Run) (j : ℕ) (d : Run) → AreOrdered (run ∷ rest) → j < length rest
    → run.y ≤ (get_or rest j d).y
first_is_highest run [] j d order within = absurd (omega arith)
first_is_highest run (next ∷ rest) zero d order within = in_order_rows run next order.1
first_is_highest run (next ∷ rest) (suc j) d order within =
    let before = in_order_rows run next order.1 in
    let after = first_is_highest next rest j d order.2 (omega arith) in
    omega (arith, before, after)

-- the rows of runs never fall
pub runs_rise : (runs : List Run) → AreOrdered runs → IsNonDecreasingBy (λ (run : Run). run.y) runs
runs_rise [] order i j d ahead within = absurd (omega arith)
runs_rise (run ∷ rest) order zero zero d ahead within = omega arith
runs_rise (run ∷ rest) order zero (suc j) d ahead within = first_is_highest run rest j d order (omega arith)
runs_rise (run ∷ rest) order (suc i) zero d ahead within = absurd (omega arith)
runs_rise (run ∷ rest) order (suc i) (suc j) d ahead within =
    runs_rise rest order.2 i j d (omega arith) (omega arith)

row_of_run_span : (runs : List Run) (k : ℕ) (d : Span) → k < length runs
    → (get_or (spans_of_shape (Runs runs)) k d).y ≡ (get_or runs k (record { y = 0; x0 = 0; x1 = 0 })).y
row_of_run_span runs k d within =
    ap (λ (s : Span). s.y) (get_or-map span_of_run runs k (record { y = 0; x0 = 0; x1 = 0 }) d within)

-- where the runs part by their rows, so do their spans
pub run_spans_part : (runs : List Run) (row n : ℕ) → n ≤ length runs
    → IsPartitionPoint (λ run. ltb run.y row ≡ true) (λ run. ltb run.y row ≡ false) runs n
    → IsPartitionPoint (λ s. s.y < row) (λ s. row ≤ s.y) (spans_of_shape (Runs runs)) n
run_spans_part runs row n within point =
    let none : Run = record { y = 0; x0 = 0; x1 = 0 } in
    let count : length (spans_of_shape (Runs runs)) ≡ length runs = run_count runs in (
      λ k d low high.
          let row_is = row_of_run_span runs k d (omega arith) in
          let above = point.0 k none low high in
          grind (arith, nat_tests, row_is, above),
      λ k d low high.
          let row_is = row_of_run_span runs k d (omega arith) in
          let below = point.1 k none low (omega arith) in
          grind (arith, nat_tests, row_is, below),
    )

row_of_disc_span : (x y r k : ℕ) (d : Span) → k < min y r + r + 1
    → (get_or (spans_of_shape (Disc x y r)) k d).y ≡ y - r + k
row_of_disc_span x y r k d within =
    ap (λ (s : Span). s.y)
    (get_or-map-range_with_len (span_of_row x y r) (y - r) (min y r + r + 1) k (y - r + k) d within refl)

-- the spans of a disc part at a row by the number of rows above it
pub disc_spans_part : (x y r row n : ℕ) → n ≡ min (min y r + r + 1) (row - (y - r))
    → IsPartitionPoint (λ s. s.y < row) (λ s. row ≤ s.y) (spans_of_shape (Disc x y r)) n
disc_spans_part x y r row n rows =
    let count : length (spans_of_shape (Disc x y r)) ≡ min y r + r + 1 = row_count x y r in (
      λ k d low high. let row_is = row_of_disc_span x y r k d (omega arith) in omega (arith, row_is),
      λ k d low high. let row_is = row_of_disc_span x y r k d (omega arith) in omega (arith, row_is),
    )
