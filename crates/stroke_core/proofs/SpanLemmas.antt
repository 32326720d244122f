-- A seed covers the pixels of its spans.
use Rattle.std.proofs.Common.{◌≡◌, ℕ, zero, suc, ◌+◌, ◌-◌, ◌*◌, ◌<◌, ◌≤◌, min, Bool, true, false, List, [], ◌∷◌, map}
use Rattle.std.proofs.Common.{length, get_or, Some, refl, sym, ap, ◌∙◌, subst, arith, inl, inr, slice_get, ◌||◌, ◌&&◌}
use Rattle.std.proofs.Common.{◌==◌, nat_le, nat_lt, if◌then◌else◌}
use Rattle.std.proofs.{Math.Nat.mul-le-mul, lemmas.Bool.cases_lt, lemmas.Bool.cases_eq, lemmas.Bool.Decides.nat_tests}
use Rattle.std.proofs.{lemmas.List.length-map, lemmas.List.FromFn.length-map-range_with_len}
use Rattle.std.proofs.{lemmas.List.FromFn.get_or-map-range_with_len, lemmas.Option.slice_get-get_or}
use Rattle.std.specs.List.{list_any, range_with_len}
use Rattle.grid_core.specs.{declared.pixel.Pixel.Pixel, Neighbours.apart}
use Rattle.stroke_core.specs.{declared.run.Run.Run, declared.span.Span.Span}
use Rattle.stroke_core.specs.Seed.{Shape, Runs, Disc, Seed, AreOrdered, run_covers, disc_covers, shape_covers, covers}
use Rattle.stroke_core.specs.Seed.{ShapeFits}
use Rattle.stroke_core.specs.Spans.{span_has, span_of_run, span_of_row, span_round, reach_up_to, half_width}
use Rattle.stroke_core.specs.Spans.{spans_of_shape, spans_of, SpanFits}
use Rattle.stroke_core.proofs.SeedLemmas.{far_in_one_coordinate}

-- ---- runs

run_is_span : (run : Run) (p : Pixel) → run_covers run p ≡ span_has (span_of_run run) p
run_is_span run p = grind (arith, nat_tests)

runs_cover : (runs : List Run) (p : Pixel)
    → list_any (λ run. run_covers run p) runs ≡ list_any (λ s. span_has s p) (map span_of_run runs)
runs_cover [] p = refl
runs_cover (run ∷ rest) p = λ i. run_is_span run p i || runs_cover rest p i

-- ---- discs

square_le : (a b : ℕ) → a ≤ b → a * a ≤ b * b
square_le a b h = mul-le-mul h h

reach_if : (b : Bool) (h r dy rest : ℕ) → nat_le (h * h + dy * dy) (r * r) ≡ b
    → rest * rest + dy * dy ≤ r * r
    → (if b then h else rest) * (if b then h else rest) + dy * dy ≤ r * r
reach_if true h r dy rest test within = grind (arith, nat_tests)
reach_if false h r dy rest test within = within

-- what is reached lies in the disc
reached : (bound r dy : ℕ) → dy ≤ r → reach_up_to bound r dy * reach_up_to bound r dy + dy * dy ≤ r * r
reached zero r dy within = omega (arith, square_le dy r within)
reached (suc h) r dy within =
    reach_if (nat_le (suc h * suc h + dy * dy) (r * r)) (suc h) r dy (reach_up_to h r dy) refl (reached h r dy within)

beyond_if : (b : Bool) (h r dy rest : ℕ) → nat_le (suc h * suc h + dy * dy) (r * r) ≡ b
    → r * r < (suc h + 1) * (suc h + 1) + dy * dy
    → (r * r < (h + 1) * (h + 1) + dy * dy → r * r < (rest + 1) * (rest + 1) + dy * dy)
    → r * r < ((if b then suc h else rest) + 1) * ((if b then suc h else rest) + 1) + dy * dy
beyond_if true h r dy rest test above lower = above
beyond_if false h r dy rest test above lower = lower (grind (arith, nat_tests))

-- what is next to it does not, if what is next to the bound does not
beyond : (bound r dy : ℕ) → r * r < (bound + 1) * (bound + 1) + dy * dy
    → r * r < (reach_up_to bound r dy + 1) * (reach_up_to bound r dy + 1) + dy * dy
beyond zero r dy above = above
beyond (suc h) r dy above =
    beyond_if (nat_le (suc h * suc h + dy * dy) (r * r)) h r dy (reach_up_to h r dy) refl above (beyond h r dy)

next_square : (r : ℕ) → r * r < (r + 1) * (r + 1)
next_square r = omega arith

beyond_half_width : (r dy : ℕ) → r * r < (half_width r dy + 1) * (half_width r dy + 1) + dy * dy
beyond_half_width r dy = beyond r r dy (omega (arith, next_square r))

not_less : (a b c n : ℕ) → n < (a + 1) * (a + 1) + c → b * b + c ≤ n → b ≤ a
not_less a b c n above within = elim (cases_lt a b) [
  | inl less ↦
      let squares : (a + 1) * (a + 1) ≤ b * b = square_le (a + 1) b (omega arith) in
      absurd (omega arith)
  | inr more ↦ more
]

-- it is the only such number
pub is_half_width : (r dy h : ℕ) → dy ≤ r → h * h + dy * dy ≤ r * r → r * r < (h + 1) * (h + 1) + dy * dy
    → h ≡ half_width r dy
is_half_width r dy h within fits above =
    let low = not_less h (half_width r dy) (dy * dy) (r * r) above (reached r r dy within) in
    let high = not_less (half_width r dy) h (dy * dy) (r * r) (beyond_half_width r dy) fits in
    omega (arith, low, high)

reach_within : (bound r dy : ℕ) → reach_up_to bound r dy ≤ bound
reach_within zero r dy = omega arith
reach_within (suc h) r dy = grind (arith, nat_tests, reach_within h r dy)

pub half_width_within : (r dy : ℕ) → half_width r dy ≤ r
half_width_within r dy = reach_within r r dy

-- on a row, a disc has the pixels at most this far from the column of its centre
disc_on_row : (x y r half : ℕ) (p : Pixel) → half * half + apart y p.y * apart y p.y ≤ r * r
    → r * r < (half + 1) * (half + 1) + apart y p.y * apart y p.y → disc_covers x y r p ≡ nat_le (apart x p.x) half
disc_on_row x y r half p inside above = elim (cases_lt half (apart x p.x)) [
  | inl far ↦
      let more : (half + 1) * (half + 1) ≤ apart x p.x * apart x p.x =
      square_le (half + 1) (apart x p.x) (omega arith) in
      grind (arith, nat_tests)
  | inr near ↦
      let less : apart x p.x * apart x p.x ≤ half * half = square_le (apart x p.x) half near in
      grind (arith, nat_tests)
]

span_near : (x half row : ℕ) (p : Pixel)
    → span_has (span_round x half row) p ≡ ((p.y == row) && nat_le (apart x p.x) half)
span_near x half row p = grind (arith, nat_tests)

-- the span of a row has the pixels of the disc on it
row_covers : (x y r row : ℕ) (p : Pixel) → apart y row ≤ r
    → span_has (span_of_row x y r row) p ≡ ((p.y == row) && disc_covers x y r p)
row_covers x y r row p near = elim (cases_eq p.y row) [
  | inl here ↦
      span_near x (half_width r (apart y row)) row p
      ∙ ap (λ b. (p.y == row) && b)
      (ap (λ v. nat_le (apart x p.x) (half_width r (apart y v))) (sym here)
      ∙ sym (disc_on_row x y r (half_width r (apart y p.y)) p
      (reached r r (apart y p.y) (subst (λ v. apart y v ≤ r) (sym here) near)) (beyond_half_width r (apart y p.y))))
  | inr other ↦ grind (arith, nat_tests)
]

one_row_more : (a n row : ℕ) (b : Bool)
    → (((row == a) && b) || ((nat_le (a + 1) row && nat_lt row (a + 1 + n)) && b))
    ≡ ((nat_le a row && nat_lt row (a + suc n)) && b)
one_row_more a n row true = grind (arith, nat_tests)
one_row_more a n row false = grind (arith, nat_tests)

no_rows : (a row : ℕ) (b : Bool) → false ≡ ((nat_le a row && nat_lt row (a + 0)) && b)
no_rows a row b = grind (arith, nat_tests)

-- the spans of some rows have the pixels of the disc on these rows
rows_cover : (x y r a n : ℕ) (p : Pixel) → ((row : ℕ) → a ≤ row → row < a + n → apart y row ≤ r)
    → list_any (λ s. span_has s p) (map (span_of_row x y r) (range_with_len a n))
    ≡ ((nat_le a p.y && nat_lt p.y (a + n)) && disc_covers x y r p)
rows_cover x y r a zero p near = no_rows a p.y (disc_covers x y r p)
rows_cover x y r a (suc n) p near =
    (λ i. row_covers x y r a p (near a (omega arith) (omega arith)) i
    || rows_cover x y r (a + 1) n p (λ row low high. near row (omega arith) (omega arith)) i)
    ∙ one_row_more a n p.y (disc_covers x y r p)

-- a disc has no pixel on other rows than its own
rows_suffice : (x y r : ℕ) (p : Pixel)
    → ((nat_le (y - r) p.y && nat_lt p.y (y - r + (min y r + r + 1))) && disc_covers x y r p) ≡ disc_covers x y r p
rows_suffice x y r p = elim (cases_lt r (apart y p.y)) [
  | inl far ↦
      let none : false ≡ disc_covers x y r p = far_in_one_coordinate (apart x p.x) (apart y p.y) r (inr far) in
      grind (arith, nat_tests)
  | inr near ↦
      let low : y - r ≤ p.y = omega arith in
      let high : p.y < y - r + (min y r + r + 1) = omega arith in
      grind (arith, nat_tests)
]

disc_covered : (x y r : ℕ) (p : Pixel)
    → disc_covers x y r p ≡ list_any (λ s. span_has s p) (spans_of_shape (Disc x y r))
disc_covered x y r p =
    sym (rows_suffice x y r p)
    ∙ sym (rows_cover x y r (y - r) (min y r + r + 1) p (λ row low high. omega arith))

-- ---- both

shape_covered : (shape : Shape) (p : Pixel)
    → shape_covers shape p ≡ list_any (λ s. span_has s p) (spans_of_shape shape)
shape_covered (Runs runs) p = runs_cover runs p
shape_covered (Disc x y r) p = disc_covered x y r p

-- a seed covers the pixels of its spans, and no others
pub spans_cover : (s : Seed) (p : Pixel) → covers s p ≡ list_any (λ span. span_has span p) (spans_of s)
spans_cover s p = shape_covered s.shape p

-- ---- the span of a number

pub run_count : (runs : List Run) → length (spans_of_shape (Runs runs)) ≡ length runs
run_count runs = length-map runs span_of_run

pub row_count : (x y r : ℕ) → length (spans_of_shape (Disc x y r)) ≡ min y r + r + 1
row_count x y r = length-map-range_with_len (span_of_row x y r) (y - r) (min y r + r + 1)

pub span_of_row_at : (x y r i row : ℕ) → i < min y r + r + 1 → row ≡ y - r + i
    → slice_get (spans_of_shape (Disc x y r)) i ≡ Some (span_of_row x y r row)
span_of_row_at x y r i row within place =
    let count = row_count x y r in
    let none = span_of_row x y r row in
    slice_get-get_or (spans_of_shape (Disc x y r)) i none (omega arith)
    ∙ ap Some (get_or-map-range_with_len (span_of_row x y r) (y - r) (min y r + r + 1) i row none within (sym place))

-- ---- where the span of a run lies

some_same : (a b : Span) → Some a ≡ Some b → a ≡ b
some_same a b e = cc

-- it has a pixel
pub run_span_has_pixel : (runs : List Run) (i : ℕ) (span : Span) → AreOrdered runs
    → slice_get (spans_of_shape (Runs runs)) i ≡ Some span → span.first < span.end
run_span_has_pixel [] i span order found = absurd cc
run_span_has_pixel (run ∷ rest) zero span order found =
    subst (λ (s : Span). s.first < s.end) (some_same (span_of_run run) span found) (omega (arith, order.0))
run_span_has_pixel (run ∷ rest) (suc i) span order found = run_span_has_pixel rest i span order.2 found

-- it lies where the runs do
pub run_span_fits : (w h : ℕ) (runs : List Run) (i : ℕ) (span : Span) → ShapeFits w h (Runs runs)
    → slice_get (spans_of_shape (Runs runs)) i ≡ Some span → SpanFits w h span
run_span_fits w h [] i span fits found = absurd cc
run_span_fits w h (run ∷ rest) zero span fits found =
    subst (SpanFits w h) (some_same (span_of_run run) span found) (fits.0.0, omega (arith, fits.0.1))
run_span_fits w h (run ∷ rest) (suc i) span fits found = run_span_fits w h rest i span fits.1 found
