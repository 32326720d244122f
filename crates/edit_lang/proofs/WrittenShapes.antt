-- Runs and discs that are written, read back.
use Rattle.std.proofs.Common.{◌≡◌, ℕ, ◌<◌, ◌≤◌, false, eqb, List, [], ◌∷◌, ◌++◌, length, All, Some, map, refl, ap, ◌∙◌}
use Rattle.std.proofs.Common.{arith, length-append, decimal}
use Rattle.std.proofs.{lemmas.Bool.Decides.nat_tests, lemmas.Fmt.decimal_nonempty}
use Rattle.std.specs.List.{AllByRecursion}
use Rattle.stroke_core.specs.{declared.run.Run.Run, Seed.Shape, Seed.Runs, Seed.Disc, Seed.IsCanonicalShape}
use Rattle.edit_lang.specs.Shapes.{plus, comma, dash, colon, run_between, run_of, each_run, runs_of, disc_round}
use Rattle.edit_lang.specs.Shapes.{disc_of}
use Rattle.edit_lang.specs.Writing.{run_text, shape_text, HasCoordinates, ShapeHasCoordinates}
use Rattle.stroke_lattice.proofs.Lists.{each_weaker}
use Rattle.edit_lang.proofs.Bytes.{Above, above_append, above_less, none_pass, decimal_above, decimal_apart}
use Rattle.edit_lang.proofs.WrittenWords.{coordinate_read, cut_read, split_joined, joined_above, IsWord}

-- ---- runs

run_read : (run : Run) → HasCoordinates run → run_of (run_text run) ≡ Some run
unfolding run_of run_between
run_read run fits =
    let row = cut_read colon (decimal run.y) (decimal run.x0 ++ dash ∷ decimal run.x1)
    (decimal_apart colon run.y refl fits.y) refl in
    let columns = cut_read dash (decimal run.x0) (decimal run.x1) (decimal_apart dash run.x0 refl fits.x0) refl in
    rw (row, columns, coordinate_read run.y fits.y, coordinate_read run.x0 fits.x0, coordinate_read run.x1 fits.x1)
    refl

each_read : (runs : List Run) → AllByRecursion HasCoordinates runs → each_run (map run_text runs) ≡ Some runs
each_read [] fit = refl
each_read (run ∷ runs) fit = rw (run_read run fit.0, each_read runs fit.1) refl

number_above : (k n : ℕ) → k ≤ 47 → n ≤ 65535 → Above k (decimal n)
number_above k n low le = above_less k 47 (decimal n) low (decimal_above n le)

before_sign : (k sign n : ℕ) (rest : List ℕ) → k ≤ 47 → k < sign → n ≤ 65535 → Above k rest
    → Above k (decimal n ++ sign ∷ rest)
before_sign k sign n rest low above le others =
    above_append k (decimal n) (sign ∷ rest) (number_above k n low le) (above, others)

-- each byte of a run is above a comma
run_above : (run : Run) → HasCoordinates run → Above 44 (run_text run)
run_above run fits =
    before_sign 44 colon run.y (decimal run.x0 ++ dash ∷ decimal run.x1) (omega arith) (omega arith) fits.y
    (before_sign 44 dash run.x0 (decimal run.x1) (omega arith) (omega arith) fits.x0
    (number_above 44 run.x1 (omega arith) fits.x1))

no_comma : (b : ℕ) → 44 < b → eqb b comma ≡ false
no_comma b above = grind (arith, nat_tests)

no_commas : (runs : List Run) → AllByRecursion HasCoordinates runs
    → AllByRecursion (λ run. All (λ b. eqb b comma ≡ false) (run_text run)) runs
no_commas runs fit = each_weaker HasCoordinates (λ run. All (λ b. eqb b comma ≡ false) (run_text run))
    (λ run fits. none_pass (λ b. eqb b comma) 44 no_comma (run_text run) (run_above run fits)) runs fit

runs_above : (runs : List Run) → AllByRecursion HasCoordinates runs
    → AllByRecursion (λ run. Above 32 (run_text run)) runs
runs_above runs fit = each_weaker HasCoordinates (λ run. Above 32 (run_text run))
    (λ run fits. above_less 32 44 (run_text run) (omega arith) (run_above run fits)) runs fit

-- runs that are written are read
pub runs_read : (runs : List Run) → 0 < length runs → AllByRecursion HasCoordinates runs
    → runs_of (shape_text (Runs runs)) ≡ Some runs
unfolding runs_of
runs_read [] some fit = absurd (omega arith)
runs_read (run ∷ runs) some fit =
    ap each_run (split_joined run_text (λ b. eqb b comma) comma refl run runs (no_commas (run ∷ runs) fit))
    ∙ each_read (run ∷ runs) fit

-- ---- discs

-- a disc that is written is read
pub disc_read : (x y r : ℕ) → x ≤ 65535 → y ≤ 65535 → r ≤ 255 → disc_of (shape_text (Disc x y r)) ≡ Some (Disc x y r)
unfolding disc_of disc_round
disc_read x y r fits_x fits_y small =
    let row = cut_read colon (decimal y) (decimal x ++ plus ∷ decimal r) (decimal_apart colon y refl fits_y) refl in
    let column = cut_read plus (decimal x) (decimal r) (decimal_apart plus x refl fits_x) refl in
    rw (row, column, coordinate_read y fits_y, coordinate_read x fits_x, coordinate_read r (omega arith)) refl

-- ---- both

number_some : (n : ℕ) (rest : List ℕ) → n ≤ 65535 → 0 < length (decimal n ++ rest)
number_some n rest le = omega (arith, length-append (decimal n) rest, decimal_nonempty n (omega arith))

run_some : (run : Run) (rest : List ℕ) → HasCoordinates run → 0 < length (run_text run ++ rest)
run_some run rest fits =
    omega (
      arith,
      length-append (run_text run) rest,
      number_some run.y (colon ∷ (decimal run.x0 ++ dash ∷ decimal run.x1)) fits.y,
    )

-- what is written of a shape is a word
pub shape_word : (shape : Shape) → IsCanonicalShape shape → ShapeHasCoordinates shape → IsWord (shape_text shape)
shape_word (Runs []) canonical fit = absurd (omega (arith, canonical.0))
shape_word (Runs (run ∷ runs)) canonical fit = record {
  some = run_some run _ fit.0;
  above = joined_above run_text (λ b. eqb b comma) comma refl 32 run runs (omega arith) (runs_above (run ∷ runs) fit);
}
shape_word (Disc x y r) canonical fit = record {
  some = number_some y (colon ∷ (decimal x ++ plus ∷ decimal r)) fit.1;
  above = before_sign 32 colon y (decimal x ++ plus ∷ decimal r) (omega arith) (omega arith) fit.1
      (before_sign 32 plus x (decimal r) (omega arith) (omega arith) fit.0
      (number_above 32 r (omega arith) (omega (arith, canonical))));
}
