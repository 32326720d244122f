-- The tests of equality of runs, kinds and seeds, and the distance from the centre of a disc.
use Rattle.std.proofs.Common.{ℕ, ◌+◌, ◌*◌, ◌<◌, ◌⊎◌, inl, inr, nat_le, ◌≡◌, ◌&&◌, ◌==◌, IsTrue, List, refl, Bool, true}
use Rattle.std.proofs.Common.{false, true≢false, arith, ap, sym, ◌∙◌}
use Rattle.std.proofs.{lemmas.Bool.Decides.nat_tests, lemmas.Bool.lt-leb, lemmas.Nat.mul-lt}
use lib.Pointwise.{pointwise, pointwise_decides}
use Rattle.stroke_core.specs.{declared.kind.Kind.Kind, contracts.kind.KindPartialEq.TheImpl.eq-value}
use Rattle.stroke_core.specs.{declared.run.Run.Run}
use Rattle.stroke_core.specs.Seed.{Shape, Runs, Disc, Seed, kind_of, runs_of}
use Rattle.stroke_core.specs.declared.kind.Kind.TheVariants as kinds

-- what the derived `==` of runs computes
abbrev pub is_same_run : Run → Run → Bool
is_same_run a b = (a.y == b.y) && ((a.x0 == b.x0) && (a.x1 == b.x1))

-- runs with the same row and columns are equal
run_from_parts : (a b : Run) → a.y ≡ b.y → a.x0 ≡ b.x0 → a.x1 ≡ b.x1 → a ≡ b
run_from_parts a b y x0 x1 = λ i. record { y = y i; x0 = x0 i; x1 = x1 i }

-- where the test passes, the row and the columns are the same
parts_from_test : (a b : Run) → is_same_run a b ≡ true → (a.y ≡ b.y) × (a.x0 ≡ b.x0) × (a.x1 ≡ b.x1)
parts_from_test a b h = (grind (arith, nat_tests), grind (arith, nat_tests), grind (arith, nat_tests))

-- where the row and the columns are the same, the test passes
test_from_parts : (a b : Run) → a.y ≡ b.y → a.x0 ≡ b.x0 → a.x1 ≡ b.x1 → is_same_run a b ≡ true
test_from_parts a b y x0 x1 = grind (arith, nat_tests)

-- the test decides whether two runs are equal
pub is_same_run_decides : (a b : Run) → (is_same_run a b ≡ true → a ≡ b) × (a ≡ b → is_same_run a b ≡ true)
is_same_run_decides a b = (
  λ h. let parts = parts_from_test a b h in run_from_parts a b parts.0 parts.1 parts.2,
  λ e. test_from_parts a b (ap (λ (r : Run). r.y) e) (ap (λ (r : Run). r.x0) e) (ap (λ (r : Run). r.x1) e),
)

-- where the derived `==` of kinds passes, the kinds are equal
pub kind_from_test : (a b : Kind) → eq-value.it a b ≡ true → a ≡ b
kind_from_test kinds.Runs kinds.Runs h = refl
kind_from_test kinds.Runs (kinds.Disc x y r) h = absurd (true≢false (sym h))
kind_from_test (kinds.Disc x y r) kinds.Runs h = absurd (true≢false (sym h))
kind_from_test (kinds.Disc x y r) (kinds.Disc a b c) h =
    let test : ((x == a) && ((y == b) && (r == c))) ≡ true = h in
    let same_x : x ≡ a = grind (arith, nat_tests) in
    let same_y : y ≡ b = grind (arith, nat_tests) in
    let same_r : r ≡ c = grind (arith, nat_tests) in
    λ i. kinds.Disc (same_x i) (same_y i) (same_r i)

-- the shape of a kind and of runs
shape_from : Kind → List Run → Shape
shape_from kinds.Runs runs = Runs runs
shape_from (kinds.Disc x y r) runs = Disc x y r

-- a shape is decided by its kind and its runs
shape_of_its_parts : (a : Shape) → shape_from (kind_of a) (runs_of a) ≡ a
unfolding shape_from
shape_of_its_parts (Runs runs) = refl
shape_of_its_parts (Disc x y r) = refl

-- shapes of the same kind and with the same runs are equal
shape_from_parts : (a b : Shape) → kind_of a ≡ kind_of b → runs_of a ≡ runs_of b → a ≡ b
shape_from_parts a b kind runs =
    sym (shape_of_its_parts a) ∙ (λ i. shape_from (kind i) (runs i)) ∙ shape_of_its_parts b

-- seeds of one level and kind are equal exactly where their runs are
pub same_at_runs : (s t : Seed) → s.level ≡ t.level → kind_of s.shape ≡ kind_of t.shape
    → (IsTrue (pointwise is_same_run (runs_of s.shape) (runs_of t.shape)) → s ≡ t)
    × (s ≡ t → IsTrue (pointwise is_same_run (runs_of s.shape) (runs_of t.shape)))
same_at_runs s t level kind =
    let decides = pointwise_decides is_same_run_decides (runs_of s.shape) (runs_of t.shape) in (
      λ test.
          let shape = shape_from_parts s.shape t.shape kind (decides.0 test) in
          (λ i. record { level = level i; shape = shape i }),
      λ e. decides.1 (ap (λ (x : Seed). runs_of x.shape) e),
    )

-- a pixel that is further away than the radius in one coordinate is not in the disc
pub far_in_one_coordinate : (dx dy r : ℕ) → (r < dx) ⊎ (r < dy) → false ≡ nat_le (dx * dx + dy * dy) (r * r)
far_in_one_coordinate dx dy r far =
    sym (lt-leb (dx * dx + dy * dy) (r * r) (elim far [
      | inl h ↦ let further : r * r < dx * dx = mul-lt r r dx dx h h in omega arith
      | inr h ↦ let further : r * r < dy * dy = mul-lt r r dy dy h h in omega arith
    ]))
