-- A merge answers with a conflict exactly where the states clash.
use Rattle.std.proofs.Common.{◌≡◌, ℕ, ap, subst, arith, Result, Ok, Err, IsErrOf, ◌↔◌, IsErrAnd}
use Rattle.stroke_lattice.specs.State.{State, IsLeastClash, AreCompatible}
use Rattle.stroke_lattice.specs.{Change.Turnover, declared.error.StateError.StateError}
use Rattle.stroke_lattice.specs.declared.error.StateError.TheVariants as errors

one_tag : (a b : ℕ) → IsErrOf {T = Turnover} (Err (errors.Conflict a)) (errors.Conflict b) → a ≡ b
one_tag a b e = cc

pub conflict_is_least : (s delta : State) (found : ℕ) → IsLeastClash s delta found → (tag : ℕ)
    → IsErrOf {T = Turnover} (Err (errors.Conflict found)) (errors.Conflict tag) ↔ IsLeastClash s delta tag
conflict_is_least s delta found least tag = (
  λ e. subst (IsLeastClash s delta) (one_tag found tag e) least,
  λ other.
      let same : found ≡ tag = omega (arith, least.1 tag other.0, other.1 found least.0) in
      let answer : ℕ → Result Turnover StateError = λ t. Err (errors.Conflict t) in
      ap answer same,
)

no_conflict : (e : StateError) (tag : ℕ) → e ≡ errors.Memory → IsErrOf {T = Turnover} (Err e) (errors.Conflict tag)
    → ⊥
no_conflict e tag memory conflict = cc

pub memory_is_no_conflict : (r : Result Turnover StateError) (s delta : State) → AreCompatible s delta
    → IsErrAnd r (λ e. e ≡ errors.Memory) → (tag : ℕ) → IsErrOf r (errors.Conflict tag) ↔ IsLeastClash s delta tag
memory_is_no_conflict (Ok x) s delta compatible memory tag = absurd memory
memory_is_no_conflict (Err e) s delta compatible memory tag = (
  λ conflict. absurd (no_conflict e tag memory conflict),
  λ clash. absurd (compatible tag clash.0),
)
