-- Why a run has no studio.
use Rattle.std.proofs.Common.{arith, ◌≡◌, ℕ, refl, ◌↔◌}
use Rattle.run_faults.specs.declared.run_error.RunError.TheVariants.{Studio}
use Rattle.studio.specs.{Opening.IsCount, Opening.AreCounts, declared.refused.OpenError.OpenError}
use Rattle.node_session.specs.Shared.{StudioFails, opening_fault}
use Rattle.run_faults.specs.declared.run_error.StudioFault.TheVariants as faults
use Rattle.studio.specs.declared.refused.OpenError.TheVariants as opening

one : IsCount 1
one = (omega arith, omega arith)

-- with one pen and one eye the counts are refused for the hands alone
pub opening_fails : (hands : ℕ) (error : OpenError) → (error ≡ opening.BadCounts) ↔ (AreCounts 1 hands 1 → ⊥)
    → StudioFails hands (Studio (opening_fault error))
opening_fails hands opening.BadCounts counts =
    (faults.BadCounts, refl, (λ _ is. counts.0 refl (one, is, one), λ none. refl))
opening_fails hands error counts = (
  opening_fault error,
  refl,
  (
    λ is count. cc,
    λ none. let same : error ≡ opening.BadCounts = counts.1 (λ all. none all.1) in cc,
  ),
)
