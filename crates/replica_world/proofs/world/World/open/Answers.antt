use Rattle.std.proofs.Common.{arith, inl, inr, Err, IfErr, IsErrAnd, IsErrOf, Ok, Result, ◌↔◌, ◌≡◌, ◌⊎◌}
use Rattle.std.proofs.lemmas.Result.{IfOk-from_err}
use Rattle.core_rules.specs.declared.error.CoreError.TheVariants as core_errors
use Rattle.replica_world.specs.declared.error.WorldError.{WorldError}
use Rattle.replica_world.specs.declared.error.WorldError.TheVariants.{Core, NoSuch}
use Rattle.replica_world.proofs.world.World.open.Goals as goal

-- memory ran out, and nothing else went wrong
no_such : {T : Type 0} (r : Result T WorldError) (P : Type 0) → IsErrAnd r (λ e. e ≡ Core core_errors.Memory)
    → (P → ⊥) → IsErrOf r NoSuch ↔ P
no_such (Ok x) P found never = absurd found
no_such (Err e) P found never = ((λ same. absurd cc), λ p. absurd (never p))

memory_alone : {T : Type 0} (r : Result T WorldError) → IsErrAnd r (λ e. e ≡ Core core_errors.Memory)
    → IfErr r (λ e. (e ≡ NoSuch) ⊎ (e ≡ Core core_errors.Memory))
memory_alone (Ok x) found = absurd found
memory_alone (Err e) found = inr found

pub returns-in_err-open_replicas-clause-value : goal.returns-in_err-open_replicas-clause-value
returns-in_err-open_replicas-clause-value c = IfOk-from_err _ _ c.from_residual.ensures.0

pub returns-in_err-open_replicas-clause-count : goal.returns-in_err-open_replicas-clause-count
returns-in_err-open_replicas-clause-count c = no_such _ _ c.from_residual.ensures.1
    (λ out. elim out [ inl none ↦ absurd (omega arith) | inr many ↦ absurd (omega arith) ])

pub returns-in_err-open_replicas-clause-others : goal.returns-in_err-open_replicas-clause-others
returns-in_err-open_replicas-clause-others c = memory_alone _ c.from_residual.ensures.1

pub returns-clause-count : goal.returns-clause-count
returns-clause-count c = (
  (λ same. absurd cc),
  λ out. elim out [ inl none ↦ absurd (omega arith) | inr many ↦ absurd (omega arith) ],
)
