-- What a core's refusal is to its replica, and to its world.
use Rattle.std.proofs.Common.{◌≡◌, ◌⊎◌, ℕ, subst, ap, inl, inr}
use Rattle.stroke_lattice.specs.State.{State}
use Rattle.core_rules.specs.{declared.error.CoreError.CoreError, Work.Core, Merge.IsRefused, Merge.IsAcceptable}
use Rattle.replica_world.specs.{World.World, World.IsReplica, World.core_at, Events.IsRefusal}
use Rattle.core_rules.specs.declared.error.CoreError.TheVariants as errors
use Rattle.replica_world.specs.declared.error.WorldError.TheVariants as world_errors
use Rattle.replica_world.specs.declared.event.Event.TheVariants as events

-- the same core refuses the delta, or memory ran out where it would take it
pub not_taken : (core same : Core) (delta : State) (why : CoreError) → core ≡ same
    → IsRefused core delta why ⊎ ((why ≡ errors.Memory) × IsAcceptable core delta)
    → IsRefused same delta why ⊎ ((why ≡ errors.Memory) × IsAcceptable same delta)
not_taken core same delta why equal answer =
    subst (λ k. IsRefused k delta why ⊎ ((why ≡ errors.Memory) × IsAcceptable k delta)) equal answer

-- an edit that the core refuses, or within which memory ran out
pub edit_refused : (world after : World) (r : ℕ) (delta : State) (why : CoreError) → IsReplica world r
    → IsRefused (core_at world r) delta why ⊎ ((why ≡ errors.Memory) × IsAcceptable (core_at world r) delta)
    → after ≡ world
    → IsRefusal world (events.Edit r delta) (world_errors.Core why) after
edit_refused world after r delta why within (inl refused) same = inl ((within, refused), same)
edit_refused world after r delta why within (inr (memory, acceptable)) same =
    inr (ap (λ (e : CoreError). world_errors.Core e) memory, (within, acceptable, same))
