-- Lists of events, one after another.
use Rattle.std.specs.Prelude.{◌≡◌, ℕ, ◌+◌, ◌≤◌, ◌⊎◌, List, [], ◌∷◌, ◌++◌, length}
use Rattle.replica_world.specs.{declared.error.WorldError.WorldError, declared.event.Event.Event, World.World}
use Rattle.replica_world.specs.Events.{IsDone, IsTurnedDown, IsCutOff}
use Rattle.core_rules.specs.declared.error.CoreError.TheVariants as core_errors
use Rattle.replica_world.specs.declared.error.WorldError.TheVariants as errors

-- a refusal: the number of the event in its list, counted from 0, and the reason
abbrev pub Refusal : Type 0
Refusal = ℕ × WorldError

-- the events are brought to an end, one after another, of which the first has this number: each comes to pass, or is
-- refused, which is listed and leaves the world as it was
abbrev pub AreEvents : ℕ → List Event → World → List Refusal → World → Type 0
AreEvents n [] before refusals after = (refusals ≡ []) × (after ≡ before)
AreEvents n (event ∷ rest) before refusals after =
    ((next : World) × IsDone before event next × AreEvents (n + 1) rest next refusals after)
    ⊎ ((why : WorldError) × (more : List Refusal) × IsTurnedDown before event why × (refusals ≡ (n, why) ∷ more)
    × AreEvents (n + 1) rest before more after)

-- the whole list was run from the first world, with these refusals
pub record IsRun (before : World) (events : List Event) (refusals : List Refusal) (after : World) : Type 0 where
  pub reached : World
  pub are_events : AreEvents 0 events before refusals reached
  pub after_is : after ≡ record reached { steps = length events }

-- a run that memory cut short within an event: those before it were brought to an end, and their number is kept
pub record IsCutShort (before : World) (events : List Event) (after : World) : Type 0 where
  pub done : List Event
  pub event : Event
  pub rest : List Event
  pub parts : events ≡ done ++ event ∷ rest
  pub refusals : List Refusal
  pub reached : World
  pub are_events : AreEvents 0 done before refusals reached
  pub left : World
  pub cut_off : IsCutOff reached event left
  pub after_is : after ≡ record left { steps = length done }

-- a run that ended for want of memory: before its first event, where there were no places for the list of refusals, and
-- then nothing happened; or within an event
abbrev pub IsStopped : World → List Event → WorldError → World → Type 0
IsStopped before events why after =
    (why ≡ errors.Core core_errors.Memory)
    × (((1 ≤ length events) × (after ≡ record before { steps = 0 })) ⊎ IsCutShort before events after)

-- the event of this number leads from the one world to the other, and from the refusals before it to those then
pub record IsOnward (event : Event) (n : ℕ) (before : World) (refusals : List Refusal) (after : World)
    (more : List Refusal) : Type 0 where
  pub listed : List Refusal
  pub are_events : AreEvents n (event ∷ []) before listed after
  pub more_is : more ≡ refusals ++ listed
