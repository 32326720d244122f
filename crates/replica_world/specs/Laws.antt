-- The laws of events, as statements. Public functions have them as their contracts.
use Rattle.std.specs.Prelude.{◌≡◌}
use Rattle.replica_world.specs.{declared.error.WorldError.WorldError, declared.event.Event.Event, World.World}
use Rattle.replica_world.specs.Events.{IsNamed, IsDone, IsTurnedDown}

-- each number of an event that comes to pass names something
abbrev pub DoneIsNamed : Type 0
DoneIsNamed = (before after : World) (event : Event) → IsDone before event after → IsNamed before event

-- an event that comes to pass could not be refused
abbrev pub DoneIsNotTurnedDown : Type 0
DoneIsNotTurnedDown =
    (before after : World) (event : Event) (why : WorldError) → IsDone before event after
    → IsTurnedDown before event why → ⊥

-- an event is refused for one reason
abbrev pub OneReason : Type 0
OneReason =
    (world : World) (event : Event) (why other : WorldError) → IsTurnedDown world event why
    → IsTurnedDown world event other → why ≡ other
