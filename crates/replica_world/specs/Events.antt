-- What each event does to a world, and why one is refused.
use Rattle.std.specs.Prelude.{◌≡◌, ℕ, ◌<◌, ◌⊎◌, List, [], ◌∷◌, ◌++◌, length, Option, Some, slice_get}
use Rattle.stroke_lattice.specs.{State.State, Change.Turnover, Pieces.pieces_of}
use Rattle.spd_codec.specs.declared.version.Version.TheVariants.{Second}
use Rattle.spd_codec.specs.Spelling.{frame_text, Spells, max_bytes}
use Rattle.tile_generations.specs.Jobs.{Job, Swept}
use Rattle.core_rules.specs.{declared.error.CoreError.CoreError, Work.Core, Work.IsTile, Work.work_at, Merge.IsRefused}
use Rattle.core_rules.specs.{Merge.IsAcceptable, Sweeps.IsReady, Sweeps.IsTaken, Schedule.IsAdded}
use Rattle.core_rules.specs.Events.{Event as CoreEvent, Answer, Happens, Merge, Take, GiveBack, Abandon, Hand, OfMerge}
use Rattle.core_rules.specs.Events.{OfTake}
use Rattle.replica_world.specs.{declared.error.WorldError.WorldError, declared.event.Event.Event}
use Rattle.replica_world.specs.World.{World, IsReplica, core_at, with_core, with_taken}
use Rattle.core_rules.specs.declared.error.CoreError.TheVariants as core_errors
use Rattle.replica_world.specs.declared.error.WorldError.TheVariants as errors
use Rattle.replica_world.specs.declared.event.Event.TheVariants as events

-- ---- what an event names

-- the packet of this number spells the delta, for the world's connectivity and mask
abbrev pub Carries : World → ℕ → State → Type 0
Carries world k delta =
    (packet : List ℕ) × (slice_get world.packets k ≡ Some packet) × Spells packet world.conn world.print delta

-- each number of the event names something: a replica, and a piece of its strokes, a packet, a tile of its image, a
-- result, or a hint that waits at a tile
abbrev pub IsNamed : World → Event → Type 0
IsNamed world (events.Edit r delta) = IsReplica world r
IsNamed world (events.Send r part) =
    IsReplica world r × (part < length (pieces_of max_bytes (core_at world r).state))
IsNamed world (events.Deliver r k) = IsReplica world r × (k < length world.packets)
IsNamed world (events.Take r t) = IsReplica world r × IsTile (core_at world r) t
IsNamed world (events.Return r j) = IsReplica world r × (j < length world.results)
IsNamed world (events.Abandon r j) = IsReplica world r × (j < length world.results)
IsNamed world (events.Hand r t i) =
    IsReplica world r × IsTile (core_at world r) t × (i < length (work_at (core_at world r) t).inbox)

-- ---- what an event does

-- a delta is merged into the replica's core, and counts among those that the replica took
abbrev pub IsTakenIn : World → ℕ → State → World → Type 0
IsTakenIn before r delta after =
    (turnover : Turnover) × (core : Core) × Happens (core_at before r) (Merge delta) (OfMerge turnover) core
    × (after ≡ with_taken before r core delta)

-- the event happens to the replica's core, and all else stays
abbrev pub MovesCore : World → ℕ → CoreEvent → World → Type 0
MovesCore before r event after =
    (answer : Answer) × (core : Core) × Happens (core_at before r) event answer core × (after ≡ with_core before r core)

-- the world with one packet more, the frame of the delta
abbrev pub with_frame : World → State → World
with_frame world delta =
    record world { packets = world.packets ++ frame_text Second world.conn world.print delta ∷ [] }

-- a packet is sent: the frame of this piece of the replica's strokes
abbrev pub IsSent : World → ℕ → ℕ → World → Type 0
IsSent before r part after =
    (piece : State) × (slice_get (pieces_of max_bytes (core_at before r).state) part ≡ Some piece)
    × (after ≡ with_frame before piece)

-- a tile of the core is taken; a job that this gives is swept, and its result comes behind the others
abbrev pub IsSweptInto : Core → ℕ → Core → List Swept → List Swept → Type 0
IsSweptInto before t after old new =
    (job : Option Job) × (more : List Swept) × IsTaken before t job after × IsAdded job more × (new ≡ old ++ more)

-- a tile of the replica is taken; a job that this gives is swept, and the result kept
abbrev pub IsTakenAndSwept : World → ℕ → ℕ → World → Type 0
IsTakenAndSwept before r t after =
    (job : Option Job) × (more : List Swept) × (core : Core)
    × Happens (core_at before r) (Take t) (OfTake job) core × IsAdded job more
    × (after ≡ record (with_core before r core) { results = before.results ++ more })

-- the event comes to pass
abbrev pub IsDone : World → Event → World → Type 0
IsDone before (events.Edit r delta) after = IsReplica before r × IsTakenIn before r delta after
IsDone before (events.Send r part) after = IsReplica before r × IsSent before r part after
IsDone before (events.Deliver r k) after =
    IsReplica before r × ((delta : State) × Carries before k delta × IsTakenIn before r delta after)
IsDone before (events.Take r t) after =
    IsReplica before r × IsTile (core_at before r) t × IsTakenAndSwept before r t after
IsDone before (events.Return r j) after =
    IsReplica before r × ((swept : Swept) × (slice_get before.results j ≡ Some swept)
    × MovesCore before r (GiveBack swept) after)
IsDone before (events.Abandon r j) after =
    IsReplica before r × ((swept : Swept) × (slice_get before.results j ≡ Some swept)
    × MovesCore before r (Abandon swept.job.ticket) after)
IsDone before (events.Hand r t i) after =
    IsNamed before (events.Hand r t i) × MovesCore before r (Hand t i) after

-- ---- why an event is refused

-- the replica's core refuses the delta for this reason
abbrev pub IsCoreRefusal : World → Event → CoreError → Type 0
IsCoreRefusal world (events.Edit r delta) why = IsReplica world r × IsRefused (core_at world r) delta why
IsCoreRefusal world (events.Deliver r k) why =
    IsReplica world r × ((delta : State) × Carries world k delta × IsRefused (core_at world r) delta why)
IsCoreRefusal world _ why = ⊥

-- the event is refused for this reason, want of memory aside: it names nothing, or the core refuses its delta
abbrev pub IsTurnedDown : World → Event → WorldError → Type 0
IsTurnedDown world event errors.NoSuch = IsNamed world event → ⊥
IsTurnedDown world event (errors.Core why) = IsCoreRefusal world event why

-- memory ran out within the event: the world is as it was, but that the serial of a core from which a job was taken may
-- have moved on. An edit that the core refuses is told so, whatever memory does; of a packet this is not known, since
-- to read it takes memory. To abandon a job and to hand over a hint takes none, nor does the take of a tile that gives
-- no job, nor a number of a replica, a packet or a result that names nothing
abbrev pub IsCutOff : World → Event → World → Type 0
IsCutOff before (events.Edit r delta) after =
    IsReplica before r × IsAcceptable (core_at before r) delta × (after ≡ before)
IsCutOff before (events.Send r part) after = IsReplica before r × (after ≡ before)
IsCutOff before (events.Deliver r k) after = IsNamed before (events.Deliver r k) × (after ≡ before)
IsCutOff before (events.Take r t) after =
    IsReplica before r × IsReady (core_at before r) t
    × ((serial : ℕ) × (after ≡ with_core before r (record (core_at before r) { serial = serial })))
IsCutOff before (events.Return r j) after = IsNamed before (events.Return r j) × (after ≡ before)
IsCutOff before _ after = ⊥

-- the event is refused for this reason, and the world afterwards is the second
abbrev pub IsRefusal : World → Event → WorldError → World → Type 0
IsRefusal before event why after =
    (IsTurnedDown before event why × (after ≡ before))
    ⊎ ((why ≡ errors.Core core_errors.Memory) × IsCutOff before event after)
