-- The laws of one replica's core, as statements. Public functions have them as their contracts.
use Rattle.std.specs.Prelude.{◌≡◌, ℕ, ◌+◌, ◌≤◌, Bool, max, List, [], ◌∷◌, ◌++◌, length, Option, Some, None}
use Rattle.grid_core.specs.{declared.pixel.Pixel.Pixel, declared.conn.Conn.Conn, Raster.Raster, Raster.IsFilled}
use Rattle.grid_core.specs.{Path.Domain, Tiles.IsTiled, Reconstruction.IsLawful}
use Rattle.marker_tiles.specs.Marker.{IsMarker}
use Rattle.tile_generations.specs.{Generations.max_generation, declared.ticket.Ticket.Ticket}
use Rattle.tile_generations.specs.Jobs.{Job, Swept, IsSwept}
use Rattle.core_rules.specs.{declared.step.Step.Step, Image.IsSupported, declared.answers.Back.Back}
use Rattle.core_rules.specs.{declared.answers.Handed.Handed, Opening.opened, Hits.IsInTile, Hits.IsHit}
use Rattle.core_rules.specs.{declared.error.CoreError.CoreError, Sweeps.IsTaken, Sweeps.IsGivenBack, Sweeps.IsAbandoned}
use Rattle.core_rules.specs.{Hints.IsHanded, declared.answers.Back.TheVariants.Joined, InPlace.IsSweptInPlace}
use Rattle.core_rules.specs.{Shown.IsPassedOver, Shown.ShowsTheSame, Invariant.IsSound, Invariant.HasLawfulImage}
use Rattle.core_rules.specs.{Invariant.HasReconstruction}
use Rattle.core_rules.specs.Work.{Core, domain, tiling, mask_at, image_at, IsTile, work_at, IsQuiet}
use Rattle.core_rules.specs.Merge.{IsMerged, IsRefused, IsAcceptable, AreTaken}
use Rattle.core_rules.specs.Events.{Event, Answer, Happens, Take, GiveBack, OfTake, OfGiveBack}
use Rattle.core_rules.specs.Runs.{Entry, IsRun, IsNext, IsWorkedOff, IsSettled, IsCutShort, jobs_of, abandons_of}
use Rattle.core_rules.specs.Runs.{IsSettling, NoneOut, IsDirty, tickets_out}
use Rattle.core_rules.specs.Schedule.{Progress, started, AreSteps, AreEditsAt}
use Rattle.core_rules.specs.Counting.{Owes, merges_of, IsWithinWork, tiles_out}
use Rattle.stroke_lattice.specs.{State.State, State.IsJoinOf, Change.Turnover, Change.IsChange}

-- a supported image is lawful
abbrev pub SupportedIsLawful : Type 0
SupportedIsLawful =
    (d : Domain) (mask marker j : Pixel → ℕ) → IsSupported d mask marker j → IsLawful d mask marker j

-- handing over a hint keeps a core sound
abbrev pub HandKeepsSound : Type 0
HandKeepsSound =
    (before after : Core) (t place : ℕ) (handed : Handed) → IsSound before → IsHanded before t place handed after
    → IsSound after

-- taking a tile keeps a core sound
abbrev pub TakeKeepsSound : Type 0
TakeKeepsSound =
    (before after : Core) (t : ℕ) (job : Option Job) → IsSound before → IsTaken before t job after → IsSound after

-- abandoning a job keeps a core sound
abbrev pub AbandonKeepsSound : Type 0
AbandonKeepsSound =
    (before after : Core) (ticket : Ticket) (was_out : Bool) → IsSound before
    → IsAbandoned before ticket was_out after
    → IsSound after

-- giving back a swept tile keeps a core sound
abbrev pub GiveBackKeepsSound : Type 0
GiveBackKeepsSound =
    (before after : Core) (swept : Swept) (back : Back) → IsSound before → IsSwept swept
    → IsGivenBack before swept back after
    → IsSound after

-- taking a delta keeps a core sound
abbrev pub MergeKeepsSound : Type 0
MergeKeepsSound =
    (before after : Core) (delta : State) (turnover : Turnover) → IsSound before
    → IsMerged before delta turnover after
    → IsSound after

-- a sound core has a lawful image
abbrev pub SoundIsLawful : Type 0
SoundIsLawful = (core : Core) → IsSound core → HasLawfulImage core

-- where a sound core is quiet, its image is the reconstruction
abbrev pub QuietIsReconstruction : Type 0
QuietIsReconstruction = (core : Core) → IsSound core → IsQuiet core → HasReconstruction core

-- each event keeps a core sound
abbrev pub EventKeepsSound : Type 0
EventKeepsSound =
    (before after : Core) (event : Event) (answer : Answer) → IsSound before → Happens before event answer after
    → IsSound after

-- each list of events keeps a core sound
abbrev pub RunKeepsSound : Type 0
RunKeepsSound = (before after : Core) (log : List Entry) → IsSound before → IsRun before log after → IsSound after

-- events that come after other events are one list of events with them
abbrev pub RunsFollow : Type 0
RunsFollow =
    (a b c : Core) (first second : List Entry) → IsRun a first b → IsRun b second c → IsRun a (first ++ second) c

-- settling is a list of events
abbrev pub SettlingIsARun : Type 0
SettlingIsARun = (before after : Core) (log : List Entry) → IsSettled before log after → IsRun before log after

-- settling that ended for want of memory is a list of events
abbrev pub CutShortIsARun : Type 0
CutShortIsARun = (before after : Core) (log : List Entry) → IsCutShort before log after → IsRun before log after

-- the steps of a schedule make a list of events
abbrev pub ScheduleIsARun : Type 0
ScheduleIsARun =
    (start : Core) (steps : List Step) (end : Progress) → AreSteps steps (started start) end
    → IsRun start end.log end.core

-- a core as it is opened is sound
abbrev pub OpenedIsSound : Type 0
OpenedIsSound =
    (mask : Raster) (conn : Conn) (side first : ℕ) → IsFilled mask
    → IsTiled (record { width = mask.width; height = mask.height; side = side }) → first ≤ max_generation
    → IsSound (opened mask conn side first)

-- a core as it is opened is quiet
abbrev pub OpenedIsQuiet : Type 0
OpenedIsQuiet = (mask : Raster) (conn : Conn) (side first : ℕ) → IsQuiet (opened mask conn side first)

-- a merge advances the generation of each tile that is hit
abbrev pub HitTilesAdvance : Type 0
HitTilesAdvance =
    (before after : Core) (delta : State) (turnover : Turnover) → IsMerged before delta turnover after
    → (t : ℕ) → IsTile before t → IsHit before after.state t
    → (work_at after t).generation ≡ (work_at before t).generation + 1

-- a merge advances the generation of no tile that is not hit
abbrev pub OtherTilesStay : Type 0
OtherTilesStay =
    (before after : Core) (delta : State) (turnover : Turnover) → IsMerged before delta turnover after
    → (t : ℕ) → IsTile before t → (IsHit before after.state t → ⊥)
    → (work_at after t).generation ≡ (work_at before t).generation

-- a merge makes each pixel of a tile that is not hit the greater of itself and the new marker
abbrev pub OtherTilesRise : Type 0
OtherTilesRise =
    (before after : Core) (delta : State) (turnover : Turnover) → IsMerged before delta turnover after
    → (t : ℕ) → IsTile before t → (IsHit before after.state t → ⊥)
    → (marker : Pixel → ℕ) → IsMarker (domain before) (mask_at before) after.state marker
    → (p : Pixel) → IsInTile (tiling before) t p → image_at after p ≡ max (image_at before p) (marker p)

-- where no stroke dies, no tile is hit
abbrev pub NoDeathHitsNone : Type 0
NoDeathHitsNone =
    (before : Core) (after : State) (turnover : Turnover) → IsChange before.state after turnover
    → turnover.dead ≡ []
    → (t : ℕ) → IsHit before after t → ⊥

-- the strokes at the end of a schedule are the join of those at the start and of the deltas that were accepted
abbrev pub ScheduleJoins : Type 0
ScheduleJoins =
    (start : Core) (steps : List Step) (end : Progress) → AreSteps steps (started start) end
    → IsJoinOf (start.state ∷ end.merged) end.core.state

-- the edits of a schedule that were accepted are the steps of those numbers, with those deltas
abbrev pub AcceptedAreEdits : Type 0
AcceptedAreEdits =
    (start : Core) (steps : List Step) (end : Progress) → AreSteps steps (started start) end
    → AreEditsAt steps end.accepted end.merged

-- a delta that is taken could be
abbrev pub MergedIsAcceptable : Type 0
MergedIsAcceptable =
    (before after : Core) (delta : State) (turnover : Turnover) → IsMerged before delta turnover after
    → IsAcceptable before delta

-- a delta that is refused could not be taken
abbrev pub RefusedIsNotAcceptable : Type 0
RefusedIsNotAcceptable =
    (core : Core) (delta : State) (why : CoreError) → IsRefused core delta why → IsAcceptable core delta → ⊥

-- a delta is refused for one reason
abbrev pub OneRefusal : Type 0
OneRefusal =
    (core : Core) (delta : State) (why other : CoreError) → IsRefused core delta why → IsRefused core delta other
    → why ≡ other

-- an event has one answer, and leads to one core
abbrev pub OneSuccessor : Type 0
OneSuccessor =
    (core a b : Core) (event : Event) (x y : Answer) → IsSound core → Happens core event x a → Happens core event y b
    → (x ≡ y) × (a ≡ b)

-- where the tile is the next to be taken, sweeping it in place is to take it, to sweep the job and to give that back
abbrev pub SweptInPlaceIsWorkedOff : Type 0
SweptInPlaceIsWorkedOff =
    (before after : Core) (t : ℕ) → IsSound before → IsNext before (Take t) → IsSweptInPlace before t after
    → (swept : Swept)
    × IsWorkedOff before ((Take t, OfTake (Some swept.job)) ∷ (GiveBack swept, OfGiveBack Joined) ∷ []) after

-- work that is done after other work is one list of events
abbrev pub WorkGoesOn : Type 0
WorkGoesOn =
    (a b c : Core) (first second : List Entry) → IsWorkedOff a first b → IsWorkedOff b second c
    → IsWorkedOff a (first ++ second) c

-- settling that goes on once no job is out is settling
abbrev pub SettlingGoesOn : Type 0
SettlingGoesOn =
    (a b c : Core) (first second : List Entry) → IsSettling a first b → NoneOut b → IsSettling b second c
    → IsSettling a (first ++ second) c

-- a merge changes only tiles that it leaves dirty
abbrev pub MergeChangesDirtyTiles : Type 0
MergeChangesDirtyTiles =
    (before after : Core) (delta : State) (turnover : Turnover) → IsMerged before delta turnover after
    → (t : ℕ) → IsTile before t → (IsDirty after t → ⊥) → ShowsTheSame before after t

-- a list of events changes only tiles of which a job was out before, or that it takes, or that it leaves dirty
abbrev pub RunChangesFewTiles : Type 0
RunChangesFewTiles =
    (before after : Core) (log : List Entry) → IsSound before → IsRun before log after
    → (t : ℕ) → (work_at before t).out ≡ None → IsPassedOver log after t → ShowsTheSame before after t

-- settling changes only tiles that it takes or leaves dirty
abbrev pub SettlingChangesFewTiles : Type 0
SettlingChangesFewTiles =
    (before after : Core) (log : List Entry) → IsSound before → IsSettling before log after
    → (t : ℕ) → IsPassedOver log after t → ShowsTheSame before after t

-- so does settling that ended for want of memory
abbrev pub CutShortChangesFewTiles : Type 0
CutShortChangesFewTiles =
    (before after : Core) (log : List Entry) → IsSound before → IsCutShort before log after
    → (t : ℕ) → IsPassedOver log after t → ShowsTheSame before after t

-- a core owes one number
abbrev pub OneDebt : Type 0
OneDebt = (core : Core) (n m : ℕ) → Owes core n → Owes core m → n ≡ m

-- where a sound core is quiet, it owes nothing
abbrev pub QuietOwesNothing : Type 0
QuietOwesNothing = (core : Core) → IsSound core → IsQuiet core → Owes core 0

-- a list of events without a merge takes no more jobs than there is work
abbrev pub RunIsWithinWork : Type 0
RunIsWithinWork =
    (before after : Core) (log : List Entry) → IsSound before → IsRun before log after → merges_of log ≡ 0
    → IsWithinWork before after (jobs_of log) (abandons_of log)

-- a schedule of which no edit is accepted takes no more jobs than there is work
abbrev pub ScheduleIsWithinWork : Type 0
ScheduleIsWithinWork =
    (start : Core) (steps : List Step) (end : Progress) → IsSound start → AreSteps steps (started start) end
    → end.accepted ≡ []
    → IsWithinWork start end.core (jobs_of end.log) (abandons_of end.log)

-- settling, as far as it came, took no more jobs than there was work
abbrev pub SettlingSoFarIsWithinWork : Type 0
SettlingSoFarIsWithinWork =
    (before after : Core) (log : List Entry) → IsSound before → IsSettling before log after
    → IsWithinWork before after (jobs_of log) (abandons_of log)

-- settling takes no more jobs than there is work, and leaves nothing owed
abbrev pub SettlingIsWithinWork : Type 0
SettlingIsWithinWork =
    (before after : Core) (log : List Entry) → IsSound before → IsSettled before log after
    → IsWithinWork before after (jobs_of log) (abandons_of log) × Owes after 0

-- as many jobs are out as tiles have one out
abbrev pub OneJobOutATile : Type 0
OneJobOutATile = (core : Core) → length (tickets_out 0 core.tiles) ≡ tiles_out core

-- the strokes of a core that took deltas are the join of those that it had and of the deltas
abbrev pub TakenDeltasAreJoined : Type 0
TakenDeltasAreJoined =
    (start core : Core) (deltas : List State) → AreTaken start deltas core → IsJoinOf (start.state ∷ deltas) core.state

-- its mask is the one that it had
abbrev pub TakenDeltasKeepTheMask : Type 0
TakenDeltasKeepTheMask =
    (start core : Core) (deltas : List State) → AreTaken start deltas core → core.mask ≡ start.mask
