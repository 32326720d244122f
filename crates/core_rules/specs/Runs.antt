-- Lists of events, and the one by which a core settles.
use Rattle.std.specs.Prelude.{◌≡◌, ◌≢◌, ℕ, ◌+◌, ◌≤◌, true, List, [], ◌∷◌, ◌++◌, map, length, IsTrue, Contains, Option}
use Rattle.std.specs.Prelude.{Some, None, option_map, option_to_list}
use Rattle.tile_generations.specs.{declared.ticket.Ticket.Ticket, Jobs.Job}
use Rattle.border_queues.specs.TileWork.{TileWork, IsLeast}
use Rattle.core_rules.specs.Work.{Core, IsTile, work_at, IsQuiet}
use Rattle.core_rules.specs.{Image.IsPart, Sweeps.tile_rect, Sweeps.IsOut}
use Rattle.core_rules.specs.Events.{Event, Answer, Happens, Take, GiveBack, Abandon, Hand, OfTake, OfAbandon}

-- an event, and what it answered
abbrev pub Entry : Type 0
Entry = Event × Answer

-- the events lead from the first core to the second, one after another
abbrev pub IsRun : Core → List Entry → Core → Type 0
IsRun before [] after = after ≡ before
IsRun before (entry ∷ log) after = (next : Core) × Happens before entry.0 entry.1 next × IsRun next log after

-- how many takes gave a job
abbrev pub jobs_of : List Entry → ℕ
jobs_of [] = 0
jobs_of ((Take t, OfTake (Some job)) ∷ log) = 1 + jobs_of log
jobs_of (entry ∷ log) = jobs_of log

-- the tiles of which takes gave jobs, each as often as one did
abbrev pub tiles_taken : List Entry → List ℕ
tiles_taken [] = []
tiles_taken ((Take t, OfTake (Some job)) ∷ log) = t ∷ tiles_taken log
tiles_taken (entry ∷ log) = tiles_taken log

-- a job of the tile is taken in the log
abbrev pub IsTakenIn : List Entry → ℕ → Type 0
IsTakenIn log t = Contains (tiles_taken log) t

-- how many jobs were abandoned
abbrev pub abandons_of : List Entry → ℕ
abandons_of [] = 0
abandons_of ((Abandon ticket, OfAbandon true) ∷ log) = 1 + abandons_of log
abandons_of (entry ∷ log) = abandons_of log

-- ---- settling

-- the ticket of the job that is out, if one is
abbrev pub ticket_out : ℕ → TileWork → Option Ticket
ticket_out t work = option_map (λ serial. record { tile = t; generation = work.generation; serial = serial }) work.out

-- the tickets of the jobs that are out, tile by tile, the first tile having this number
abbrev pub tickets_out : ℕ → List TileWork → List Ticket
tickets_out t [] = []
tickets_out t (work ∷ works) = option_to_list (ticket_out t work) ++ tickets_out (t + 1) works

-- these jobs are abandoned, one after another
abbrev pub abandoned : List Ticket → List Entry
abandoned tickets = map (λ ticket. (Abandon ticket, OfAbandon true)) tickets

-- no job is out
abbrev pub NoneOut : Core → Type 0
NoneOut core = (t : ℕ) → IsTile core t → (work_at core t).out ≡ None

-- a hint waits at the tile
abbrev pub HasHints : Core → ℕ → Type 0
HasHints core t = IsTile core t × ((work_at core t).inbox ≢ [])

-- the tile is dirty
abbrev pub IsDirty : Core → ℕ → Type 0
IsDirty core t = IsTile core t × IsTrue (work_at core t).dirty

-- the job is the one that is out, and its base and mask are the tile's
pub record IsJobOut (core : Core) (job : Job) : Type 0 where
  pub out : IsOut core job.ticket
  pub conn : job.conn ≡ core.conn
  pub base : IsPart (tile_rect core job.ticket.tile) core.image job.base
  pub mask : IsPart (tile_rect core job.ticket.tile) core.mask job.mask

-- which event comes next: the job that is out is given back; else the first hint of the first tile where one waits is
-- handed over; else the first dirty tile is taken
abbrev pub IsNext : Core → Event → Type 0
IsNext core (GiveBack swept) = IsJobOut core swept.job
IsNext core (Hand t place) = NoneOut core × IsLeast (HasHints core) t × (place ≡ 0)
IsNext core (Take t) = NoneOut core × ((u : ℕ) → HasHints core u → ⊥) × IsLeast (IsDirty core) t
IsNext core _ = ⊥

-- event after event, each the next one
abbrev pub IsWorkedOff : Core → List Entry → Core → Type 0
IsWorkedOff before [] after = after ≡ before
IsWorkedOff before (entry ∷ log) after =
    IsNext before entry.0 × ((next : Core) × Happens before entry.0 entry.1 next × IsWorkedOff next log after)

-- settling as far as these events: first each job that is out is abandoned, tile by tile, and then the work is done
pub record IsSettling (before : Core) (log : List Entry) (after : Core) : Type 0 where
  pub cleared : Core
  pub work : List Entry
  pub clears : IsRun before (abandoned (tickets_out 0 before.tiles)) cleared
  pub works : IsWorkedOff cleared work after
  pub parts : log ≡ abandoned (tickets_out 0 before.tiles) ++ work

-- settled: the events leave no work
pub record IsSettled (before : Core) (log : List Entry) (after : Core) : Type 0 where
  pub settling : IsSettling before log after
  pub quiet : IsQuiet after

-- settling that ended for want of memory: as far as some events, and the job in hand, if there was one, abandoned; it
-- ends so only where a tile has still to be swept
pub record IsCutShort (before : Core) (log : List Entry) (after : Core) : Type 0 where
  pub reached : Core
  pub done : List Entry
  pub in_hand : List Ticket
  pub settling : IsSettling before done reached
  pub drops : IsRun reached (abandoned in_hand) after
  pub at_most_one : length in_hand ≤ 1
  pub none_out : NoneOut after
  pub some_dirty : (t : ℕ) × IsDirty after t
  pub parts : log ≡ done ++ abandoned in_hand
