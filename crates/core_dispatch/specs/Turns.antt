-- What a dispatcher's turn does.
use Rattle.std.specs.Prelude.{◌≡◌, ◌≤◌, ℕ, zero, suc, ◌+◌, ◌||◌, Bool, true, false, List, [], ◌∷◌, ◌++◌, length, Some}
use Rattle.core_rules.specs.{Work.Core, Sweeps.IsReady, Events.Take, Events.Abandon, Events.OfTake, Events.OfAbandon}
use Rattle.core_rules.specs.Runs.{Entry, IsRun, HasHints, jobs_of, abandons_of}
use Rattle.steal_pool.specs.{declared.report.Report.Report, Views.IsSamePool}
use Rattle.core_dispatch.specs.{declared.taken.Edits.Edits, Growing.GrowsOn, Pens.KeepsPens, Handing.HaveHanded}
use Rattle.core_dispatch.specs.{Handing.AreHands, Handing.Counts, Taking.IsRound, Taking.HaveTakenEdits}
use Rattle.core_dispatch.specs.{Taking.AreMerges, declared.turned.Turned.Turned, declared.turned.Results.Results}
use Rattle.core_dispatch.specs.{declared.turned.Jobs.Jobs, Dispatching.Dispatcher}
use Rattle.core_dispatch.specs.{Reports.HaveCollected, Reports.Leads, Jobs.HavePushed, Jobs.with_core}

-- in this order: each pen had one turn; each hand was asked for a report; each hint that waited was handed over; and
-- each tile that was dirty and not out was taken, to be pushed
pub record HasTurned (old : Dispatcher) (turned : Turned) (new : Dispatcher) : Type 0 where
  pub edits : Edits
  pub results : Results
  pub jobs : Jobs
  pub edited : Dispatcher
  pub collected : Dispatcher
  pub handed : Dispatcher
  pub round : IsRound old.books edits edited.books
  pub takes : HaveTakenEdits old.books edits.edits edited.books
  pub other : edited ≡ record old { books = edited.books }
  pub collects : HaveCollected edited results collected
  pub hands : HaveHanded collected.books.core turned.hints handed.books.core
  pub rest : handed ≡ with_core collected handed.books.core
  pub pushes : HavePushed handed jobs new
  pub counts : (turned.edits ≡ edits.edits) × (turned.results ≡ results.results) × (turned.jobs ≡ jobs.jobs)
  pub memory : turned.memory ≡ (edits.memory || (results.memory || jobs.memory))

-- in this order: each pen had one turn; each hand was asked for a report; and each hint that waited was handed over
pub record HasTakenIn (old : Dispatcher) (taken : Turned) (new : Dispatcher) : Type 0 where
  pub edits : Edits
  pub results : Results
  pub edited : Dispatcher
  pub collected : Dispatcher
  pub round : IsRound old.books edits edited.books
  pub takes : HaveTakenEdits old.books edits.edits edited.books
  pub other : edited ≡ record old { books = edited.books }
  pub collects : HaveCollected edited results collected
  pub hands : HaveHanded collected.books.core taken.hints new.books.core
  pub rest : new ≡ with_core collected new.books.core
  pub counts : (taken.edits ≡ edits.edits) × (taken.results ≡ results.results) × (taken.jobs ≡ 0)
  pub memory : taken.memory ≡ (edits.memory || results.memory)

-- the events that so many reports lead to, one report after another
abbrev pub AreOfReports : ℕ → List Entry → Type 0
AreOfReports zero log = log ≡ []
AreOfReports (suc n) log =
    (report : Report) × (wanting : Bool) × (first rest : List Entry) × Leads report wanting first
    × (log ≡ first ++ rest) × AreOfReports n rest

-- each of the events takes the job of a tile, or abandons a job that was not pushed
abbrev pub AreOfJobs : List Entry → Type 0
AreOfJobs [] = Unit {0}
AreOfJobs ((Take t, OfTake (Some job)) ∷ log) = AreOfJobs log
AreOfJobs ((Abandon ticket, OfAbandon true) ∷ log) = AreOfJobs log
AreOfJobs (entry ∷ log) = ⊥

-- what a turn did to the core is a list of its events, in this order: merges, what the reports lead to, hints that are
-- handed over, and jobs that are taken, those that were not pushed being abandoned
pub record AreEvents (before : Core) (turned : Turned) (after : Core) : Type 0 where
  pub merges : List Entry
  pub reports : List Entry
  pub hands : List Entry
  pub takes : List Entry
  pub run : IsRun before (merges ++ (reports ++ (hands ++ takes))) after
  pub are_merges : AreMerges merges
  pub few_merges : length merges ≤ turned.edits
  pub are_reports : AreOfReports turned.results reports
  pub are_hands : AreHands hands
  pub count_hands : Counts turned.hints (length hands)
  pub are_takes : AreOfJobs takes
  pub count_takes : turned.jobs + abandons_of takes ≡ jobs_of takes

-- no edit was merged in the turn: each that was taken is listed with the refused ones
abbrev pub HasMergedNone : Dispatcher → Turned → Dispatcher → Type 0
HasMergedNone old turned new = length new.books.refusals ≡ length old.books.refusals + turned.edits

-- no edit was merged in the turn, no report came, and no hint waited
abbrev pub IsStill : Dispatcher → Turned → Dispatcher → Type 0
IsStill old turned new = HasMergedNone old turned new × (turned.results ≡ 0) × (turned.hints ≡ 0)

-- a turn was taken: what it did is a list of the core's events. Afterwards no hint waits, and where memory was not
-- wanting each dirty tile is out, or as many jobs were pushed as surely find a place. Strokes only join; where no edit
-- was merged they are as before, and where besides nothing else happened the image is. The strokes at opening, the
-- pool's capacity and hands, and the pens' desks stay
pub record TakesTurn (old : Dispatcher) (turned : Turned) (new : Dispatcher) : Type 0 where
  pub turned_is : HasTurned old turned new
  pub events : AreEvents old.books.core turned new.books.core
  pub no_hints : (t : ℕ) → HasHints new.books.core t → ⊥
  pub all_out : turned.memory ≡ false → (t : ℕ) → IsReady new.books.core t
      → new.owner.capacity ≤ length new.owner.pushed
  pub grows : GrowsOn old.books.core new.books.core
  pub state : HasMergedNone old turned new → new.books.core.state ≡ old.books.core.state
  pub image : IsStill old turned new → new.books.core.image ≡ old.books.core.image
  pub opening : new.books.opening ≡ old.books.opening
  pub capacity : new.owner.capacity ≡ old.owner.capacity
  pub hands : IsSamePool old.owner new.owner
  pub pens : KeepsPens old.books new.books

-- the part of a turn before its jobs was taken: what it did is a list of the core's events, none of which takes a job.
-- Afterwards no hint waits. All else is as of a turn, and no job was pushed
pub record TakesIn (old : Dispatcher) (taken : Turned) (new : Dispatcher) : Type 0 where
  pub taken_is : HasTakenIn old taken new
  pub events : AreEvents old.books.core taken new.books.core
  pub no_hints : (t : ℕ) → HasHints new.books.core t → ⊥
  pub grows : GrowsOn old.books.core new.books.core
  pub state : HasMergedNone old taken new → new.books.core.state ≡ old.books.core.state
  pub image : IsStill old taken new → new.books.core.image ≡ old.books.core.image
  pub opening : new.books.opening ≡ old.books.opening
  pub pushed : new.owner.pushed ≡ old.owner.pushed
  pub capacity : new.owner.capacity ≡ old.owner.capacity
  pub hands : IsSamePool old.owner new.owner
  pub pens : KeepsPens old.books new.books
