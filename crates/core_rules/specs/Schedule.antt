-- Schedules: lists of steps, of which each takes, gives back, abandons, hands over or edits.
use Rattle.std.specs.Prelude.{◌≡◌, ℕ, ◌+◌, ◌<◌, ◌≤◌, ◌⊎◌, List, [], ◌∷◌, ◌++◌, length, Option, Some, None, slice_get}
use Rattle.stroke_lattice.specs.{State.State, Change.Turnover}
use Rattle.tile_generations.specs.Jobs.{Job, Swept, IsSwept}
use Rattle.core_rules.specs.{declared.error.CoreError.CoreError, declared.step.Step.Step, Work.Core, Merge.IsRefused}
use Rattle.core_rules.specs.{Merge.IsAcceptable, Sweeps.IsReady, Runs.Entry, Runs.jobs_of, Runs.abandons_of}
use Rattle.core_rules.specs.Events.{Event, Answer, Happens, Merge, Take, GiveBack, Abandon, Hand, OfMerge, OfTake}
use Rattle.core_rules.specs.declared.step.Step.TheVariants as steps

-- how far a schedule has come: the number of steps, the core, the results so far, the events, the numbers of the edits
-- that were accepted, with their deltas, and of those that were refused, with the reasons
pub record Progress : Type 0 where
  pub count : ℕ
  pub core : Core
  pub results : List Swept
  pub log : List Entry
  pub accepted : List ℕ
  pub merged : List State
  pub refused : List (ℕ × CoreError)

-- at the start nothing has happened
abbrev pub started : Core → Progress
started core = record {
  count = 0;
  core = core;
  results = [];
  log = [];
  accepted = [];
  merged = [];
  refused = [];
}

-- a step that names nothing is passed over
abbrev pub passed : Progress → Progress
passed a = record a { count = a.count + 1 }

-- one event happens
abbrev pub after_event : Progress → Core → Event → Answer → Progress
after_event a core event answer =
    record a { count = a.count + 1; core = core; log = a.log ++ (event, answer) ∷ [] }

-- the event happens in this step
abbrev pub IsEventOf : Progress → Event → Progress → Type 0
IsEventOf a event b =
    (answer : Answer) × Happens a.core event answer b.core × (b ≡ after_event a b.core event answer)

-- the edit is accepted
abbrev pub IsAccepted : State → Progress → Progress → Type 0
IsAccepted delta a b =
    (turnover : Turnover) × Happens a.core (Merge delta) (OfMerge turnover) b.core
    × (b ≡ record (after_event a b.core (Merge delta) (OfMerge turnover)) {
      accepted = a.accepted ++ a.count ∷ [];
      merged = a.merged ++ delta ∷ [];
    })

-- the edit is refused, and the core stays
abbrev pub IsTurnedDown : State → Progress → Progress → Type 0
IsTurnedDown delta a b =
    (why : CoreError) × IsRefused a.core delta why
    × (b ≡ record (passed a) { refused = a.refused ++ (a.count, why) ∷ [] })

-- what a take adds to the results: the job that it gave, swept
abbrev pub IsAdded : Option Job → List Swept → Type 0
IsAdded None more = more ≡ []
IsAdded (Some job) more = (swept : Swept) × IsSwept swept × (swept.job ≡ job) × (more ≡ swept ∷ [])

-- a tile is taken, and the job swept
abbrev pub IsTake : ℕ → Progress → Progress → Type 0
IsTake t a b =
    (job : Option Job) × (more : List Swept) × Happens a.core (Take t) (OfTake job) b.core × IsAdded job more
    × (b ≡ record (after_event a b.core (Take t) (OfTake job)) { results = a.results ++ more })

-- an event that is made of a result; where there is no such result, the step is passed over
abbrev pub IsOfResult : ℕ → (Swept → Event) → Progress → Progress → Type 0
IsOfResult j event a b =
    ((swept : Swept) × (slice_get a.results j ≡ Some swept) × IsEventOf a (event swept) b)
    ⊎ ((slice_get a.results j ≡ None) × (b ≡ passed a))

-- what one step does
abbrev pub IsStep : Step → Progress → Progress → Type 0
IsStep (steps.Edit delta) a b = IsAccepted delta a b ⊎ IsTurnedDown delta a b
IsStep (steps.Take t) a b = IsTake t a b
IsStep (steps.Return j) a b = IsOfResult j (λ swept. GiveBack swept) a b
IsStep (steps.Abandon j) a b = IsOfResult j (λ swept. Abandon swept.job.ticket) a b
IsStep (steps.Hand t place) a b = IsEventOf a (Hand t place) b

-- step after step
abbrev pub AreSteps : List Step → Progress → Progress → Type 0
AreSteps [] a b = b ≡ a
AreSteps (step ∷ rest) a b = (next : Progress) × IsStep step a next × AreSteps rest next b

-- ---- want of memory

-- how many of the steps are edits
abbrev pub edits_of : List Step → ℕ
edits_of [] = 0
edits_of (steps.Edit delta ∷ rest) = 1 + edits_of rest
edits_of (_ ∷ rest) = edits_of rest

-- memory ran out within the step: only within an edit whose delta would else be taken, the take of a tile that can be
-- taken, and the return of a result that is there. The core stays, but a take may have spent a serial
abbrev pub IsCutOff : Core → List Swept → Step → Core → Type 0
IsCutOff before results (steps.Edit delta) after = IsAcceptable before delta × (after ≡ before)
IsCutOff before results (steps.Take t) after =
    IsReady before t × (after ≡ record before { serial = after.serial })
IsCutOff before results (steps.Return j) after = (j < length results) × (after ≡ before)
IsCutOff before results _ after = ⊥

-- a schedule that ended for want of memory within a step, after those before it
pub record IsCutShort (start : Core) (steps : List Step) (after : Core) : Type 0 where
  pub done : List Step
  pub step : Step
  pub rest : List Step
  pub parts : steps ≡ done ++ step ∷ rest
  pub reached : Progress
  pub are_steps : AreSteps done (started start) reached
  pub cut_off : IsCutOff reached.core reached.results step after

-- a schedule that ended for want of memory: before its first step, where its edits found no place in the lists of those
-- that are accepted and refused; or within a step
abbrev pub IsStopped : Core → List Step → Core → Type 0
IsStopped start steps after = ((1 ≤ edits_of steps) × (after ≡ start)) ⊎ IsCutShort start steps after

-- what a schedule answers: how many takes gave a job, how many jobs were abandoned, and the numbers of the edits that
-- were accepted and refused
pub record Ran : Type 0 where
  pub jobs : ℕ
  pub abandons : ℕ
  pub accepted : List ℕ
  pub refused : List (ℕ × CoreError)

abbrev pub ran_of : Progress → Ran
ran_of a = record {
  jobs = jobs_of a.log;
  abandons = abandons_of a.log;
  accepted = a.accepted;
  refused = a.refused;
}

-- the steps of these numbers are edits, with these deltas
abbrev pub AreEditsAt : List Step → List ℕ → List State → Type 0
AreEditsAt all [] [] = Unit {0}
AreEditsAt all (n ∷ numbers) (delta ∷ deltas) =
    (slice_get all n ≡ Some (steps.Edit delta)) × AreEditsAt all numbers deltas
AreEditsAt all _ _ = ⊥
