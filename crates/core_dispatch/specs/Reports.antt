-- What becomes of the reports that are taken of hands.
use Rattle.std.specs.Prelude.{◌≡◌, ℕ, ◌+◌, Bool, true, false, List, [], ◌∷◌, length, Option, Some, None, IsTrue, sum_by}
use Rattle.std.specs.List.{list_any}
use Rattle.tile_generations.specs.{declared.ticket.Ticket.Ticket, Jobs.Swept}
use Rattle.core_rules.specs.{declared.answers.Back.Back, Work.Core, Runs.Entry, Runs.IsRun}
use Rattle.core_rules.specs.declared.answers.Back.TheVariants.{Joined, Again, Stale, Stranger}
use Rattle.core_rules.specs.Events.{GiveBack, Abandon, OfGiveBack, OfAbandon}
use Rattle.reset_core.specs.Answers.{IsJoinable}
use Rattle.steal_pool.specs.{declared.report.Report.Report, Views.HasCollected, Views.waiting_of}
use Rattle.steal_pool.specs.declared.report.Report.TheVariants.{Done, Failed}
use Rattle.core_dispatch.specs.Books.{BooksView, KeepsRest}
use Rattle.core_dispatch.specs.{declared.turned.Results.Results, Dispatching.Dispatcher}

-- the job of the ticket is abandoned, if it is out
abbrev pub IsDropped : Ticket → List Entry → Type 0
IsDropped ticket log = (was_out : Bool) × (log ≡ (Abandon ticket, OfAbandon was_out) ∷ [])

-- the swept tile is given back with this answer. One that is none of the core's is abandoned, too
abbrev pub IsAnswered : Swept → Back → List Entry → Type 0
IsAnswered swept Joined log = log ≡ (GiveBack swept, OfGiveBack Joined) ∷ []
IsAnswered swept Again log = log ≡ (GiveBack swept, OfGiveBack Again) ∷ []
IsAnswered swept Stale log = log ≡ (GiveBack swept, OfGiveBack Stale) ∷ []
IsAnswered swept Stranger log =
    (was_out : Bool)
    × (log ≡ (GiveBack swept, OfGiveBack Stranger) ∷ (Abandon swept.job.ticket, OfAbandon was_out) ∷ [])

-- what a swept tile leads to, where memory was wanting and where it was not
abbrev pub LeadsTo : Swept → Bool → List Entry → Type 0
LeadsTo swept true log = IsDropped swept.job.ticket log
LeadsTo swept false log = (back : Back) × IsAnswered swept back log

-- what a report leads to: a job that failed is abandoned
abbrev pub Leads : Report → Bool → List Entry → Type 0
Leads (Failed ticket) wanting log = (wanting ≡ false) × IsDropped ticket log
Leads (Done swept) wanting log = LeadsTo swept wanting log

-- memory can be wanting only for a swept tile that could be joined
abbrev pub CanWant : Core → Report → Type 0
CanWant core (Failed ticket) = ⊥
CanWant core (Done swept) = IsJoinable core swept.job

-- the swept tile was given to the core, by such events alone
pub record IsGivenOver (old : BooksView) (swept : Swept) (wanting : Bool) (new : BooksView) : Type 0 where
  pub log : List Entry
  pub leads : LeadsTo swept wanting log
  pub run : IsRun old.core log new.core
  pub memory : IsTrue wanting → IsJoinable old.core swept.job
  pub rest : KeepsRest old new

-- the report was given to the core, by such events alone
pub record IsJudged (old : BooksView) (report : Report) (wanting : Bool) (new : BooksView) : Type 0 where
  pub log : List Entry
  pub leads : Leads report wanting log
  pub run : IsRun old.core log new.core
  pub memory : IsTrue wanting → CanWant old.core report
  pub rest : KeepsRest old new

-- the hand was asked for a report: there was none, and none that was seen in its ring is left; or there was one, which
-- was collected and given to the core, and memory was wanting for that or not
abbrev pub IsCollected : ℕ → Dispatcher → Option Bool → Dispatcher → Type 0
IsCollected hand old None new = (new ≡ old) × (waiting_of new.owner hand ≡ [])
IsCollected hand old (Some wanting) new =
    (report : Report) × HasCollected old.owner hand report new.owner × IsJudged old.books report wanting new.books
    × (new ≡ record old { books = new.books; owner = new.owner })

-- the hands, from the one of this number on, were asked for a report each, in order, and this is what they answered
abbrev pub AreCollected : ℕ → Dispatcher → List (Option Bool) → Dispatcher → Type 0
AreCollected hand old [] new = new ≡ old
AreCollected hand old (answer ∷ answers) new =
    (next : Dispatcher) × IsCollected hand old answer next × AreCollected (hand + 1) next answers new

-- how many reports were taken
abbrev pub results_in : Option Bool → ℕ
results_in None = 0
results_in (Some wanting) = 1

-- memory was wanting
abbrev pub is_wanting : Option Bool → Bool
is_wanting None = false
is_wanting (Some wanting) = wanting

-- each hand was asked for a report, and this is how many there were, and whether memory was wanting for one of them
pub record HaveCollected (old : Dispatcher) (results : Results) (new : Dispatcher) : Type 0 where
  pub answers : List (Option Bool)
  pub collected : AreCollected 0 old answers new
  pub all : length answers ≡ length old.owner.collected
  pub count : results.results ≡ sum_by results_in answers
  pub memory : results.memory ≡ list_any is_wanting answers
