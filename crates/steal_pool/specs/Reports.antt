-- What a hand reports of the jobs that it got, and what its turns do.
use Rattle.std.specs.Prelude.{◌≡◌, ◌≤◌, ◌⊎◌, ℕ, Bool, true, false, List, [], ◌∷◌, ◌++◌, length, None, IsSome}
use Rattle.std.specs.List.{AllZip}
use mathlib.Core.Option.{some}
use lib.ListN.{get_elem?}
use Rattle.tile_generations.specs.{declared.ticket.Ticket.Ticket, Jobs.Job, Jobs.Swept}
use Rattle.steal_pool.specs.{declared.report.Report.Report, declared.report.Turn.Turn}
use Rattle.steal_pool.specs.declared.report.Report.TheVariants.{Done, Failed}
use Rattle.steal_pool.specs.Views.{HandView, OwnerView, reports, ring_room}
use Rattle.steal_pool.specs.declared.report.Turn.TheVariants as turn

-- the report of a job that was got at some place: Done, and swept was that very job with its ticket, connectivity, base
-- and mask; or Failed, with the ticket of the job
abbrev pub IsReportOf : ℕ × Job → Report → Type 0
IsReportOf got (Done swept) = swept.job ≡ got.1
IsReportOf got (Failed ticket) = ticket ≡ got.1.ticket

-- the report is of a job that the owner pushed: that very job was swept, or there was no memory to sweep the job of
-- this ticket
abbrev pub IsOfPushed : OwnerView → Report → Type 0
IsOfPushed owner report =
    (k : ℕ) × (job : Job) × (get_elem? owner.pushed k ≡ some job) × IsReportOf (k, job) report

-- each job that was got has its report, in the order in which they were got, and there are no other reports
abbrev pub AreReported : List (ℕ × Job) → List Report → Type 0
AreReported got given = AllZip IsReportOf got given

-- one job was got, and its report stands after all that were reported before
pub record Works (old : HandView) (ticket : Ticket) (report : Report) (new : HandView) : Type 0 where
  pub place : ℕ
  pub job : Job
  pub got : new.got ≡ old.got ++ (place, job) ∷ []
  pub ticket_is : job.ticket ≡ ticket
  pub reported : IsReportOf (place, job) report
  pub added : reports new ≡ reports old ++ report ∷ []

-- one job was got and reported, whatever came of it
abbrev pub WorksSomehow : HandView → HandView → Type 0
WorksSomehow old new = (ticket : Ticket) × (report : Report) × Works old ticket report new

-- what a turn did, by its answer.
-- Worked, Failed: one job was got, and its report was sent after all others, so that none is held
-- Idle: no job was got, and all reports are sent
-- RingFull: a report is held at the end, no place in the ring was seen to be free, and a ring's room of reports was
-- sent. At most one job was got
abbrev pub IsTurn : HandView → Turn → HandView → Type 0
IsTurn old (turn.Worked ticket) new = (swept : Swept) × Works old ticket (Done swept) new × (new.held ≡ None)
IsTurn old (turn.Failed ticket) new = Works old ticket (Failed ticket) new × (new.held ≡ None)
IsTurn old turn.Idle new = (new.got ≡ old.got) × (new.sent ≡ reports old) × (new.held ≡ None)
IsTurn old turn.RingFull new =
    IsSome new.held × (new.free ≡ 0) × (ring_room ≤ length new.sent) × ((new ≡ old) ⊎ WorksSomehow old new)

-- what turns did that followed one another, by their answers
abbrev pub AreTurns : HandView → List Turn → HandView → Type 0
AreTurns old [] new = new ≡ old
AreTurns old (answer ∷ answers) new = (between : HandView) × IsTurn old answer between × AreTurns between answers new

-- one turn was made; or none, where the flag was read as set
abbrev pub IsStep : HandView → Bool → HandView → Type 0
IsStep old true new = new ≡ old
IsStep old false new = (answer : Turn) × IsTurn old answer new
