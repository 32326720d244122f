-- Jobs that were pushed stay genuine, whatever a dispatcher does.
use Rattle.std.proofs.Common.{◌≡◌, ℕ, zero, suc, ◌<◌, ◌≤◌, true, false, Bool, List, [], ◌∷◌, ◌++◌, refl, sym}
use Rattle.std.proofs.Common.{ap, ◌∙◌, subst, arith, inl, inr, Option, Some, Result, Ok, Err}
use mathlib.Core.Option.{some-ne-none, some-injective}
use lib.ListN.{get_elem?}
use Rattle.grid_core.specs.declared.memory.Memory.{Memory}
use Rattle.border_queues.specs.Laws.{EdgesAreOpen}
use Rattle.tile_generations.specs.{declared.ticket.Ticket.Ticket, Jobs.Job, Jobs.Swept}
use Rattle.core_rules.specs.declared.answers.Back.{Back}
use Rattle.core_rules.specs.declared.answers.Back.TheVariants.{Joined, Again, Stale, Stranger}
use Rattle.core_rules.specs.{Work.Core, Invariant.IsSound, Sweeps.IsTaken, Sweeps.IsAbandoned}
use Rattle.core_rules.specs.Events.{Merge, Hand, Abandon, OfHand, OfAbandon}
use Rattle.core_rules.specs.Runs.{Entry, IsRun, NoneOut, jobs_of}
use Rattle.reset_core.specs.declared.replica.settling.Slice.{Slice}
use Rattle.steal_pool.specs.{declared.report.Report.Report, Reports.IsOfPushed, Views.OwnerView}
use Rattle.steal_pool.specs.declared.report.Report.TheVariants.{Done, Failed}
use Rattle.tiled_core.specs.{Owning.IsOwn, Passing.ArePassedUntil}
use Rattle.tiled_core.proofs.Owning.{run_keeps_own, take_keeps_own, taken_is_own, none_out_is_own, skip_keeps_own}
use Rattle.tiled_core.proofs.Owning.{passing_keeps_own}
use Rattle.tiled_image.specs.Settling.{IsSettledFor}
use Rattle.core_dispatch.specs.declared.turned.Pushing.{Pushing}
use Rattle.core_dispatch.specs.declared.turned.Pushing.TheVariants.{Pushed, Refused, Wanting}
use Rattle.core_dispatch.specs.{Dispatching.Dispatcher, Jobs.IsPlaced}
use Rattle.core_dispatch.specs.{Books.BooksView, Genuine.AreGenuine, Genuine.IsOwnReport, Taking.HaveTakenEdits}
use Rattle.core_dispatch.specs.{Taking.AreMerges, Handing.HaveHanded, Handing.AreHands, Reports.IsJudged}
use Rattle.core_dispatch.specs.Reports.{IsDropped, IsAnswered, LeadsTo, Leads}

-- ---- events that take no job

merges_take_none : (log : List Entry) → AreMerges log → jobs_of log ≡ 0
merges_take_none [] none = refl
merges_take_none ((Merge delta, answer) ∷ log) more = merges_take_none log more
merges_take_none (entry ∷ log) more = absurd more

hands_take_none : (log : List Entry) → AreHands log → jobs_of log ≡ 0
hands_take_none [] none = refl
hands_take_none ((Hand t place, OfHand handed) ∷ log) more = hands_take_none log more.1
hands_take_none (entry ∷ log) more = absurd more

dropped_takes_none : (ticket : Ticket) (log : List Entry) → IsDropped ticket log → jobs_of log ≡ 0
dropped_takes_none ticket log (was_out, is) = ap jobs_of is

answered_takes_none : (swept : Swept) (back : Back) (log : List Entry) → IsAnswered swept back log → jobs_of log ≡ 0
answered_takes_none swept Joined log is = ap jobs_of is
answered_takes_none swept Again log is = ap jobs_of is
answered_takes_none swept Stale log is = ap jobs_of is
answered_takes_none swept Stranger log (was_out, is) = ap jobs_of is

leads_to_none : (swept : Swept) (wanting : Bool) (log : List Entry) → LeadsTo swept wanting log → jobs_of log ≡ 0
leads_to_none swept true log dropped = dropped_takes_none swept.job.ticket log dropped
leads_to_none swept false log (back, answered) = answered_takes_none swept back log answered

report_takes_none : (report : Report) (wanting : Bool) (log : List Entry) → Leads report wanting log → jobs_of log ≡ 0
report_takes_none (Failed ticket) wanting log (wants, dropped) = dropped_takes_none ticket log dropped
report_takes_none (Done swept) wanting log leads = leads_to_none swept wanting log leads

-- ---- what stays genuine

-- no job is genuine of no jobs
pub none_genuine : (core : Core) (bound : ℕ) (jobs : List Job) → jobs ≡ [] → AreGenuine core bound jobs
none_genuine core bound jobs none k job there =
    absurd (some-ne-none job (sym there ∙ ap (λ (js : List Job). get_elem? js k) none))

module _ (before after : Core) (bound : ℕ) (jobs : List Job) (genuine : AreGenuine before bound jobs) where
  kept : ((job : Job) → IsOwn before job → IsOwn after job) → AreGenuine after bound jobs
  kept own k job there = let is = genuine k job there in (own job is.0, is.1)

  pub by_run : EdgesAreOpen → IsSound before → (log : List Entry) → IsRun before log after → jobs_of log ≡ 0
      → AreGenuine after bound jobs
  by_run edges_open sound log run none =
      kept (λ job own. run_keeps_own edges_open before after log job sound run none own)

  pub by_hands : EdgesAreOpen → IsSound before → (hands : ℕ) → HaveHanded before hands after
      → AreGenuine after bound jobs
  by_hands edges_open sound hands handed =
      by_run edges_open sound handed.log handed.run (hands_take_none handed.log handed.are_hands)

  pub by_abandon : EdgesAreOpen → IsSound before → (ticket : Ticket) (was_out : Bool)
      → IsAbandoned before ticket was_out after → AreGenuine after bound jobs
  by_abandon edges_open sound ticket was_out abandoned =
      by_run edges_open sound ((Abandon ticket, OfAbandon was_out) ∷ []) (after, abandoned, refl) refl

  pub by_none_out : NoneOut after → AreGenuine after bound jobs
  by_none_out none = kept (λ job own. none_out_is_own after job none)

  pub by_passing : IsSound before → (from : ℕ) (answer : Option ℕ) → ArePassedUntil from answer before after
      → AreGenuine after bound jobs
  by_passing sound from answer passed =
      kept (λ job own. passing_keeps_own from answer before after job sound passed own)

  pub by_settling : (limit : ℕ) (answer : Result Slice Memory) → IsSettledFor before limit answer after
      → AreGenuine after bound jobs
  by_settling limit (Ok slice) settled = by_none_out settled.settled.none_out
  by_settling limit (Err memory) settled = elim settled.settled.cut_short [
    | inl same ↦ subst (λ (core : Core). AreGenuine core bound jobs) (sym same) genuine
    | inr none ↦ by_none_out none
  ]

  -- the job was taken and abandoned
  pub by_refusal : IsSound before → (t : ℕ) (job : Job) (between : Core) → IsTaken before t (Some job) between
      → IsAbandoned between job.ticket true after → AreGenuine after bound jobs
  by_refusal sound t job between taken abandoned =
      kept (λ other own. skip_keeps_own before after t other sound
      (record { job = job; between = between; is_taken = taken; is_abandoned = abandoned }) own)

  -- the job was taken and pushed
  pub by_push : IsSound before → (t : ℕ) (job : Job) (next : ℕ) → IsTaken before t (Some job) after
      → bound ≤ job.ticket.serial → job.ticket.serial < next → AreGenuine after next (jobs ++ job ∷ [])
  by_push sound t job next taken above below =
      let serial : Job → ℕ = λ (j : Job). j.ticket.serial in
      last jobs (λ k other there.
      let is = genuine k other there in
      let less : serial other < bound = is.1 in (
        take_keeps_own before after t job other sound taken
            (λ same. absurd (let no : serial other < serial other = omega (arith, less, above, same) in omega (arith, no)))
            is.0,
        omega (arith, less, above, below),
      )) (taken_is_own before after t job taken, below) where
        last : (those : List Job) → AreGenuine after next those → IsOwn after job × (job.ticket.serial < next)
            → AreGenuine after next (those ++ job ∷ [])
        last [] those more zero another there =
            subst (λ (own : Job). IsOwn after own × (own.ticket.serial < next)) (some-injective job another there) more
        last [] those more (suc k) another there = absurd (some-ne-none another (sym there))
        last (first ∷ rest) those more zero another there = those zero another there
        last (first ∷ rest) those more (suc k) another there =
            last rest (λ n own stands. those (suc n) own stands) more k another there

-- the bound may rise
raised : (core : Core) (bound next : ℕ) (jobs : List Job) → bound ≤ next → AreGenuine core bound jobs
    → AreGenuine core next jobs
raised core bound next jobs less genuine k job there =
    let is = genuine k job there in (is.0, let below = is.1 in omega (arith, below, less))

-- the job was taken, and pushed or abandoned
pub by_placing : (before : Core) (bound next t : ℕ) (job : Job) (old new : Dispatcher) (answer : Pushing)
    → IsSound before → AreGenuine before bound old.owner.pushed → IsTaken before t (Some job) old.books.core
    → IsPlaced old job answer new → bound ≤ job.ticket.serial → job.ticket.serial < next
    → AreGenuine new.books.core next new.owner.pushed
by_placing before bound next t job old new Pushed sound genuine taken same above below =
    subst (λ (d : Dispatcher). AreGenuine d.books.core next d.owner.pushed) (sym same)
    (by_push before old.books.core bound old.owner.pushed genuine sound t job next taken above below)
by_placing before bound next t job old new Refused sound genuine taken (abandoned, same, full) above below =
    subst (λ (jobs : List Job). AreGenuine new.books.core next jobs)
    (sym (ap (λ (d : Dispatcher). d.owner.pushed) same))
    (raised new.books.core bound next old.owner.pushed (omega (arith, above, below))
    (by_refusal before new.books.core bound old.owner.pushed genuine sound t job old.books.core taken abandoned))
by_placing before bound next t job old new Wanting sound genuine taken placed above below = absurd placed

pub by_edits : EdgesAreOpen → (old new : BooksView) (bound : ℕ) (jobs : List Job) (edits : ℕ) → IsSound old.core
    → HaveTakenEdits old edits new → AreGenuine old.core bound jobs → AreGenuine new.core bound jobs
by_edits edges_open old new bound jobs edits sound taken genuine =
    by_run old.core new.core bound jobs genuine edges_open sound taken.log taken.run
    (merges_take_none taken.log taken.merges)

pub by_report : EdgesAreOpen → (old new : BooksView) (bound : ℕ) (jobs : List Job) (report : Report) (wanting : Bool)
    → IsSound old.core → IsJudged old report wanting new → AreGenuine old.core bound jobs
    → AreGenuine new.core bound jobs
by_report edges_open old new bound jobs report wanting sound judged genuine =
    by_run old.core new.core bound jobs genuine edges_open sound judged.log judged.run
    (report_takes_none report wanting judged.log judged.leads)

-- ---- what comes back

-- a report of a job that was pushed is of one of the core's own
pub own_report : (core : Core) (bound : ℕ) (owner : OwnerView) (report : Report) → AreGenuine core bound owner.pushed
    → IsOfPushed owner report → IsOwnReport core report
own_report core bound owner (Done swept) genuine (k, job, there, is) =
    subst (λ (j : Job). IsOwn core j) (sym is) (genuine k job there).0
own_report core bound owner (Failed ticket) genuine of_pushed = tt
