-- Reports that are taken of hands, as events.
use Rattle.std.proofs.Common.{◌≡◌, ℕ, zero, suc, ◌+◌, true, false, Bool, List, [], ◌∷◌, ◌++◌, length, sym, refl, ap}
use Rattle.std.proofs.Common.{◌∙◌, subst, arith, Option, Some, None, sum_by}
use Rattle.std.proofs.lemmas.List.Sums.{sum_by-cons}
use Rattle.tile_generations.specs.{declared.ticket.Ticket.Ticket, Jobs.Swept}
use Rattle.core_rules.specs.{declared.answers.Back.Back, Work.Core, Runs.Entry, Runs.IsRun}
use Rattle.core_rules.specs.declared.answers.Back.TheVariants.{Joined, Again, Stale, Stranger}
use Rattle.core_rules.proofs.Running.{run_append}
use Rattle.steal_pool.specs.{declared.report.Report.Report, Views.OwnerView}
use Rattle.steal_pool.specs.declared.report.Report.TheVariants.{Done, Failed}
use Rattle.core_dispatch.specs.{Dispatching.Dispatcher, Turns.AreOfReports}
use Rattle.core_dispatch.specs.Reports.{IsDropped, IsAnswered, Leads, AreCollected, results_in}
use Rattle.core_dispatch.proofs.Growing.{AreNoMerges, no_merges_append}
use Rattle.core_dispatch.proofs.Around.{KeepsAround, around_itself, around_through}

-- so many reports were given to the core, one after another
pub record HaveReported (before : Core) (n : ℕ) (after : Core) : Type 0 where
  pub log : List Entry
  pub are_reports : AreOfReports n log
  pub run : IsRun before log after

pub reported : (hand : ℕ) (old : Dispatcher) (answers : List (Option Bool)) (new : Dispatcher)
    → AreCollected hand old answers new → HaveReported old.books.core (sum_by results_in answers) new.books.core
reported hand old [] new same =
    record { log = []; are_reports = refl; run = ap (λ (d : Dispatcher). d.books.core) same }
reported hand old (None ∷ answers) new (next, (same, none_left), rest) =
    let more = reported (hand + 1) next answers new rest in
    let counts = sum_by-cons results_in None answers in
    let count : sum_by results_in answers ≡ sum_by results_in (None ∷ answers) = omega (arith, counts) in
    subst (λ (n : ℕ). HaveReported old.books.core n new.books.core) count
    (subst (λ (d : Dispatcher). HaveReported d.books.core (sum_by results_in answers) new.books.core) same more)
reported hand old (Some wanting ∷ answers) new (next, (report, collected, judged, same), rest) =
    let more = reported (hand + 1) next answers new rest in
    let counts = sum_by-cons results_in (Some wanting) answers in
    let count : suc (sum_by results_in answers) ≡ sum_by results_in (Some wanting ∷ answers) =
    omega (arith, counts) in
    subst (λ (n : ℕ). HaveReported old.books.core n new.books.core) count (record {
      log = judged.log ++ more.log;
      are_reports = (report, wanting, judged.log, more.log, judged.leads, refl, more.are_reports);
      run =
          run_append old.books.core next.books.core new.books.core judged.log more.log judged.run more.run;
    })

-- taking reports leaves all else
pub collected_around : (hand : ℕ) (old : Dispatcher) (answers : List (Option Bool)) (new : Dispatcher)
    → AreCollected hand old answers new → KeepsAround old new
collected_around hand old [] new same = around_itself old new same
collected_around hand old (None ∷ answers) new (next, (same, none_left), rest) =
    around_through old next new (around_itself old next same)
    (collected_around (hand + 1) next answers new rest)
collected_around hand old (Some wanting ∷ answers) new (next, (report, collected, judged, same), rest) =
    let owner = collected.new_is in
    around_through old next new (record {
      rest = judged.rest;
      capacity = ap (λ (o : OwnerView). o.capacity) owner;
      pushed = let pushes = ap (λ (o : OwnerView). length o.pushed) owner in omega (arith, pushes);
      hands = record {
        deque = ap (λ (o : OwnerView). o.deque) owner;
        rings = ap (λ (o : OwnerView). o.rings) owner;
      };
    })
    (collected_around (hand + 1) next answers new rest)

-- taking reports pushes no job
pub collected_pushes_none : (hand : ℕ) (old : Dispatcher) (answers : List (Option Bool)) (new : Dispatcher)
    → AreCollected hand old answers new → new.owner.pushed ≡ old.owner.pushed
collected_pushes_none hand old [] new same = ap (λ (d : Dispatcher). d.owner.pushed) same
collected_pushes_none hand old (None ∷ answers) new (next, (same, none_left), rest) =
    collected_pushes_none (hand + 1) next answers new rest ∙ ap (λ (d : Dispatcher). d.owner.pushed) same
collected_pushes_none hand old (Some wanting ∷ answers) new (next, (report, collected, judged, same), rest) =
    collected_pushes_none (hand + 1) next answers new rest ∙ ap (λ (o : OwnerView). o.pushed) collected.new_is

-- ---- no merges

dropped_no_merges : (ticket : Ticket) (log : List Entry) → IsDropped ticket log → AreNoMerges log
dropped_no_merges ticket log (was_out, is) = subst AreNoMerges (sym is) tt

answered_no_merges : (swept : Swept) (back : Back) (log : List Entry) → IsAnswered swept back log → AreNoMerges log
answered_no_merges swept Joined log is = subst AreNoMerges (sym is) tt
answered_no_merges swept Again log is = subst AreNoMerges (sym is) tt
answered_no_merges swept Stale log is = subst AreNoMerges (sym is) tt
answered_no_merges swept Stranger log (was_out, is) = subst AreNoMerges (sym is) tt

led_no_merges : (report : Report) (wanting : Bool) (log : List Entry) → Leads report wanting log → AreNoMerges log
led_no_merges (Failed ticket) wanting log (none, dropped) = dropped_no_merges ticket log dropped
led_no_merges (Done swept) true log dropped = dropped_no_merges swept.job.ticket log dropped
led_no_merges (Done swept) false log (back, answered) = answered_no_merges swept back log answered

-- no report leads to a merge
pub reports_no_merges : (n : ℕ) (log : List Entry) → AreOfReports n log → AreNoMerges log
reports_no_merges zero log none = subst AreNoMerges (sym none) tt
reports_no_merges (suc n) log (report, wanting, first, rest, leads, parts, more) =
    subst AreNoMerges (sym parts)
    (no_merges_append first rest (led_no_merges report wanting first leads) (reports_no_merges n rest more))
