-- What the part of a turn before its jobs does.
use Rattle.std.proofs.Common.{◌≡◌, ℕ, ◌+◌, Bool, List, [], ◌∷◌, ◌++◌, length, sym, refl, ap, ◌∙◌, subst, inl, inr, arith}
use Rattle.std.proofs.lemmas.List.{length-append}
use Rattle.core_rules.specs.{Work.Core, Runs.Entry, Runs.IsRun, Runs.jobs_of, Runs.abandons_of}
use Rattle.core_rules.specs.Events.{Hand, OfHand}
use Rattle.core_rules.proofs.Running.{run_append}
use Rattle.steal_pool.specs.Views.{IsSamePool}
use Rattle.core_dispatch.specs.{declared.refusal.Refusal.Refusal, Books.BooksView, Handing.AreHands, Handing.Counts}
use Rattle.core_dispatch.specs.{declared.turned.Turned.Turned, Dispatching.Dispatcher, Growing.GrowsOn}
use Rattle.core_dispatch.specs.Turns.{AreEvents, AreOfJobs, AreOfReports, HasMergedNone, HasTakenIn, IsStill}
use Rattle.core_dispatch.proofs.Growing.{AreNoMerges, no_merges_append, run_grows, run_is_steady}
use Rattle.core_dispatch.proofs.Around.{KeepsAround, around_core, around_through}
use Rattle.core_dispatch.proofs.Reported.{HaveReported, collected_around, collected_pushes_none, reported}
use Rattle.core_dispatch.proofs.Reported.{reports_no_merges}

hands_no_merges : (log : List Entry) → AreHands log → AreNoMerges log
hands_no_merges [] none = tt
hands_no_merges ((Hand t place, OfHand handed) ∷ log) more = hands_no_merges log more.1
hands_no_merges (entry ∷ log) more = absurd more

nothing_happens : (before : Core) (log : List Entry) (after : Core) → log ≡ [] → IsRun before log after
    → after ≡ before
nothing_happens before log after none run = subst (λ (l : List Entry). IsRun before l after) none run

none_long : (log : List Entry) → length log ≡ 0 → log ≡ []
none_long [] none = refl
none_long (entry ∷ log) none = absurd (omega arith)

none_counted : (count n : ℕ) → Counts count n → count ≡ 0 → n ≡ 0
none_counted count n (inl same) none = omega (arith, same, none)
none_counted count n (inr (full, many)) none = absurd (omega (arith, full, none))

module _ (old : Dispatcher) (taken : Turned) (new : Dispatcher) (h : HasTakenIn old taken new) where
  reports : HaveReported h.edited.books.core h.results.results h.collected.books.core
  reports =
      subst (λ (n : ℕ). HaveReported h.edited.books.core n h.collected.books.core) (sym h.collects.count)
      (reported 0 h.edited h.collects.answers h.collected h.collects.collected)

  -- before such events
  run_after_edits : (takes : List Entry) (last : Core) → IsRun new.books.core takes last
      → IsRun h.edited.books.core (reports.log ++ (h.hands.log ++ takes)) last
  run_after_edits takes last run =
      run_append h.edited.books.core h.collected.books.core last reports.log (h.hands.log ++ takes) reports.run
      (run_append h.collected.books.core new.books.core last h.hands.log takes h.hands.run run)

  -- with jobs that are taken behind it
  pub events_before : (jobs : ℕ) (wanting : Bool) (takes : List Entry) (last : Core) → AreOfJobs takes
      → jobs + abandons_of takes ≡ jobs_of takes → IsRun new.books.core takes last
      → AreEvents old.books.core (record taken { jobs = jobs; memory = wanting }) last
  events_before jobs wanting takes last are_jobs count run = record {
    merges = h.takes.log;
    reports = reports.log;
    hands = h.hands.log;
    takes = takes;
    run =
        run_append old.books.core h.edited.books.core last h.takes.log (reports.log ++ (h.hands.log ++ takes))
        h.takes.run (run_after_edits takes last run);
    are_merges = h.takes.merges;
    few_merges = let all = h.takes.all in let edits = h.counts.0 in omega (arith, all, edits);
    are_reports = subst (λ (n : ℕ). AreOfReports n reports.log) (sym h.counts.1) reports.are_reports;
    are_hands = h.hands.are_hands;
    count_hands = h.hands.count;
    are_takes = are_jobs;
    count_takes = count;
  }

  pub taken_events : AreEvents old.books.core taken new.books.core
  taken_events =
      events_before taken.jobs taken.memory [] new.books.core tt (let none = h.counts.2 in omega (arith, none)) refl

  pub taken_grows : GrowsOn old.books.core new.books.core
  taken_grows =
      run_grows old.books.core
      (taken_events.merges ++ (taken_events.reports ++ (taken_events.hands ++ taken_events.takes))) new.books.core
      taken_events.run

  -- ---- all else

  pub taken_around : KeepsAround h.edited new
  taken_around =
      around_through h.edited h.collected new
      (collected_around 0 h.edited h.collects.answers h.collected h.collects.collected)
      (around_core h.collected new h.rest)

  pub taken_opening : new.books.opening ≡ old.books.opening
  taken_opening = ap (λ (b : BooksView). b.opening) taken_around.rest ∙ h.takes.opening

  pub taken_capacity : new.owner.capacity ≡ old.owner.capacity
  taken_capacity = taken_around.capacity ∙ ap (λ (d : Dispatcher). d.owner.capacity) h.other

  pub taken_hands : IsSamePool old.owner new.owner
  taken_hands = record {
    deque = taken_around.hands.deque ∙ ap (λ (d : Dispatcher). d.owner.deque) h.other;
    rings = taken_around.hands.rings ∙ ap (λ (d : Dispatcher). d.owner.rings) h.other;
  }

  pub taken_pushed : new.owner.pushed ≡ old.owner.pushed
  taken_pushed =
      ap (λ (d : Dispatcher). d.owner.pushed) h.rest
      ∙ collected_pushes_none 0 h.edited h.collects.answers h.collected h.collects.collected
      ∙ ap (λ (d : Dispatcher). d.owner.pushed) h.other

  -- ---- where no edit was merged

  unmerged : HasMergedNone old taken new → h.edited.books.core ≡ old.books.core
  unmerged none =
      let refusals : new.books.refusals ≡ old.books.refusals ++ h.takes.listed =
      ap (λ (b : BooksView). b.refusals) taken_around.rest ∙ h.takes.refusals in
      let longer = ap (λ (l : List Refusal). length l) refusals in
      let lengths = length-append old.books.refusals h.takes.listed in
      let empty : length h.takes.log ≡ 0 = omega (arith, longer, lengths, h.takes.all, h.counts.0, none) in
      nothing_happens old.books.core h.takes.log h.edited.books.core (none_long h.takes.log empty) h.takes.run

  pub taken_state : HasMergedNone old taken new → new.books.core.state ≡ old.books.core.state
  taken_state none =
      let no_merges = no_merges_append reports.log (h.hands.log ++ [])
      (reports_no_merges h.results.results reports.log reports.are_reports)
      (no_merges_append h.hands.log [] (hands_no_merges h.hands.log h.hands.are_hands) tt) in
      let keeps = run_is_steady h.edited.books.core (reports.log ++ (h.hands.log ++ [])) new.books.core no_merges
      (run_after_edits [] new.books.core refl) in
      keeps.state ∙ ap (λ (c : Core). c.state) (unmerged none)

  pub taken_image : IsStill old taken new → new.books.core.image ≡ old.books.core.image
  taken_image (none, no_reports, no_hints) =
      let empty : AreOfReports 0 reports.log =
      subst (λ (n : ℕ). AreOfReports n reports.log) (sym h.counts.1 ∙ no_reports) reports.are_reports in
      let collected =
      nothing_happens h.edited.books.core reports.log h.collected.books.core empty reports.run in
      let handed =
      nothing_happens h.collected.books.core h.hands.log new.books.core
      (none_long h.hands.log (none_counted taken.hints (length h.hands.log) h.hands.count no_hints)) h.hands.run in
      ap (λ (c : Core). c.image) (handed ∙ (collected ∙ unmerged none))
