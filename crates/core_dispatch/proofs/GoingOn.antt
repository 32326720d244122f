-- Dispatchers that go on.
use Rattle.std.proofs.Common.{◌≡◌, ℕ, ◌+◌, List, [], ◌++◌, refl, ap, ◌∙◌, Result, Ok, Err, OnOk, IfErr}
use Rattle.core_rules.proofs.Running.{run_append}
use Rattle.core_dispatch.specs.{Books.BooksView, Pens.KeepsPens, Taking.HaveTakenEdits}
use Rattle.core_dispatch.specs.{Dispatching.Dispatcher, declared.turned.Results.Results}
use Rattle.core_dispatch.specs.{Reports.HaveCollected, declared.error.CloseError.CloseError, declared.pen.PenEnd.PenEnd}
use Rattle.core_dispatch.specs.Closing.{HasGoneOn, HasTakenEdits, HasTakenAll, HasNotTakenAll}
use Rattle.core_dispatch.proofs.Rounds.{pens_through, none_taken, more_taken}
use Rattle.core_dispatch.proofs.{Around.rest_pens, Reported.reported, Reported.collected_around}
use Rattle.core_dispatch.proofs.Growing.{run_grows, grows_itself, grows_through}

pub goes_itself : (d : Dispatcher) → HasGoneOn d d
goes_itself d = record {
  events = ([], refl);
  grows = grows_itself d.books.core;
  opening = refl;
  pens = record { count = refl; pens = λ pen h. h; ends = λ end h. h };
}

pub goes_through : (a b c : Dispatcher) → HasGoneOn a b → HasGoneOn b c → HasGoneOn a c
goes_through a b c first second = record {
  events = (
    first.events.0 ++ second.events.0,
    run_append a.books.core b.books.core c.books.core first.events.0 second.events.0 first.events.1 second.events.1,
  );
  grows = grows_through a.books.core b.books.core c.books.core first.grows second.grows;
  opening = second.opening ∙ first.opening;
  pens = pens_through a.books b.books c.books first.pens second.pens;
}

-- edits were taken
pub goes_by_edits : (old new : Dispatcher) (edits : ℕ) → HaveTakenEdits old.books edits new.books
    → KeepsPens old.books new.books → HasGoneOn old new
goes_by_edits old new edits taken pens = record {
  events = (taken.log, taken.run);
  grows = run_grows old.books.core taken.log new.books.core taken.run;
  opening = taken.opening;
  pens = pens;
}

-- edits were taken, and nothing else
pub edits_themselves : (d : Dispatcher) → HasTakenEdits d d
edits_themselves d = record { edits = 0; taken = none_taken d.books d.books refl refl refl; other = refl }

pub edits_through : (a b c : Dispatcher) → HasTakenEdits a b → HasTakenEdits b c → HasTakenEdits a c
edits_through a b c first second = record {
  edits = first.edits + second.edits;
  taken = more_taken a.books b.books c.books first.edits second.edits first.taken second.taken;
  other = second.other ∙ ap (λ (d : Dispatcher). record d { books = c.books }) first.other;
}

-- reports were taken
pub goes_by_reports : (old new : Dispatcher) (results : Results) → HaveCollected old results new → HasGoneOn old new
goes_by_reports old new results have =
    let reports = reported 0 old have.answers new have.collected in
    let around = collected_around 0 old have.answers new have.collected in
    record {
      events = (reports.log, reports.run);
      grows = run_grows old.books.core reports.log new.books.core reports.run;
      opening = ap (λ (b : BooksView). b.opening) around.rest;
      pens = rest_pens old.books new.books around.rest;
    }

pub reports_keep_desks : (old new : Dispatcher) (results : Results) → HaveCollected old results new
    → new.books.desks ≡ old.books.desks
reports_keep_desks old new results have =
    ap (λ (b : BooksView). b.desks) (collected_around 0 old have.answers new have.collected).rest

-- whatever came of it, the dispatcher went on
pub went_on : {T : Type 0} (old new : Dispatcher) (ends : List PenEnd) (result : Result T CloseError)
    → OnOk result (HasTakenAll old ends new) → IfErr result (HasNotTakenAll old ends new) → HasGoneOn old new
went_on old new ends (Ok done) all not_all = all.goes_on
went_on old new ends (Err why) all not_all = not_all.goes_on
