use Rattle.std.proofs.Common.{◌≡◌, ◌||◌, ℕ, refl, subst}
use Rattle.core_rules.specs.Runs.{HasHints}
use Rattle.core_dispatch.specs.{declared.taken.Edits.Edits, Books.BooksView, Pens.KeepsPens}
use Rattle.core_dispatch.specs.{Handing.HaveHanded, Taking.IsRound, Taking.HaveTakenEdits}
use Rattle.core_dispatch.specs.{declared.turned.Turned.Turned, declared.turned.Results.Results}
use Rattle.core_dispatch.specs.{Dispatching.Dispatcher, Reports.HaveCollected, Jobs.with_core}
use Rattle.core_dispatch.specs.Turns.{HasTakenIn, TakesIn}
use Rattle.core_dispatch.proofs.{Rounds.pens_through, Around.rest_pens}
use Rattle.core_dispatch.proofs.TakenIn.{taken_around, taken_capacity, taken_events, taken_grows, taken_hands}
use Rattle.core_dispatch.proofs.TakenIn.{taken_image, taken_opening, taken_pushed, taken_state}
use Rattle.core_dispatch.proofs.dispatcher.Dispatcher.take_in.Goals as goal

module _ (old : Dispatcher) (edits : Edits) (edited : BooksView) (results : Results) (collected : Dispatcher)
    (hints : ℕ) (new : Dispatcher) (round : IsRound old.books edits edited)
    (takes : HaveTakenEdits old.books edits.edits edited) (pens : KeepsPens old.books edited)
    (collects : HaveCollected (record old { books = edited }) results collected)
    (hands : HaveHanded collected.books.core hints new.books.core)
    (none : (t : ℕ) → HasHints new.books.core t → ⊥) (rest : new ≡ with_core collected new.books.core) where
  abbrev answer : Turned
  answer = record {
    edits = edits.edits;
    results = results.results;
    hints = hints;
    jobs = 0;
    memory = edits.memory || results.memory;
  }

  promises : TakesIn old answer new
  promises =
      let taken : HasTakenIn old answer new = record {
        edits = edits;
        results = results;
        edited = record old { books = edited };
        collected = collected;
        round = round;
        takes = takes;
        other = refl;
        collects = collects;
        hands = hands;
        rest = rest;
        counts = (refl, refl, refl);
        memory = refl;
      } in
      let around = taken_around old answer new taken in
      record {
        taken_is = taken;
        events = taken_events old answer new taken;
        no_hints = none;
        grows = taken_grows old answer new taken;
        state = taken_state old answer new taken;
        image = taken_image old answer new taken;
        opening = taken_opening old answer new taken;
        pushed = taken_pushed old answer new taken;
        capacity = taken_capacity old answer new taken;
        hands = taken_hands old answer new taken;
        pens = pens_through old.books edited new.books pens (rest_pens edited new.books around.rest);
      }

pub returns : goal.returns
returns c =
    promises c.args.self.now c.take_edits-edits.result c.take_edits-edits.new.self.books c.take_reports-results.result
    c.take_reports-results.new.self c.hand_all-hints.result c.hand_all-hints.new.self c.take_edits-edits.ensures.round
    c.take_edits-edits.ensures.taken c.take_edits-edits.ensures.pens
    (subst (λ (d : Dispatcher). HaveCollected d c.take_reports-results.result c.take_reports-results.new.self)
    c.take_edits-edits.ensures.other c.take_reports-results.ensures) c.hand_all-hints.ensures.handed
    c.hand_all-hints.ensures.no_hints c.hand_all-hints.ensures.other
