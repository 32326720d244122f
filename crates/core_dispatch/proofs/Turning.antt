-- What a turn does: what was taken in, and the jobs that are pushed behind it.
use Rattle.std.proofs.Common.{◌≡◌, ℕ, ◌≤◌, ◌||◌, true, false, Bool, ◌++◌, length, sym, refl, ap, ◌∙◌, subst}
use Rattle.core_rules.specs.Sweeps.{IsReady}
use Rattle.core_dispatch.specs.{Books.BooksView, declared.turned.Turned.Turned, declared.turned.Jobs.Jobs}
use Rattle.core_dispatch.specs.{Dispatching.Dispatcher, Jobs.HavePushed}
use Rattle.core_dispatch.specs.Turns.{AreEvents, HasMergedNone, HasTurned, IsStill, TakesIn, TakesTurn}
use Rattle.core_dispatch.proofs.{Around.KeepsAround, Around.rest_pens, Growing.run_grows, Rounds.pens_through}
use Rattle.core_dispatch.proofs.{Marking.IsOnlyMarked, Marking.jobs_mark, TakenIn.events_before}
use Rattle.core_dispatch.proofs.Placed.{HavePlaced, left_is_full, no_hints_kept, placed, pushed_around}

or_assoc : (a b c : Bool) → ((a || b) || c) ≡ (a || (b || c))
or_assoc true b c = refl
or_assoc false b c = refl

last_false : (a b : Bool) → (a || b) ≡ false → b ≡ false
last_false true b none = absurd cc
last_false false b none = none

module _ (old : Dispatcher) (taken : Turned) (handed : Dispatcher) (jobs : Jobs) (new : Dispatcher)
    (h : TakesIn old taken handed) (pushes : HavePushed handed jobs new) where
  abbrev turned : Turned
  turned = record taken { jobs = jobs.jobs; memory = taken.memory || jobs.memory }

  turned_is : HasTurned old turned new
  turned_is = record {
    edits = h.taken_is.edits;
    results = h.taken_is.results;
    jobs = jobs;
    edited = h.taken_is.edited;
    collected = h.taken_is.collected;
    handed = handed;
    round = h.taken_is.round;
    takes = h.taken_is.takes;
    other = h.taken_is.other;
    collects = h.taken_is.collects;
    hands = h.taken_is.hands;
    rest = h.taken_is.rest;
    pushes = pushes;
    counts = (h.taken_is.counts.0, h.taken_is.counts.1, refl);
    memory =
        ap (λ wanting. wanting || jobs.memory) h.taken_is.memory
        ∙ or_assoc h.taken_is.edits.memory h.taken_is.results.memory jobs.memory;
  }

  -- ---- the jobs

  places : HavePlaced handed.books.core jobs.jobs new.books.core
  places =
      subst (λ (n : ℕ). HavePlaced handed.books.core n new.books.core) (sym pushes.count)
      (placed 0 handed pushes.tiles new pushes.pushed)

  marks : IsOnlyMarked handed.books.core new.books.core
  marks = jobs_mark handed.books.core places.log new.books.core places.are_jobs places.run

  around : KeepsAround handed new
  around = pushed_around 0 handed pushes.tiles new pushes.pushed

  turn_events : AreEvents old.books.core turned new.books.core
  turn_events =
      events_before old taken handed h.taken_is jobs.jobs (taken.memory || jobs.memory) places.log new.books.core
      places.are_jobs places.count places.run

  turn_all_out : turned.memory ≡ false → (t : ℕ) → IsReady new.books.core t
      → new.owner.capacity ≤ length new.owner.pushed
  turn_all_out enough t ready =
      let none = last_false taken.memory jobs.memory enough in
      left_is_full 0 handed pushes.tiles new pushes.pushed (sym pushes.memory ∙ none) t (pushes.left t ready)

  -- ---- where no edit was merged

  unmerged : HasMergedNone old turned new → HasMergedNone old taken handed
  unmerged none = sym (ap (λ (b : BooksView). length b.refusals) around.rest) ∙ none

  turn_state : HasMergedNone old turned new → new.books.core.state ≡ old.books.core.state
  turn_state none = marks.shows.state ∙ h.state (unmerged none)

  turn_image : IsStill old turned new → new.books.core.image ≡ old.books.core.image
  turn_image (none, no_reports, no_hints) = marks.shows.image ∙ h.image (unmerged none, no_reports, no_hints)

  pub takes_turn : TakesTurn old turned new
  takes_turn = record {
    turned_is = turned_is;
    events = turn_events;
    no_hints = no_hints_kept handed.books.core new.books.core marks h.no_hints;
    all_out = turn_all_out;
    grows =
        run_grows old.books.core
        (turn_events.merges ++ (turn_events.reports ++ (turn_events.hands ++ turn_events.takes))) new.books.core
        turn_events.run;
    state = turn_state;
    image = turn_image;
    opening = ap (λ (b : BooksView). b.opening) around.rest ∙ h.opening;
    capacity = around.capacity ∙ h.capacity;
    hands = record {
      deque = around.hands.deque ∙ h.hands.deque;
      rings = around.hands.rings ∙ h.hands.rings;
    };
    pens = pens_through old.books handed.books new.books h.pens (rest_pens handed.books new.books around.rest);
  }
