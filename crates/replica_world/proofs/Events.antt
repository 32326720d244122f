-- Lists of events that grow by one.
use Rattle.std.proofs.Common.{◌≡◌, ◌∙◌, ◌∷◌, ◌++◌, ◌+◌, ◌<◌, ◌≤◌, [], ℕ, List, length, get_or, take, drop, suc}
use Rattle.std.proofs.Common.{refl, sym, subst, ap, arith, inl, inr, ◌≢◌}
use Rattle.std.proofs.Math.Seq.{drop-cons}
use Rattle.std.proofs.lemmas.List.{take_all, take_more, take-append-drop, length-take-le}
use Rattle.stroke_lattice.specs.State.{State}
use Rattle.replica_world.specs.{declared.error.WorldError.WorldError, declared.event.Event.Event, World.World}
use Rattle.replica_world.specs.Events.{IsNamed, Carries, IsDone, IsTurnedDown, IsCutOff, IsRefusal}
use Rattle.replica_world.specs.Runs.{Refusal, AreEvents, IsRun, IsStopped, IsOnward}
use Rattle.core_rules.specs.declared.error.CoreError.TheVariants as core_errors
use Rattle.replica_world.specs.declared.error.WorldError.TheVariants as errors
use Rattle.replica_world.specs.declared.event.Event.TheVariants as events

-- ---- packets that come to replicas

-- a packet that comes is an edit of what it carries
pub delivered : (before after : World) (r k : ℕ) (delta : State) → Carries before k delta
    → IsDone before (events.Edit r delta) after → IsDone before (events.Deliver r k) after
delivered before after r k delta carries (within, taken) = (within, (delta, carries, taken))

-- and it is refused as that edit is
pub not_delivered : (before after : World) (r k : ℕ) (delta : State) (why : WorldError)
    → IsNamed before (events.Deliver r k) → Carries before k delta
    → IsRefusal before (events.Edit r delta) why after → IsRefusal before (events.Deliver r k) why after
not_delivered before after r k delta errors.NoSuch (within, there) carries (inl (unnamed, same)) =
    absurd (unnamed within)
not_delivered before after r k delta (errors.Core why) named carries (inl ((within, refused), same)) =
    inl ((within, (delta, carries, refused)), same)
not_delivered before after r k delta why named carries (inr (memory, (within, acceptable, same))) =
    inr (memory, (named, same))

-- ---- want of memory

-- a core refuses no delta for want of memory
never_memory : (world : World) (event : Event) → IsTurnedDown world event (errors.Core core_errors.Memory) → ⊥
never_memory world (events.Edit r delta) (within, refused) = refused
never_memory world (events.Deliver r k) (within, (delta, carries, refused)) = refused
never_memory world _ refused = refused

-- an event that is refused for want of memory was cut off
pub cut_off : (before after : World) (event : Event) (why : WorldError) → IsRefusal before event why after
    → why ≡ errors.Core core_errors.Memory → IsCutOff before event after
cut_off before after event why (inl (turned, same)) memory =
    absurd (never_memory before event (subst (IsTurnedDown before event) memory turned))
cut_off before after event why (inr (is, cut)) memory = cut

-- the world with this number of steps
abbrev with_steps : ℕ → World → World
with_steps n w = record w { steps = n }

-- ---- one event

-- an event that was refused, and not for want of memory, is listed
pub was_listed : (before after : World) (event : Event) (n : ℕ) (why : WorldError) (refusals more : List Refusal)
    → IsRefusal before event why after → why ≢ errors.Core core_errors.Memory → more ≡ refusals ++ (n, why) ∷ []
    → IsOnward event n before refusals after more
was_listed before after event n why refusals more (inl (turned, same)) other longer = record {
  listed = (n, why) ∷ [];
  are_events = inr (why, [], turned, refl, (refl, same));
  more_is = longer;
}
was_listed before after event n why refusals more (inr (memory, cut)) other longer = absurd (other memory)

-- ---- one event more

events_push : (front last : List Event) (a b c : World) (n m : ℕ) (refusals listed : List Refusal)
    → m ≡ n + length front → AreEvents n front a refusals b → AreEvents m last b listed c
    → AreEvents n (front ++ last) a (refusals ++ listed) c
events_push [] last a b c n m refusals listed count (none, same) after =
    let here : m ≡ n = omega (arith, count) in
    subst (λ (rs : List Refusal). AreEvents n last a (rs ++ listed) c) (sym none)
    (subst (λ (w : World). AreEvents n last w listed c) same
    (subst (λ k. AreEvents k last b listed c) here after))
events_push (event ∷ front) last a b c n m refusals listed count (inl (next, done, rest)) after =
    inl (next, done, events_push front last next b c (n + 1) m refusals listed (omega (arith, count)) rest after)
events_push (event ∷ front) last a b c n m refusals listed count (inr (why, more, turned, same, rest)) after =
    inr (
      why,
      more ++ listed,
      turned,
      ap (λ (rs : List Refusal). rs ++ listed) same,
      events_push front last a b c (n + 1) m more listed (omega (arith, count)) rest after,
    )

-- so many events of a list were brought to an end, with these refusals, and led to this world
pub record HaveRun (start : World) (all : List Event) (n : ℕ) (now : World) (refusals : List Refusal) : Type 0 where
  pub are_events : AreEvents 0 (take n all) start refusals now

pub none_run : (start : World) (all : List Event) (refusals : List Refusal) → refusals ≡ []
    → HaveRun start all 0 start refusals
none_run start all refusals none = record { are_events = (none, refl) }

pub one_more_run : (start now after : World) (all : List Event) (n : ℕ) (event : Event) (refusals more : List Refusal)
    → HaveRun start all n now refusals → n < length all → event ≡ get_or all n event
    → IsOnward event n now refusals after more → HaveRun start all (n + 1) after more
one_more_run start now after all n event refusals more so_far within there onward =
    let front : take (n + 1) all ≡ take n all ++ event ∷ [] =
    take_more all n event within ∙ ap (λ e. take n all ++ e ∷ []) (sym there) in
    let known = length-take-le n all (omega (arith, within)) in
    let count : n ≡ 0 + length (take n all) = omega (arith, known) in
    record {
      are_events =
          subst (λ (rs : List Refusal). AreEvents 0 (take (n + 1) all) start rs after) (sym onward.more_is)
          (subst (λ front. AreEvents 0 front start (refusals ++ onward.listed) after) (sym front)
          (events_push (take n all) (event ∷ []) start now after 0 n refusals onward.listed count so_far.are_events
          onward.are_events));
    }

-- where none is left the whole list was run
pub all_run : (start now after : World) (all : List Event) (n : ℕ) (refusals : List Refusal)
    → HaveRun start all n now refusals → length all ≤ n → after ≡ record now { steps = length all }
    → IsRun start all refusals after
all_run start now after all n refusals so_far enough kept = record {
  reached = now;
  are_events = subst (λ (events : List Event). AreEvents 0 events start refusals now) (take_all n all enough)
      so_far.are_events;
  after_is = kept;
}

pub run_stops : (start now left after : World) (all : List Event) (n : ℕ) (event : Event) (why : WorldError)
    (refusals : List Refusal) → HaveRun start all n now refusals → n < length all → event ≡ get_or all n event
    → why ≡ errors.Core core_errors.Memory → IsCutOff now event left → after ≡ record left { steps = n }
    → IsStopped start all why after
run_stops start now left after all n event why refusals so_far within there memory cut kept =
    let known = length-take-le n all (omega (arith, within)) in
    let count : n ≡ length (take n all) = omega (arith, known) in
    let next : suc n ≡ n + 1 = omega arith in
    let rest : drop n all ≡ event ∷ drop (n + 1) all =
    drop-cons all n event within ∙ ap (λ k. get_or all n event ∷ drop k all) next
    ∙ ap (λ e. e ∷ drop (n + 1) all) (sym there) in (
      memory,
      inr (record {
        done = take n all;
        event = event;
        rest = drop (n + 1) all;
        parts = sym (take-append-drop n all) ∙ ap (λ es. take n all ++ es) rest;
        refusals = refusals;
        reached = now;
        are_events = so_far.are_events;
        left = left;
        cut_off = cut;
        after_is = kept ∙ ap (λ m. with_steps m left) count;
      }),
    )
