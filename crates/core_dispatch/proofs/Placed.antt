-- Jobs that are taken and pushed, as events.
use Rattle.std.proofs.Common.{◌≡◌, ℕ, ◌+◌, ◌<◌, ◌≤◌, inl, inr, true, false, List, [], ◌∷◌, length, ap, ◌∙◌, subst}
use Rattle.std.proofs.Common.{arith, Some, sum_by}
use Rattle.std.proofs.{lemmas.List.length-append, lemmas.List.Sums.sum_by-cons}
use Rattle.std.specs.List.{list_any}
use Rattle.tile_generations.specs.{Jobs.Job}
use Rattle.core_rules.specs.{Work.Core, Work.IsTile}
use Rattle.core_rules.specs.Events.{Take, Abandon, OfTake, OfAbandon}
use Rattle.core_rules.specs.Runs.{Entry, IsRun, HasHints, jobs_of, abandons_of}
use Rattle.core_dispatch.proofs.{Growing.AreNoMerges, Marking.IsOnlyMarked}
use Rattle.core_dispatch.proofs.Around.{KeepsAround, around_core, around_itself, around_through}
use Rattle.core_dispatch.specs.{declared.turned.Pushing.Pushing, Dispatching.Dispatcher}
use Rattle.core_dispatch.specs.{Turns.AreOfJobs}
use Rattle.core_dispatch.specs.declared.turned.Pushing.TheVariants.{Pushed, Refused, Wanting}
use Rattle.core_dispatch.specs.Jobs.{ArePushed, IsLeft, IsPushed, pushed_in, is_wanting}

-- so many jobs were taken and pushed, and those that found no place were abandoned
pub record HavePlaced (before : Core) (n : ℕ) (after : Core) : Type 0 where
  pub log : List Entry
  pub are_jobs : AreOfJobs log
  pub run : IsRun before log after
  pub count : n + abandons_of log ≡ jobs_of log

abbrev pub pushed_of : List (ℕ × Pushing) → ℕ
pushed_of tiles = sum_by (λ tile. pushed_in tile.1) tiles

one_tile_more : (t : ℕ) (pushing : Pushing) (tiles : List (ℕ × Pushing))
    → pushed_of ((t, pushing) ∷ tiles) ≡ pushed_in pushing + pushed_of tiles
one_tile_more t pushing tiles = sum_by-cons (λ (tile : ℕ × Pushing). pushed_in tile.1) (t, pushing) tiles

pub placed : (from : ℕ) (old : Dispatcher) (tiles : List (ℕ × Pushing)) (new : Dispatcher)
    → ArePushed from old tiles new → HavePlaced old.books.core (pushed_of tiles) new.books.core
placed from old [] new same = record {
  log = [];
  are_jobs = tt;
  run = ap (λ (d : Dispatcher). d.books.core) same;
  count = omega arith;
}
placed from old ((t, Pushed) ∷ tiles) new (rises, (next, (job, taken, same), rest)) =
    let more = placed (t + 1) next tiles new rest in
    let counts = one_tile_more t Pushed tiles in
    record {
      log = (Take t, OfTake (Some job)) ∷ more.log;
      are_jobs = more.are_jobs;
      run = (next.books.core, taken, more.run);
      count = omega arith;
    }
placed from old ((t, Refused) ∷ tiles) new (rises, (next, (job, between, taken, abandoned, same, full), rest)) =
    let more = placed (t + 1) next tiles new rest in
    let counts = one_tile_more t Refused tiles in
    record {
      log = (Take t, OfTake (Some job)) ∷ (Abandon job.ticket, OfAbandon true) ∷ more.log;
      are_jobs = more.are_jobs;
      run = (between, taken, (next.books.core, abandoned, more.run));
      count = omega arith;
    }
placed from old ((t, Wanting) ∷ tiles) new (rises, (next, (ready, same), rest)) =
    let more = placed (t + 1) next tiles new rest in
    let counts = one_tile_more t Wanting tiles in
    subst (λ (n : ℕ). HavePlaced old.books.core n new.books.core) (omega arith)
    (subst (λ (d : Dispatcher). HavePlaced d.books.core (pushed_of tiles) new.books.core) same more)

-- ---- what is left besides the core

-- pushing leaves all else, and only adds to the pushed jobs
one_around : (t : ℕ) (old : Dispatcher) (pushing : Pushing) (new : Dispatcher) → IsPushed t old pushing new
    → KeepsAround old new
one_around t old Pushed new (job, taken, same) = record {
  rest = ap (λ (d : Dispatcher). d.books) same;
  capacity = ap (λ (d : Dispatcher). d.owner.capacity) same;
  pushed = omega (arith, ap (λ (d : Dispatcher). length d.owner.pushed) same, length-append {A = Job});
  hands = record {
    deque = ap (λ (d : Dispatcher). d.owner.deque) same;
    rings = ap (λ (d : Dispatcher). d.owner.rings) same;
  };
}
one_around t old Refused new (job, between, taken, abandoned, same, full) = around_core old new same
one_around t old Wanting new (ready, same) = around_itself old new same

pub pushed_around : (from : ℕ) (old : Dispatcher) (tiles : List (ℕ × Pushing)) (new : Dispatcher)
    → ArePushed from old tiles new → KeepsAround old new
pushed_around from old [] new same = around_itself old new same
pushed_around from old ((t, pushing) ∷ tiles) new (rises, (next, turn, rest)) =
    around_through old next new (one_around t old pushing next turn) (pushed_around (t + 1) next tiles new rest)

-- where memory was not wanting, a tile is left only once as many jobs were pushed as surely find a place
pub left_is_full : (from : ℕ) (old : Dispatcher) (tiles : List (ℕ × Pushing)) (new : Dispatcher)
    → ArePushed from old tiles new → list_any (λ tile. is_wanting tile.1) tiles ≡ false → (t : ℕ) → IsLeft tiles t
    → new.owner.capacity ≤ length new.owner.pushed
left_is_full from old [] new same enough t left = absurd left
left_is_full from old ((u, Pushed) ∷ tiles) new (rises, (next, turn, rest)) enough t left =
    left_is_full (u + 1) next tiles new rest enough t left
left_is_full from old ((u, Refused) ∷ tiles) new (rises, (next, turn, rest)) enough t (inl here) =
    let now = pushed_around from old ((u, Refused) ∷ tiles) new (rises, (next, turn, rest)) in
    let full = turn.5 in
    omega arith
left_is_full from old ((u, Refused) ∷ tiles) new (rises, (next, turn, rest)) enough t (inr later) =
    left_is_full (u + 1) next tiles new rest enough t later
left_is_full from old ((u, Wanting) ∷ tiles) new (rises, (next, (ready, same), rest)) enough t left = absurd cc

-- ---- what the events leave

pub jobs_no_merges : (log : List Entry) → AreOfJobs log → AreNoMerges log
jobs_no_merges [] none = tt
jobs_no_merges ((Take t, OfTake (Some job)) ∷ log) more = jobs_no_merges log more
jobs_no_merges ((Abandon ticket, OfAbandon true) ∷ log) more = jobs_no_merges log more
jobs_no_merges (entry ∷ log) more = absurd more

-- where no hint waited, none waits
pub no_hints_kept : (before after : Core) → IsOnlyMarked before after → ((t : ℕ) → HasHints before t → ⊥)
    → (t : ℕ) → HasHints after t → ⊥
no_hints_kept before after keeps none t (is_tile, some) =
    let there : IsTile before t = let lt : t < length after.tiles = is_tile in omega arith in
    none t (there, λ empty. some (keeps.inboxes t ∙ empty))
