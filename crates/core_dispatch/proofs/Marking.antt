-- Jobs that are taken or abandoned: strokes and image, and each tile's generation and hints, are as they were.
use Rattle.std.proofs.Common.{◌≡◌, ◌≢◌, ℕ, zero, suc, true, false, Bool, List, [], ◌∷◌, length, set, get_or, sym, refl}
use Rattle.std.proofs.Common.{◌∙◌, subst, Option, Some, None}
use Rattle.std.proofs.lemmas.List.{length-set, get_or-set_other}
use Rattle.tile_generations.specs.{declared.ticket.Ticket.Ticket, Jobs.Job}
use Rattle.border_queues.specs.TileWork.{TileWork, idle}
use Rattle.core_rules.specs.{Work.Core, Work.work_at, Work.with_work, Sweeps.IsTaken, Sweeps.IsAbandoned}
use Rattle.core_rules.specs.Events.{Take, Abandon, OfTake, OfAbandon}
use Rattle.core_rules.specs.Runs.{Entry, IsRun, abandoned}
use Rattle.core_dispatch.specs.{Growing.ShowsSame, Turns.AreOfJobs}

-- only which tiles are dirty, which jobs are out and the next serial may be others
pub record IsOnlyMarked (before after : Core) : Type 0 where
  pub shows : ShowsSame before after
  pub count : length after.tiles ≡ length before.tiles
  pub generations : (t : ℕ) → (work_at after t).generation ≡ (work_at before t).generation
  pub inboxes : (t : ℕ) → (work_at after t).inbox ≡ (work_at before t).inbox

-- and that only at this tile
pub record IsMarkedAt (t : ℕ) (before after : Core) : Type 0 where
  pub marked : IsOnlyMarked before after
  pub others : (u : ℕ) → u ≢ t → work_at after u ≡ work_at before u

pub unmarked : (t : ℕ) (before after : Core) → after ≡ before → IsMarkedAt t before after
unmarked t before after same = subst (IsMarkedAt t before) (sym same) (record {
  marked = record {
    shows = record { mask = refl; conn = refl; state = refl; image = refl };
    count = refl;
    generations = λ u. refl;
    inboxes = λ u. refl;
  };
  others = λ u other. refl;
})

marked_through : (a b c : Core) → IsOnlyMarked a b → IsOnlyMarked b c → IsOnlyMarked a c
marked_through a b c first second = record {
  shows = record {
    mask = second.shows.mask ∙ first.shows.mask;
    conn = second.shows.conn ∙ first.shows.conn;
    state = second.shows.state ∙ first.shows.state;
    image = second.shows.image ∙ first.shows.image;
  };
  count = second.count ∙ first.count;
  generations = λ t. second.generations t ∙ first.generations t;
  inboxes = λ t. second.inboxes t ∙ first.inboxes t;
}

pub marked_twice : (t : ℕ) (a b c : Core) → IsMarkedAt t a b → IsMarkedAt t b c → IsMarkedAt t a c
marked_twice t a b c first second = record {
  marked = marked_through a b c first.marked second.marked;
  others = λ u other. second.others u other ∙ first.others u other;
}

-- what the new work at a tile has in common with the old, each tile has in common with before
pub kept_field : {X : Type 0} (f : TileWork → X) (works : List TileWork) (t u : ℕ) (work : TileWork)
    → f work ≡ f (get_or works t idle) → f (get_or (set works t work) u idle) ≡ f (get_or works u idle)
kept_field f [] t u work same = refl
kept_field f (x ∷ xs) zero zero work same = same
kept_field f (x ∷ xs) zero (suc u) work same = refl
kept_field f (x ∷ xs) (suc t) zero work same = refl
kept_field f (x ∷ xs) (suc t) (suc u) work same = kept_field f xs t u work same

-- other work at one tile, of the same generation and with the same hints
mark : (before : Core) (t : ℕ) (work : TileWork) (serial : ℕ) → work.generation ≡ (work_at before t).generation
    → work.inbox ≡ (work_at before t).inbox → IsMarkedAt t before (record (with_work before t work) { serial = serial })
mark before t work serial generation inbox = record {
  marked = record {
    shows = record { mask = refl; conn = refl; state = refl; image = refl };
    count = length-set before.tiles t work;
    generations = λ u. kept_field (λ (w : TileWork). w.generation) before.tiles t u work generation;
    inboxes = λ u. kept_field (λ (w : TileWork). w.inbox) before.tiles t u work inbox;
  };
  others = λ u other. get_or-set_other before.tiles t u work idle other;
}

pub take_marks : (before after : Core) (t : ℕ) (job : Option Job) → IsTaken before t job after
    → IsMarkedAt t before after
take_marks before after t (Some job) (ready, next, same) = subst (IsMarkedAt t before) (sym same)
    (mark before t (record (work_at before t) { dirty = false; out = Some before.serial }) _ refl refl)
take_marks before after t None (not, same) = unmarked t before after same

pub abandon_marks : (before after : Core) (ticket : Ticket) (was_out : Bool) → IsAbandoned before ticket was_out after
    → IsMarkedAt ticket.tile before after
abandon_marks before after ticket true (out, same) = subst (IsMarkedAt ticket.tile before) (sym same)
    (mark before ticket.tile (record (work_at before ticket.tile) { dirty = true; out = None }) _ refl refl)
abandon_marks before after ticket false (gone, same) = unmarked ticket.tile before after same

-- ---- one job after another

pub jobs_mark : (before : Core) (log : List Entry) (after : Core) → AreOfJobs log → IsRun before log after
    → IsOnlyMarked before after
jobs_mark before [] after none same = (unmarked 0 before after same).marked
jobs_mark before ((Take t, OfTake (Some job)) ∷ log) after more (next, happens, run) =
    marked_through before next after (take_marks before next t (Some job) happens).marked
    (jobs_mark next log after more run)
jobs_mark before ((Abandon ticket, OfAbandon true) ∷ log) after more (next, happens, run) =
    marked_through before next after (abandon_marks before next ticket true happens).marked
    (jobs_mark next log after more run)
jobs_mark before (entry ∷ log) after more run = absurd more

are_of_jobs : (tickets : List Ticket) → AreOfJobs (abandoned tickets)
are_of_jobs [] = tt
are_of_jobs (ticket ∷ tickets) = are_of_jobs tickets

pub abandons_mark : (before : Core) (tickets : List Ticket) (after : Core) → IsRun before (abandoned tickets) after
    → IsOnlyMarked before after
abandons_mark before tickets after run = jobs_mark before (abandoned tickets) after (are_of_jobs tickets) run

pub abandoned_shows : (before after : Core) (ticket : Ticket) (was_out : Bool)
    → IsAbandoned before ticket was_out after → ShowsSame before after
abandoned_shows before after ticket was_out is = (abandon_marks before after ticket was_out is).marked.shows

pub abandons_show : (before : Core) (tickets : List Ticket) (after : Core) → IsRun before (abandoned tickets) after
    → ShowsSame before after
abandons_show before tickets after run = (abandons_mark before tickets after run).shows
