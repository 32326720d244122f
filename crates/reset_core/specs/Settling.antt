-- The steps of settling. Only private functions have these words in their contracts.
use Rattle.std.specs.Prelude.{◌≡◌, ℕ, ◌+◌, ◌<◌, ◌≤◌, ◌⊎◌, Bool, true, false, List, [], ◌∷◌, ◌++◌, length, sum_by}
use Rattle.tile_generations.specs.declared.ticket.Ticket.{Ticket}
use Rattle.core_rules.specs.{declared.answers.Handed.Handed, Work.Core, Work.IsQuiet, Work.tiling, Sweeps.IsAbandoned}
use Rattle.core_rules.specs.{Hints.IsHanded, Runs.Entry, Runs.IsRun, Runs.IsWorkedOff, Runs.NoneOut, Runs.HasHints}
use Rattle.core_rules.specs.{Runs.IsTakenIn, Runs.abandoned, Runs.tickets_out, Runs.jobs_of, Runs.tiles_taken}
use Rattle.border_queues.specs.TileWork.{TileWork, IsLeast}
use Rattle.tile_work.specs.TileSet.{HasGained}
use Rattle.reset_core.specs.Telling.{burden}

-- some of the jobs that were out are abandoned
pub record AreAbandoned (before now : Core) (abandons : ℕ) : Type 0 where
  pub done : List Ticket
  pub clears : IsRun before (abandoned done) now
  pub parts : tickets_out 0 before.tiles ≡ done ++ tickets_out 0 now.tiles
  pub count : abandons ≡ length done

-- the first job that is out is abandoned, where there is one
abbrev pub IsFirstAbandoned : Core → Bool → Core → Type 0
IsFirstAbandoned before was_one after =
    ((was_one ≡ true) × ((ticket : Ticket) × (tickets_out 0 before.tiles ≡ ticket ∷ tickets_out 0 after.tiles)
    × IsAbandoned before ticket true after))
    ⊎ ((was_one ≡ false) × (after ≡ before) × (tickets_out 0 before.tiles ≡ []) × NoneOut before)

-- how many hints wait, in all
abbrev pub waiting_count : List TileWork → ℕ
waiting_count rows = sum_by (λ work. length work.inbox) rows

-- the first hint of the first tile where one waits was handed over
pub record IsFirstHandedOver (before after : Core) : Type 0 where
  pub t : ℕ
  pub handed : Handed
  pub first : IsLeast (HasHints before) t
  pub happens : IsHanded before t 0 handed after
  pub none_out : NoneOut after
  pub fewer : waiting_count after.tiles < waiting_count before.tiles
  pub count : length after.tiles ≡ length before.tiles
  pub tiling : tiling after ≡ tiling before

-- the first hint that waits is handed over, where there is one
abbrev pub IsFirstHanded : Core → Bool → Core → Type 0
IsFirstHanded before was_one after =
    ((was_one ≡ true) × IsFirstHandedOver before after)
    ⊎ ((was_one ≡ false) × (after ≡ before) × ((u : ℕ) → HasHints before u → ⊥))

-- some of the hints that waited are handed over
pub record AreHanded (before now : Core) : Type 0 where
  pub log : List Entry
  pub works : IsWorkedOff before log now
  pub none_taken : tiles_taken log ≡ []
  pub count : length now.tiles ≡ length before.tiles
  pub none_out : NoneOut now
  pub tiling : tiling now ≡ tiling before

-- no job is out and no hint waits, so that all that is left is to sweep dirty tiles
pub record HasOnlySweeps (core : Core) : Type 0 where
  pub none_out : NoneOut core
  pub no_hints : (u : ℕ) → HasHints core u → ⊥

-- the tile is worked off: it was swept and its hints were handed over, no job is out, no hint waits, and less work can
-- be left
pub record IsOneWorkedOff (before : Core) (t : ℕ) (after : Core) : Type 0 where
  pub log : List Entry
  pub works : IsWorkedOff before log after
  pub one_taken : tiles_taken log ≡ t ∷ []
  pub count : length after.tiles ≡ length before.tiles
  pub none_out : NoneOut after
  pub no_hints : (u : ℕ) → HasHints after u → ⊥
  pub less : burden after < burden before

-- events that take so many jobs bring the work to the second core
abbrev pub IsWorkedOffBy : Core → ℕ → Core → Type 0
IsWorkedOffBy before jobs after = (log : List Entry) × IsWorkedOff before log after × (jobs_of log ≡ jobs)

-- so they do, and no work is left then
pub record IsAllWorkedOff (before : Core) (jobs : ℕ) (after : Core) : Type 0 where
  pub works : IsWorkedOffBy before jobs after
  pub quiet : IsQuiet after

-- so many tiles are swept, the set has gained them, and no hint waits
pub record AreWorkedOff (before : Core) (old : List Bool) (now : Core) (set : List Bool) (jobs : ℕ) : Type 0 where
  pub log : List Entry
  pub works : IsWorkedOff before log now
  pub jobs_are : jobs_of log ≡ jobs
  pub swept : HasGained old (IsTakenIn log) set
  pub count : length now.tiles ≡ length before.tiles
  pub none_out : NoneOut now
  pub no_hints : (u : ℕ) → HasHints now u → ⊥
  pub tiling : tiling now ≡ tiling before
  pub spent : jobs + burden now ≤ burden before

-- so they are, no more than allowed, and fewer only where no work is left
pub record AreWorkedOffWithin (limit : ℕ) (before : Core) (old : List Bool) (now : Core) (set : List Bool) (jobs : ℕ)
    : Type 0 where
  pub off : AreWorkedOff before old now set jobs
  pub at_most : jobs ≤ limit
  pub to_the_end : jobs < limit → IsQuiet now
