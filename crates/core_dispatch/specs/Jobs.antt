-- What becomes of the tiles that are dirty and not out.
use Rattle.std.specs.Prelude.{◌≡◌, ℕ, ◌+◌, ◌≤◌, ◌⊎◌, Bool, true, false, List, [], ◌∷◌, ◌++◌, length}
use Rattle.std.specs.Prelude.{Option, Some, sum_by}
use Rattle.std.specs.List.{list_any}
use Rattle.tile_generations.specs.Jobs.{Job}
use Rattle.tile_work.specs.Least.{IsLeastFrom}
use Rattle.tiled_core.specs.Passing.{ArePassedUntil}
use Rattle.core_rules.specs.{Work.Core, Sweeps.IsReady, Sweeps.IsTaken, Sweeps.IsAbandoned}
use Rattle.steal_pool.specs.Views.{OwnerView}
use Rattle.core_dispatch.specs.{declared.turned.Jobs.Jobs, declared.turned.Pushing.Pushing}
use Rattle.core_dispatch.specs.{Dispatching.Dispatcher}
use Rattle.core_dispatch.specs.declared.turned.Pushing.TheVariants.{Pushed, Refused, Wanting}

-- the dispatcher with another core, all else being as it was
abbrev pub with_core : Dispatcher → Core → Dispatcher
with_core d core = record d { books = record d.books { core = core } }

-- the owner, once it pushed the job
abbrev pub pushing : OwnerView → Job → OwnerView
pushing owner job = record owner { pushed = owner.pushed ++ job ∷ [] }

-- what became of the job, which is out: it was pushed; or it found no place and was abandoned
abbrev pub IsPlaced : Dispatcher → Job → Pushing → Dispatcher → Type 0
IsPlaced old job Pushed new = new ≡ record old { owner = pushing old.owner job }
IsPlaced old job Refused new =
    IsAbandoned old.books.core job.ticket true new.books.core × (new ≡ with_core old new.books.core)
    × (old.owner.capacity ≤ length old.owner.pushed)
IsPlaced old job Wanting new = ⊥

-- what became of the tile: its job was taken and pushed; or it was taken and abandoned, where as many jobs were pushed
-- as surely find a place; or memory was wanting to take it
abbrev pub IsPushed : ℕ → Dispatcher → Pushing → Dispatcher → Type 0
IsPushed t old Pushed new =
    (job : Job) × IsTaken old.books.core t (Some job) new.books.core
    × (new ≡ record (with_core old new.books.core) { owner = pushing old.owner job })
IsPushed t old Refused new =
    (job : Job) × (between : Core) × IsTaken old.books.core t (Some job) between
    × IsAbandoned between job.ticket true new.books.core × (new ≡ with_core old new.books.core)
    × (old.owner.capacity ≤ length old.owner.pushed)
IsPushed t old Wanting new = IsReady old.books.core t × (new ≡ old)

-- this became of these tiles, which rise from this one on
abbrev pub ArePushed : ℕ → Dispatcher → List (ℕ × Pushing) → Dispatcher → Type 0
ArePushed from old [] new = new ≡ old
ArePushed from old ((t, pushing) ∷ tiles) new =
    (from ≤ t) × ((next : Dispatcher) × IsPushed t old pushing next × ArePushed (t + 1) next tiles new)

-- the answer is the next tile, from this one on, that can be taken. Either nothing else happened; or the tiles that can
-- be taken before it were passed over, where as many jobs were pushed as surely find a place
abbrev pub IsNextTile : ℕ → Option ℕ → Dispatcher → Dispatcher → Type 0
IsNextTile from answer old new =
    ((new ≡ old) × IsLeastFrom (IsReady old.books.core) from answer)
    ⊎ ((old.owner.capacity ≤ length old.owner.pushed) × (new ≡ with_core old new.books.core)
    × ArePassedUntil from answer old.books.core new.books.core)

-- the tile is one of these, and its job was not pushed
abbrev pub IsLeft : List (ℕ × Pushing) → ℕ → Type 0
IsLeft [] t = ⊥
IsLeft ((u, Pushed) ∷ tiles) t = IsLeft tiles t
IsLeft ((u, Refused) ∷ tiles) t = (u ≡ t) ⊎ IsLeft tiles t
IsLeft ((u, Wanting) ∷ tiles) t = (u ≡ t) ⊎ IsLeft tiles t

-- how many jobs were pushed
abbrev pub pushed_in : Pushing → ℕ
pushed_in Pushed = 1
pushed_in Refused = 0
pushed_in Wanting = 0

-- memory was wanting
abbrev pub is_wanting : Pushing → Bool
is_wanting Pushed = false
is_wanting Refused = false
is_wanting Wanting = true

-- each tile that was dirty and not out was taken, in rising order, and its job pushed; those that are still so are
-- tiles whose job was refused, or for whose job memory was wanting
pub record HavePushed (old : Dispatcher) (jobs : Jobs) (new : Dispatcher) : Type 0 where
  pub tiles : List (ℕ × Pushing)
  pub pushed : ArePushed 0 old tiles new
  pub left : (t : ℕ) → IsReady new.books.core t → IsLeft tiles t
  pub count : jobs.jobs ≡ sum_by (λ tile. pushed_in tile.1) tiles
  pub memory : jobs.memory ≡ list_any (λ tile. is_wanting tile.1) tiles
