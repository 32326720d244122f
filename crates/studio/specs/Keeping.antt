-- What contracts say of keepers.
use Rattle.std.specs.Prelude.{◌≡◌, ◌↔◌, List, [], ◌∷◌, ◌++◌, IsTrue}
use Rattle.logbook.specs.Pages.{Book}
use Rattle.core_rules.specs.Work.{Core, IsQuiet}
use Rattle.steal_pool.specs.Views.{OwnerView}
use Rattle.core_dispatch.specs.{Books.BooksView, Dispatching.Dispatcher}
use Rattle.core_dispatch.specs.Dispatching.{books_by, owner_by, core_by}
use Rattle.studio.specs.{Shots.Shot, Words.shown_by, Words.publisher_studio, Words.ShowsTold}
use Rattle.studio.specs.{declared.keeper.Keeper.Keeper, declared.shots.told.Told.Told}

-- who takes turns for the keeper
abbrev pub dispatcher_of : Keeper → Dispatcher
dispatcher_of k = k.dispatcher

-- the books, the owner of the pool, and the core
abbrev pub books_of : Keeper → BooksView
books_of k = books_by k.dispatcher

abbrev pub owner_of : Keeper → OwnerView
owner_of k = owner_by k.dispatcher

abbrev pub core_of : Keeper → Core
core_of k = core_by k.dispatcher

-- all that was shown
abbrev pub chain_of : Keeper → List Shot
chain_of k = shown_by k.publisher

-- which studio it is the keeper of
abbrev pub studio_of : Keeper → Book
studio_of k = publisher_studio k.publisher

-- the shot shows the core as it is
pub record IsShotOf (core : Core) (shot : Shot) : Type 0 where
  pub mask : shot.mask ≡ core.mask
  pub conn : shot.conn ≡ core.conn
  pub state : shot.state ≡ core.state
  pub image : shot.image ≡ core.image
  pub quiet : IsTrue shot.quiet ↔ IsQuiet core

-- a shot of the core as it is was shown after all others
abbrev pub ShowsOneMore : Keeper → Keeper → Type 0
ShowsOneMore old new = (shot : Shot) × IsShotOf (core_of old) shot × (chain_of new ≡ chain_of old ++ shot ∷ [])

-- no eye looks in vain for having learnt of this receipt
abbrev pub HasShown : Keeper → Told → Type 0
HasShown k told = ShowsTold k.publisher told

-- nothing was shown, and the studio is the same
pub record IsUntouched (old new : Keeper) : Type 0 where
  pub chain : chain_of new ≡ chain_of old
  pub studio : studio_of new ≡ studio_of old
