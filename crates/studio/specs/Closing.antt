-- What is left of a studio at its end.
use Rattle.std.specs.Prelude.{◌≡◌, List}
use Rattle.core_dispatch.specs.{declared.pen.PenEnd.PenEnd, Books.IsFaithful, Books.ledger}
use Rattle.core_dispatch.specs.{Dispatching.Dispatcher, Dispatching.books_by, Dispatching.core_by}
use Rattle.core_dispatch.specs.Closing.{AreKept, HasTakenAll, HasNotTakenAll}
use Rattle.studio.specs.{declared.keeper.Keeper.Keeper, declared.closed.Closed.Closed}
use Rattle.studio.specs.{declared.closed.NotClosed.NotClosed}
use Rattle.studio.specs.Keeping.{dispatcher_of, books_of, IsUntouched}

-- the studio was closed: there was one end of each pen, and all that is left was taken; the books at the end are
-- faithful, and core and refusals are theirs
pub record IsClosed (keeper : Keeper) (ends : List PenEnd) (closed : Closed) : Type 0 where
  pub last : Dispatcher
  pub taken : HasTakenAll (dispatcher_of keeper) ends last
  pub faithful : IsFaithful (ledger (books_by last))
  pub core : closed.core ≡ core_by last
  pub refusals : closed.refusals.items ≡ (books_by last).refusals

-- the studio was not closed: not all that is left was taken, the ends are of the same pens, and they can be tried again
pub record IsNotClosed (keeper : Keeper) (ends : List PenEnd) (left : NotClosed) : Type 0 where
  pub not_taken : HasNotTakenAll (dispatcher_of keeper) ends (dispatcher_of left.keeper) left.why
  pub kept : AreKept ends left.ends.items (books_of left.keeper)
  pub untouched : IsUntouched keeper left.keeper
