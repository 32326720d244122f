-- What is left of a pen, while it is taken. Only private functions have this in their contracts.
use Rattle.std.specs.Prelude.{◌≡◌, ℕ, ◌≢◌, ◌++◌, length}
use mathlib.Core.Option.{some}
use lib.ListN.{get_elem?}
use Rattle.core_dispatch.specs.{declared.desk.PenDesk.PenDesk, declared.pen.PenEnd.PenEnd, Books.BooksView}
use Rattle.core_dispatch.specs.{Books.edits_of, Taking.HaveTakenEdits, Taking.seen_at}
use Rattle.core_dispatch.specs.Pens.{KeepsPens, end_number, all_submitted}

-- so many edits of the pen are left, and all of them were seen
pub record HasLeft (books : BooksView) (end : PenEnd) (left : ℕ) : Type 0 where
  pub desk : PenDesk
  pub at : get_elem? books.desks (end_number end) ≡ some desk
  pub whole : edits_of desk ++ seen_at desk ≡ all_submitted end
  pub count : length (seen_at desk) ≡ left

-- edits of the pen of this number were taken, or none
pub record HasMoved (pen : ℕ) (old new : BooksView) : Type 0 where
  pub taken : (edits : ℕ) × HaveTakenEdits old edits new
  pub others : (other : ℕ) → other ≢ pen → get_elem? new.desks other ≡ get_elem? old.desks other
  pub pens : KeepsPens old new
