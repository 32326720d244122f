-- Which pen writes for which desk.
use Rattle.std.specs.Prelude.{◌≡◌, ℕ, ◌<◌, List, [], length, map, replicate, All}
use mathlib.Core.Option.{some}
use lib.ListN.{get_elem?}
use Rattle.rtrb.specs.Ring.{sent, all_sent, known_free, IsPair, IsFinishedOf}
use Rattle.stroke_lattice.specs.State.{State}
use Rattle.core_dispatch.specs.{declared.desk.PenDesk.PenDesk, declared.pen.Pen.Pen, declared.pen.PenEnd.PenEnd}
use Rattle.core_dispatch.specs.{Books.BooksView, Books.edits_of, Taking.most_edits}

-- which of its books' pens a pen is
abbrev pub number_of : Pen → ℕ
number_of pen = pen.number

-- which of its books' pens it was that has finished
abbrev pub end_number : PenEnd → ℕ
end_number end = end.number

-- the edits that a pen submitted, oldest first
abbrev pub submitted : Pen → List State
submitted pen = sent pen.producer

-- how many places in its ring a pen knows to be free
abbrev pub free_places : Pen → ℕ
free_places pen = known_free pen.producer

-- the edits that a pen submitted before it finished
abbrev pub all_submitted : PenEnd → List State
all_submitted end = all_sent end.finished

-- the pen and the desk of its number are the two ends of one ring
abbrev pub HasDesk : Pen → List PenDesk → Type 0
HasDesk pen desks =
    (desk : PenDesk) × (get_elem? desks (number_of pen) ≡ some desk) × IsPair pen.producer desk.consumer

-- the pen is one of those of the books: its edits come to the desk of its number
abbrev pub IsOf : Pen → BooksView → Type 0
IsOf pen books = HasDesk pen books.desks

-- each of the pens is one of those of the books
abbrev pub AreOf : List Pen → BooksView → Type 0
AreOf pens books = All (λ pen. IsOf pen books) pens

-- what is left of a pen is of one of those of the books
abbrev pub IsEndOf : PenEnd → BooksView → Type 0
IsEndOf end books =
    (desk : PenDesk) × (get_elem? books.desks (end_number end) ≡ some desk)
    × IsFinishedOf end.finished desk.consumer

-- the pen has its number still, and of which books it was, of these it still is
pub record KeepsDesk (old new : Pen) : Type 0 where
  pub number : number_of new ≡ number_of old
  pub books : (books : BooksView) → IsOf old books → IsOf new books

-- what is left of the pen has its number, and of which books the pen was, of these it is
pub record KeepsDeskAtEnd (pen : Pen) (end : PenEnd) : Type 0 where
  pub number : end_number end ≡ number_of pen
  pub books : (books : BooksView) → IsOf pen books → IsEndOf end books

-- the books have as many desks as before, and each pen, finished or not, that was of them is so still
pub record KeepsPens (old new : BooksView) : Type 0 where
  pub count : length new.desks ≡ length old.desks
  pub pens : (pen : Pen) → IsOf pen old → IsOf pen new
  pub ends : (end : PenEnd) → IsEndOf end old → IsEndOf end new

-- the pen at this place of the list has this number, and is the one of the desk of this number
abbrev pub HasItsDesk : List Pen → List PenDesk → ℕ → Type 0
HasItsDesk pens desks number =
    (pen : Pen) × (get_elem? pens number ≡ some pen) × (number_of pen ≡ number) × HasDesk pen desks

-- these are both ends of so many rings, in the same order, into which nothing was sent
pub record AreRings (count : ℕ) (desks : List PenDesk) (pens : List Pen) : Type 0 where
  pub taken : map edits_of desks ≡ replicate count []
  pub sent : map submitted pens ≡ replicate count []
  pub rings : (i : ℕ) → i < count → HasItsDesk pens desks i

-- ---- what is left of a pen

-- all that the pen submitted was taken
abbrev pub HasAllOf : BooksView → PenEnd → Type 0
HasAllOf books end =
    (desk : PenDesk) × (get_elem? books.desks (end_number end) ≡ some desk) × (edits_of desk ≡ all_submitted end)

-- as many edits of the pen were taken as can be counted, and it submitted more
abbrev pub IsSpent : BooksView → PenEnd → Type 0
IsSpent books end =
    (desk : PenDesk) × (get_elem? books.desks (end_number end) ≡ some desk)
    × (length (edits_of desk) ≡ most_edits) × (most_edits < length (all_submitted end))

-- it is what is left of the same pen, which submitted the same
pub record IsSameEnd (old new : PenEnd) : Type 0 where
  pub number : end_number new ≡ end_number old
  pub submitted : all_submitted new ≡ all_submitted old
