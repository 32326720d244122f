-- What is taken at the end.
use Rattle.std.specs.Prelude.{◌≡◌, ◌↔◌, ℕ, zero, suc, ◌<◌, List, length, All}
use Rattle.std.specs.List.{AllZip}
use mathlib.Core.Option.{some}
use lib.ListN.{get_elem?}
use Rattle.core_rules.specs.Runs.{Entry, IsRun}
use Rattle.steal_pool.specs.Views.{ring_room}
use Rattle.core_dispatch.specs.{declared.pen.PenEnd.PenEnd, Books.BooksView, Taking.HaveTakenEdits}
use Rattle.core_dispatch.specs.{declared.error.CloseError.CloseError, declared.error.CloseError.TheVariants.EndMissing}
use Rattle.core_dispatch.specs.{declared.error.CloseError.TheVariants.CountSpent, declared.turned.Results.Results}
use Rattle.core_dispatch.specs.{Dispatching.Dispatcher, Reports.HaveCollected, Growing.GrowsOn}
use Rattle.core_dispatch.specs.Pens.{IsEndOf, IsSameEnd, HasAllOf, IsSpent, KeepsPens, end_number}

-- each end is of a pen of the books
abbrev pub AreEndsOf : List PenEnd → BooksView → Type 0
AreEndsOf ends books = All (λ end. IsEndOf end books) ends

-- at this place there is an end of the pen of this number
abbrev pub IsPlaceOf : List PenEnd → ℕ → ℕ → Type 0
IsPlaceOf ends number place =
    (end : PenEnd) × (get_elem? ends place ≡ some end) × (end_number end ≡ number)

-- one of the ends is of the pen of this number
abbrev pub HasEndOf : List PenEnd → ℕ → Type 0
HasEndOf ends number = (place : ℕ) × IsPlaceOf ends number place

-- of each of so many pens there is an end
abbrev pub HaveEach : ℕ → List PenEnd → Type 0
HaveEach pens ends = (number : ℕ) → number < pens → HasEndOf ends number

-- there are so many ends, one of each of so many pens
abbrev pub IsOneOf : ℕ → List PenEnd → Type 0
IsOneOf pens ends = (length ends ≡ pens) × HaveEach pens ends

-- there is one end of each pen of the books
abbrev pub IsOneOfEach : List PenEnd → BooksView → Type 0
IsOneOfEach ends books = IsOneOf (length books.desks) ends

-- all that the pen of this number submitted before it ended was taken, once and in order
abbrev pub IsAllTaken : BooksView → List PenEnd → ℕ → Type 0
IsAllTaken books ends number =
    (place : ℕ) × (end : PenEnd) × (get_elem? ends place ≡ some end) × (end_number end ≡ number) × HasAllOf books end

-- all that each pen submitted before it ended was taken, once and in order
abbrev pub AreAllTaken : BooksView → List PenEnd → Type 0
AreAllTaken books ends = (number : ℕ) → number < length books.desks → IsAllTaken books ends number

-- the ends are of the same pens, which submitted the same and belong to these books
abbrev pub AreKept : List PenEnd → List PenEnd → BooksView → Type 0
AreKept old new books = AllZip IsSameEnd old new × AreEndsOf new books

-- events led from the one core to the other, on which the strokes only joined; the strokes at opening are the same, and
-- each pen that had its desk has it still
pub record HasGoneOn (old new : Dispatcher) : Type 0 where
  pub events : (log : List Entry) × IsRun old.books.core log new.books.core
  pub grows : GrowsOn old.books.core new.books.core
  pub opening : new.books.opening ≡ old.books.opening
  pub pens : KeepsPens old.books new.books

-- edits were taken, merged or listed, and nothing but the books is changed
pub record HasTakenEdits (old new : Dispatcher) : Type 0 where
  pub edits : ℕ
  pub taken : HaveTakenEdits old.books edits new.books
  pub other : new ≡ record old { books = new.books }

-- so many times in a row, each hand was asked for a report
abbrev pub AreRounds : ℕ → Dispatcher → Dispatcher → Type 0
AreRounds zero old new = new ≡ old
AreRounds (suc n) old new =
    (before : Dispatcher) × (results : Results) × AreRounds n old before × HaveCollected before results new

-- each hand was asked for a report, as many times in a row as reports of a hand may wait
pub record HasTakenReports (old new : Dispatcher) : Type 0 where
  pub count : ℕ
  pub all : count ≡ ring_room
  pub rounds : AreRounds count old new

-- in this order: edits were taken; and each hand was asked for all the reports that may wait
pub record HasTakenRest (old new : Dispatcher) : Type 0 where
  pub edited : Dispatcher
  pub edits : HasTakenEdits old edited
  pub reports : HasTakenReports edited new

-- as many edits of one of the pens were taken as can be counted, and it submitted more
abbrev pub HasSpentCount : List PenEnd → BooksView → Type 0
HasSpentCount ends books =
    (place : ℕ) × (end : PenEnd) × (get_elem? ends place ≡ some end) × IsSpent books end

-- there was one end of each pen, and all that is left was taken: all that each pen submitted, and then the reports that
-- may wait
pub record HasTakenAll (old : Dispatcher) (ends : List PenEnd) (new : Dispatcher) : Type 0 where
  pub one_of_each : IsOneOfEach ends old.books
  pub all_taken : AreAllTaken new.books ends
  pub goes_on : HasGoneOn old new
  pub rest : HasTakenRest old new

-- not all was taken, for this reason: nothing was, just where there is not one end of each pen; else nothing but edits
pub record HasNotTakenAll (old : Dispatcher) (ends : List PenEnd) (new : Dispatcher) (why : CloseError) : Type 0 where
  pub missing : (why ≡ EndMissing) ↔ (IsOneOfEach ends old.books → ⊥)
  pub nothing : why ≡ EndMissing → new ≡ old
  pub spent : why ≡ CountSpent → HasSpentCount ends new.books
  pub goes_on : HasGoneOn old new
  pub stays : HasTakenEdits old new
