-- What becomes of an edit that is taken of a pen.
use Rattle.std.specs.Prelude.{◌≡◌, ℕ, ◌+◌, ◌<◌, ◌⊎◌, List, [], ◌∷◌, ◌++◌, length, slice_set, Bool, true, false, Result}
use Rattle.std.specs.Prelude.{Ok, Err, sum_by}
use Rattle.std.specs.List.{list_any}
use mathlib.Core.Option.{some}
use lib.ListN.{get_elem?}
use Rattle.rtrb.specs.Ring.{known_items, SameConsumer}
use Rattle.stroke_lattice.specs.{State.State, Change.Turnover}
use Rattle.grid_core.specs.declared.memory.Memory.{Memory as Wanting}
use Rattle.core_rules.specs.{declared.error.CoreError.CoreError, Merge.IsMerged, Events.Merge, Runs.Entry, Runs.IsRun}
use Rattle.reset_core.specs.Answers.{IsNotMerged}
use Rattle.core_dispatch.specs.{declared.refusal.Refusal.Refusal, declared.desk.PenDesk.PenDesk}
use Rattle.core_dispatch.specs.{declared.taken.Taken.Taken, declared.taken.Edits.Edits, Books.BooksView, Books.edits_of}
use Rattle.core_dispatch.specs.declared.taken.Taken.TheVariants.{Nothing, Merged, Listed}
use Rattle.core_rules.specs.declared.error.CoreError.TheVariants as errors

-- how many edits of a pen can be counted, 2^64 - 1
abbrev pub most_edits : ℕ
most_edits = 18446744073709551615

-- the edits that wait at a desk, as far as they were seen there
abbrev pub seen_at : PenDesk → List State
seen_at desk = known_items desk.consumer

-- the edit was taken at the desk, and it is the oldest of those that were seen there, if there were such
pub record IsNext (old : PenDesk) (delta : State) (new : PenDesk) : Type 0 where
  pub edits : edits_of new ≡ edits_of old ++ delta ∷ []
  pub oldest : 0 < length (seen_at old) → seen_at old ≡ delta ∷ seen_at new

-- no edit was taken at the desk, since none is seen there, or since as many were taken as can be counted
pub record HasNoneLeft (old new : PenDesk) : Type 0 where
  pub edits : edits_of new ≡ edits_of old
  pub why : ((seen_at old ≡ []) × (seen_at new ≡ [])) ⊎ (length (edits_of old) ≡ most_edits)

-- what became of the edit: none was there; or it was merged; or it is listed with its pen, its number and the reason
-- why the core does not take it
abbrev pub Becomes : ℕ → BooksView → PenDesk → Taken → BooksView → PenDesk → Type 0
Becomes pen old desk Nothing new after =
    HasNoneLeft desk after × (new.core ≡ old.core) × (new.refusals ≡ old.refusals)
Becomes pen old desk Merged new after =
    (delta : State) × IsNext desk delta after
    × ((turnover : Turnover) × IsMerged old.core delta turnover new.core) × (new.refusals ≡ old.refusals)
Becomes pen old desk (Listed error) new after =
    (delta : State) × IsNext desk delta after × (new.core ≡ old.core) × IsNotMerged old.core delta error
    × (new.refusals
    ≡ old.refusals ++ record { pen = pen; number = length (edits_of desk); error = error; delta = delta } ∷ [])

-- the next edit of the pen was taken, if there was one, and this became of it; all other desks are as they were
pub record IsEditTaken (pen : ℕ) (old : BooksView) (taken : Taken) (new : BooksView) : Type 0 where
  pub desk : PenDesk
  pub after : PenDesk
  pub at : get_elem? old.desks pen ≡ some desk
  pub ring : SameConsumer desk.consumer after.consumer
  pub desks : new.desks ≡ slice_set old.desks pen after
  pub opening : new.opening ≡ old.opening
  pub becomes : Becomes pen old desk taken new after

-- ---- one round over the pens, and all that is left of a pen

-- so it was, unless memory was wanting for a place in the list of refusals; then nothing happened
abbrev pub IsPenTurn : ℕ → BooksView → Result Taken Wanting → BooksView → Type 0
IsPenTurn pen old (Ok taken) new = IsEditTaken pen old taken new
IsPenTurn pen old (Err wanting) new = new ≡ old

-- the pens, from the one of this number on, had one turn each, in order, and this became of them
abbrev pub ArePenTurns : ℕ → BooksView → List (Result Taken Wanting) → BooksView → Type 0
ArePenTurns pen old [] new = new ≡ old
ArePenTurns pen old (answer ∷ answers) new =
    (next : BooksView) × IsPenTurn pen old answer next × ArePenTurns (pen + 1) next answers new

-- how many edits were taken in the turn
abbrev pub edits_in : Result Taken Wanting → ℕ
edits_in (Ok Nothing) = 0
edits_in (Ok Merged) = 1
edits_in (Ok (Listed error)) = 1
edits_in (Err wanting) = 0

-- memory was wanting in a merge
abbrev pub is_memory : CoreError → Bool
is_memory errors.Memory = true
is_memory (errors.OutOfImage tag) = false
is_memory (errors.Conflict tag) = false
is_memory errors.GenerationsSpent = false
is_memory errors.BadSide = false

-- memory was wanting in the turn
abbrev pub is_wanting : Result Taken Wanting → Bool
is_wanting (Ok Nothing) = false
is_wanting (Ok Merged) = false
is_wanting (Ok (Listed error)) = is_memory error
is_wanting (Err wanting) = true

-- each pen had one turn, and this is how many edits were taken, and whether memory was wanting in one of the turns
pub record IsRound (old : BooksView) (edits : Edits) (new : BooksView) : Type 0 where
  pub answers : List (Result Taken Wanting)
  pub turns : ArePenTurns 0 old answers new
  pub all : length answers ≡ length old.desks
  pub count : edits.edits ≡ sum_by edits_in answers
  pub memory : edits.memory ≡ list_any is_wanting answers

-- each of the events is a merge
abbrev pub AreMerges : List Entry → Type 0
AreMerges [] = Unit {0}
AreMerges ((Merge delta, answer) ∷ log) = AreMerges log
AreMerges (entry ∷ log) = ⊥

-- so many edits were taken: some are merged, one after another, and the others are listed after the refusals that stood
-- there
pub record HaveTakenEdits (old : BooksView) (edits : ℕ) (new : BooksView) : Type 0 where
  pub log : List Entry
  pub listed : List Refusal
  pub run : IsRun old.core log new.core
  pub merges : AreMerges log
  pub refusals : new.refusals ≡ old.refusals ++ listed
  pub all : length log + length listed ≡ edits
  pub opening : new.opening ≡ old.opening
