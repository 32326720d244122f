-- The books of whoever keeps a core: what was taken of the pens, and that the strokes of the core are just that.
use Rattle.std.specs.Prelude.{◌≡◌, ℕ, ◌⊎◌, List, map, refl}
use Rattle.std.specs.Coded.{Coded, code_by, coded×, coded_list}
use mathlib.Core.Option.{some}
use lib.ListN.{get_elem?}
use Rattle.rtrb.specs.Ring.{received}
use Rattle.stroke_core.specs.Seed.{Seed}
use Rattle.stroke_lattice.specs.State.{State, HasStroke, HasTombstone, IsBelow, ClashAt, IsOutside}
use Rattle.tile_generations.specs.Generations.{max_generation}
use Rattle.core_rules.specs.{declared.error.CoreError.CoreError, Work.Core, Work.IsTile, Work.work_at}
use Rattle.core_rules.specs.declared.error.CoreError.TheVariants.{OutOfImage, Conflict, GenerationsSpent, Memory}
use Rattle.core_rules.specs.declared.error.CoreError.TheVariants.{BadSide}
use Rattle.core_dispatch.specs.{declared.refusal.Refusal.Refusal, declared.desk.PenDesk.PenDesk}

-- ---- what was taken

-- the core, the strokes at opening, the edits that were taken of each pen, and the refused ones
pub record Ledger : Type 0 where
  pub core : Core
  pub opening : State
  pub taken : List (List State)
  pub refusals : List Refusal

-- the pen's edit of this number was taken
abbrev pub StandsAt : List (List State) → ℕ → ℕ → State → Type 0
StandsAt taken pen n delta =
    (edits : List State) × (get_elem? taken pen ≡ some edits) × (get_elem? edits n ≡ some delta)

-- the pen's edit of this number is among the refused
abbrev pub IsListed : List Refusal → ℕ → ℕ → Type 0
IsListed refusals pen n =
    (i : ℕ) × (r : Refusal) × (get_elem? refusals i ≡ some r) × (r.pen ≡ pen) × (r.number ≡ n)

-- the pen's edit of this number was taken and not refused
abbrev pub IsKept : List (List State) → List Refusal → ℕ → ℕ → State → Type 0
IsKept taken refusals pen n delta = StandsAt taken pen n delta × (IsListed refusals pen n → ⊥)

-- why an edit was refused, as it still is: a stroke of it does not fit the image; a stroke of the core has another seed
-- under its tag; it withdraws, and a tile has spent its generations; or memory was wanting
abbrev pub IsReason : Core → State → CoreError → Type 0
IsReason core delta (OutOfImage tag) = IsOutside core.mask.width core.mask.height delta tag
IsReason core delta (Conflict tag) = ClashAt core.state delta tag
IsReason core delta GenerationsSpent =
    ((tag : ℕ) × HasTombstone delta tag)
    × ((t : ℕ) × IsTile core t × ((work_at core t).generation ≡ max_generation))
IsReason core delta Memory = Unit {0}
IsReason core delta BadSide = ⊥

-- one of the edits that were kept has the stroke
abbrev pub SomeKeptHasStroke : Ledger → ℕ → Seed → Type 0
SomeKeptHasStroke l tag seed =
    (pen n : ℕ) × (delta : State) × IsKept l.taken l.refusals pen n delta × HasStroke delta tag seed

-- one of the edits that were kept has the tombstone
abbrev pub SomeKeptHasTombstone : Ledger → ℕ → Type 0
SomeKeptHasTombstone l tag =
    (pen n : ℕ) × (delta : State) × IsKept l.taken l.refusals pen n delta × HasTombstone delta tag

-- the strokes of the core are the join of those at opening and of the edits that were kept; and each refused edit is
-- the pen's, and refused for a reason
pub record IsFaithful (l : Ledger) : Type 0 where
  pub opening : IsBelow l.opening l.core.state
  pub kept : (pen n : ℕ) (delta : State) → IsKept l.taken l.refusals pen n delta → IsBelow delta l.core.state
  pub strokes : (tag : ℕ) (seed : Seed) → HasStroke l.core.state tag seed
      → HasStroke l.opening tag seed ⊎ SomeKeptHasStroke l tag seed
  pub tombstones : (tag : ℕ) → HasTombstone l.core.state tag
      → HasTombstone l.opening tag ⊎ SomeKeptHasTombstone l tag
  pub refused : (i : ℕ) (r : Refusal) → get_elem? l.refusals i ≡ some r
      → StandsAt l.taken r.pen r.number r.delta × IsReason l.core r.delta r.error

-- ---- books

-- the edits that were taken at a desk, oldest first
abbrev pub edits_of : PenDesk → List State
edits_of desk = received desk.consumer

-- the books as contracts see them: with the desks, since their rings are those of the pens
pub record BooksView : Type 0 where
  pub core : Core
  pub opening : State
  pub desks : List PenDesk
  pub refusals : List Refusal

-- what the books say, without the rings
abbrev pub ledger : BooksView → Ledger
ledger b = record { core = b.core; opening = b.opening; taken = map edits_of b.desks; refusals = b.refusals }

-- nothing but the core is another
abbrev pub KeepsRest : BooksView → BooksView → Type 0
KeepsRest old new = new ≡ record old { core = new.core }

-- the code of books, from those of their parts
abbrev pub books_code : Coded Core → Coded State → Coded PenDesk → Coded Refusal → Coded BooksView
books_code core state desk refusal =
    code_by (Core × (State × (List PenDesk × List Refusal)))
    (coded× core (coded× state (coded× (coded_list desk) (coded_list refusal))))
    (λ b. (b.core, (b.opening, (b.desks, b.refusals))))
    (λ p. record { core = p.0; opening = p.1.0; desks = p.1.1.0; refusals = p.1.1.1 }) (λ _. refl)
