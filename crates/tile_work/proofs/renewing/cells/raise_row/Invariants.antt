-- What the loop of `raise_row` keeps.
use Rattle.std.proofs.Common.{◌≡◌, ℕ, ◌<◌, ◌≤◌, get_or, max, ◌↔◌, IsTrue}
use Rattle.tile_work.specs.Renewing.{SomeIsLess}
use Rattle.tile_work.proofs.renewing.cells.raise_row.Given as goal

-- the values so far are raised, and the others are as they were; and whether one of those so far rose
abbrev pub invariant-loop-i : goal.invariant-loop-i
invariant-loop-i l =
    ((k : ℕ) → k < l.i → get_or l.row k 0 ≡ max (get_or l.fn.row k 0) (get_or l.marker k 0))
    × ((k : ℕ) → l.i ≤ k → get_or l.row k 0 ≡ get_or l.fn.row k 0)
    × (IsTrue l.rose ↔ SomeIsLess 0 l.i l.fn.row l.marker)
