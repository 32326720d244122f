-- Hints that wait, as plain data.
use Rattle.std.specs.Prelude.{◌≡◌, ℕ, ◌+◌, ◌≤◌, List, length, ◌++◌, Result, IsOk, OnOk, OnErr}
use Rattle.border_queues.specs.declared.hint.Hint.{Hint}

-- the hints, first come first, and how many more there is room for
pub record Waiting : Type 0 where
  pub hints : List Hint
  pub room : ℕ

-- how many hints there are and may come without a growth
abbrev pub places : Waiting → ℕ
places w = length w.hints + w.room

-- these hints came behind the others, in no more than so many places, and no place was lost
pub record AddsWithin (old new : Waiting) (hints : List Hint) (most : ℕ) : Type 0 where
  pub behind : new.hints ≡ old.hints ++ hints
  pub room : old.room ≤ new.room + most
  pub kept : places old ≤ places new

-- these hints came behind the others, and no place was lost
pub record Adds (old new : Waiting) (hints : List Hint) : Type 0 where
  pub behind : new.hints ≡ old.hints ++ hints
  pub kept : places old ≤ places new

-- so they did, or memory was wanting and the hints stayed; with so much room there is no want, and no place is lost
pub record AddsOrFails {E : Type 0} (old new : Waiting) (added : List Hint) (enough_room : ℕ)
    (result : Result (Unit {0}) E) : Type 0 where
  pub hints : OnOk result (new.hints ≡ old.hints ++ added)
  pub enough : enough_room ≤ old.room → IsOk result
  pub kept : places old ≤ places new
  pub err : OnErr result (new.hints ≡ old.hints)
