-- Lists of values that are compared. Only private functions have these words in their contracts.
use Rattle.std.specs.Prelude.{◌<◌, List, slice_index, ℕ, ◌≤◌}

-- none of the values from the place `from` to before `to` is above the other's in its place
abbrev pub AreNoneAbove : ℕ → ℕ → List ℕ → List ℕ → Type 0
AreNoneAbove from to ones others = (k : ℕ) → from ≤ k → k < to → slice_index ones k ≤ slice_index others k
