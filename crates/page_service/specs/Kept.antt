-- How a state that a file keeps goes on.
use Rattle.std.specs.Prelude.{◌≡◌, ℕ, ◌<◌, ◌≤◌, ◌-◌, ◌^◌, Bool, ◌==◌, ◌||◌, not, nat_le, List}

-- the last version: a count stops there
abbrev pub last_version : ℕ
last_version = 2 ^ 64 - 1

-- what is kept may have changed from the version before to the one after
abbrev pub may_differ : ℕ → ℕ → Bool
may_differ before after = not (after == before) || nat_le last_version after

-- From the old state to the new one the version does not fall, and what it had it has. Where the version stays, below
-- the last one, each file that keeps the old state keeps the new one.
pub record IsLater {S : Type 0} (version : S → ℕ) (spells has : S → List ℕ → Type 0) (old new : S) : Type 0 where
  pub rises : version old ≤ version new
  pub stays : version new ≡ version old → version new < last_version
      → (file : List ℕ) → spells old file → spells new file
  pub had : (file : List ℕ) → has old file → has new file

-- a state that took what these bytes keep has it, beside all that it had, and its version does not fall
pub record HasTaken {S : Type 0} (version : S → ℕ) (has : S → List ℕ → Type 0) (old : S) (found : List ℕ) (new : S)
    : Type 0 where
  pub rises : version old ≤ version new
  pub taken : has new found
  pub had : (file : List ℕ) → has old file → has new file

-- both states have one version, the same files keep them, and the new one has what the old one had
pub record IsKeptAlike {S : Type 0} (version : S → ℕ) (spells has : S → List ℕ → Type 0) (old new : S) : Type 0 where
  pub counted : version new ≡ version old
  pub spelled : (file : List ℕ) → spells old file → spells new file
  pub had : (file : List ℕ) → has old file → has new file
