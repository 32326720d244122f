-- How much is left to do at a core.
use Rattle.std.specs.Prelude.{◌≡◌, ℕ, ◌⊎◌, List, length}
use Rattle.std.specs.List.{AllByRecursion}
use Rattle.stroke_lattice.specs.Change.{AreRising}
use Rattle.core_rules.specs.{Sweeps.IsReady, Work.Core}
use Rattle.tile_work.specs.WorkTable.{HasJobOut}

-- the tile is left: it is dirty, or has a job out
abbrev pub IsLeft : Core → ℕ → Type 0
IsLeft core t = IsReady core t ⊎ HasJobOut core.tiles t

-- it holds of so many numbers at least
pub record HasAtLeast (n : ℕ) (P : ℕ → Type 0) : Type 0 where
  pub numbers : List ℕ
  pub count : length numbers ≡ n
  pub rise : AreRising numbers
  pub holds : AllByRecursion P numbers
