-- What a merge changes: the tags that become live, and those that cease to be.
use Rattle.std.specs.Prelude.{ℕ, ◌<◌, List, [], ◌∷◌, ◌↔◌, Contains}
use Rattle.std.specs.List.{AllByRecursion}
use Rattle.stroke_lattice.specs.State.{State, IsLiveTag}

-- tags that were born and tags that died
pub record Turnover : Type 0 where
  pub born : List ℕ
  pub dead : List ℕ

-- each tag is less than all later ones
abbrev pub AreRising : List ℕ → Type 0
AreRising [] = Unit {0}
AreRising (tag ∷ rest) = AllByRecursion (λ other. tag < other) rest × AreRising rest

-- born are the tags live after and not before, dead those live before and not after, each list rising
pub record IsChange (before after : State) (change : Turnover) : Type 0 where
  pub born : (tag : ℕ) → Contains change.born tag ↔ (IsLiveTag after tag × (IsLiveTag before tag → ⊥))
  pub dead : (tag : ℕ) → Contains change.dead tag ↔ (IsLiveTag before tag × (IsLiveTag after tag → ⊥))
  pub born_rise : AreRising change.born
  pub dead_rise : AreRising change.dead
