-- Chains of shots.
use Rattle.std.specs.Prelude.{◌≡◌, List, [], ◌∷◌, length, take, All, Option, Some, None}
use mathlib.Core.List.{IsPrefix}
use Rattle.stroke_lattice.specs.State.{IsBelow}
use Rattle.studio.specs.Shots.{Shot, IsSound}

-- the later shot is of the same mask and connectivity, and each stroke and tombstone of the earlier one stands in it
pub record LeadsTo (earlier later : Shot) : Type 0 where
  pub mask : later.mask ≡ earlier.mask
  pub conn : later.conn ≡ earlier.conn
  pub state : IsBelow earlier.state later.state

-- the shot y may be shown after x
pub record MayFollow (x y : Shot) : Type 0 where
  pub sound : IsSound y
  pub leads : LeadsTo x y

-- each shot leads to all later ones
abbrev pub Rises : List Shot → Type 0
Rises [] = Unit {0}
Rises (x ∷ xs) = All (λ y. LeadsTo x y) xs × Rises xs

-- each shot is sound and leads to all later ones: so all have one mask and connectivity, and states only rise
pub record IsChain (shots : List Shot) : Type 0 where
  pub sound : All (λ x. IsSound x) shots
  pub rises : Rises shots

-- the last of some shots, if there are any
abbrev pub last_of : List Shot → Option Shot
last_of [] = None
last_of (x ∷ []) = Some x
last_of (x ∷ (y ∷ ys)) = last_of (y ∷ ys)

-- the chain begins with these shots
abbrev pub Begins : List Shot → List Shot → Type 0
Begins chain seen = IsPrefix seen chain

-- the same, as an equation
abbrev pub Holds : List Shot → List Shot → Type 0
Holds chain seen = take (length seen) chain ≡ seen
