-- The laws of reconstruction, as statements. Public functions have them as their contracts.
use Rattle.std.specs.Prelude.{◌≡◌, ℕ, ◌≤◌, ◌↔◌}
use Rattle.grid_core.specs.{declared.pixel.Pixel.Pixel, Neighbours.AreNeighbours, Owed.IsOwed}
use Rattle.grid_core.specs.Path.{Domain, Inside, Reaches}
use Rattle.grid_core.specs.Reconstruction.{IsReconstruction, IsLawful, IsClosed, IsRaise}

-- a mask and a marker have at most one reconstruction
abbrev pub AtMostOneReconstruction : Type 0
AtMostOneReconstruction =
    (d : Domain) (mask marker r s : Pixel → ℕ) → IsReconstruction d mask marker r → IsReconstruction d mask marker s
    → (p : Pixel) → Inside d p → r p ≡ s p

-- a pixel that reaches a level reaches each lower one
abbrev pub ReachesLowerLevels : Type 0
ReachesLowerLevels =
    (d : Domain) (mask marker : Pixel → ℕ) (p : Pixel) (k l : ℕ) → l ≤ k → Reaches d mask marker p k
    → Reaches d mask marker p l

-- a pixel reaches level 0
abbrev pub ReachesLevelZero : Type 0
ReachesLevelZero = (d : Domain) (mask marker : Pixel → ℕ) (p : Pixel) → Inside d p → Reaches d mask marker p 0

-- a pixel reaches no level above its mask
abbrev pub ReachIsWithinMask : Type 0
ReachIsWithinMask = (d : Domain) (mask marker : Pixel → ℕ) (p : Pixel) (k : ℕ) → Reaches d mask marker p k → k ≤ mask p

-- a pixel reaches under a greater marker what it reaches under a lesser
abbrev pub ReachRisesWithMarker : Type 0
ReachRisesWithMarker =
    (d : Domain) (mask lesser greater : Pixel → ℕ) → ((p : Pixel) → Inside d p → lesser p ≤ greater p)
    → (p : Pixel) (k : ℕ) → Reaches d mask lesser p k → Reaches d mask greater p k

-- a pixel beside one that reaches a level reaches it too, where its mask is no less than the level
abbrev pub ReachBeside : Type 0
ReachBeside =
    (d : Domain) (mask marker : Pixel → ℕ) (p q : Pixel) (k : ℕ) → Reaches d mask marker p k → Inside d q
    → AreNeighbours d.conn p q → k ≤ mask q → Reaches d mask marker q k

-- a raise keeps an image lawful
abbrev pub RaiseKeepsLawful : Type 0
RaiseKeepsLawful =
    (d : Domain) (mask marker old new : Pixel → ℕ) (p q : Pixel) → IsLawful d mask marker old
    → IsRaise d mask old new p q
    → IsLawful d mask marker new

-- a lawful image that no raise can change is the reconstruction
abbrev pub ClosedLawfulIsReconstruction : Type 0
ClosedLawfulIsReconstruction =
    (d : Domain) (mask marker j : Pixel → ℕ) → IsLawful d mask marker j → IsClosed d mask j
    → IsReconstruction d mask marker j

-- a lawful image lies between the marker and the reconstruction
abbrev pub LawfulLiesBetween : Type 0
LawfulLiesBetween =
    (d : Domain) (mask marker j r : Pixel → ℕ) → IsLawful d mask marker j → IsReconstruction d mask marker r
    → (p : Pixel) → Inside d p → (marker p ≤ j p) × (j p ≤ r p)

-- what is owed to an image is at most one number
abbrev pub AtMostOneOwed : Type 0
AtMostOneOwed =
    (d : Domain) (mask marker j : Pixel → ℕ) (n m : ℕ) → IsOwed d mask marker j n → IsOwed d mask marker j m → n ≡ m

-- to each lawful image some number is owed
abbrev pub LawfulIsOwed : Type 0
LawfulIsOwed =
    (d : Domain) (mask marker j : Pixel → ℕ) → IsLawful d mask marker j → (n : ℕ) × IsOwed d mask marker j n

-- to a lawful image nothing is owed just where it is the reconstruction
abbrev pub OwedNothing : Type 0
OwedNothing =
    (d : Domain) (mask marker j : Pixel → ℕ) → IsLawful d mask marker j
    → IsOwed d mask marker j 0 ↔ IsReconstruction d mask marker j

-- the levels that a pixel reaches go from 0 up, and end within the mask
pub record LevelLaws : Type 0 where
  pub reaches_level_zero : ReachesLevelZero
  pub reaches_lower_levels : ReachesLowerLevels
  pub reach_is_within_mask : ReachIsWithinMask

-- lawful images rise by raises up to the reconstruction
pub record LawfulLaws : Type 0 where
  pub raise_keeps_lawful : RaiseKeepsLawful
  pub lawful_lies_between : LawfulLiesBetween
  pub closed_lawful_is_reconstruction : ClosedLawfulIsReconstruction

-- one number is owed to a lawful image, and 0 to the reconstruction alone
pub record OwedLaws : Type 0 where
  pub at_most_one_owed : AtMostOneOwed
  pub lawful_is_owed : LawfulIsOwed
  pub owed_nothing : OwedNothing
