-- Deltas that are merged one after another, into the state of an image.
use Rattle.std.specs.{Prelude.◌≡◌, Prelude.ℕ, Prelude.List, Prelude.◌∷◌, Prelude.◌++◌, Prelude.◌⊎◌, List.AllByRecursion}
use Rattle.stroke_lattice.specs.State.{State, StateFits, AreCompatible, IsJoinOf, IsLeastOutside, IsLeastClash}
use Rattle.core_rules.specs.declared.error.CoreError.{CoreError}
use Rattle.core_rules.specs.declared.error.CoreError.TheVariants.{OutOfImage, Conflict, GenerationsSpent, Memory}
use Rattle.core_rules.specs.declared.error.CoreError.TheVariants.{BadSide}

-- all deltas are merged into the state: each fits an image of this width and height, and it is their join
pub record AreMerged (width height : ℕ) (deltas : List State) (state : State) : Type 0 where
  pub fit : AllByRecursion (StateFits width height) deltas
  pub join : IsJoinOf deltas state

-- why a state does not take a delta: a stroke of the delta does not fit, or else the two clash; the least
-- such tag is named
abbrev pub IsRefusedBy : ℕ → ℕ → State → State → CoreError → Type 0
IsRefusedBy width height state delta (OutOfImage tag) = IsLeastOutside width height delta tag
IsRefusedBy width height state delta (Conflict tag) = StateFits width height delta × IsLeastClash state delta tag
IsRefusedBy width height state delta GenerationsSpent = ⊥
IsRefusedBy width height state delta Memory = ⊥
IsRefusedBy width height state delta BadSide = ⊥

-- the first delta that is refused, by the state of those before it
pub record IsFirstRefusal (width height : ℕ) (deltas : List State) (e : CoreError) : Type 0 where
  pub before : List State
  pub delta : State
  pub after : List State
  pub parts : deltas ≡ before ++ delta ∷ after
  pub state : State
  pub merged : AreMerged width height before state
  pub refused : IsRefusedBy width height state delta e

-- a delta that the state of those before it could take, were there memory: it fits, and the two do not clash
pub record IsHalted (width height : ℕ) (deltas : List State) : Type 0 where
  pub before : List State
  pub delta : State
  pub after : List State
  pub parts : deltas ≡ before ++ delta ∷ after
  pub state : State
  pub merged : AreMerged width height before state
  pub fits : StateFits width height delta
  pub compatible : AreCompatible state delta

-- why not all deltas are merged: the first that is refused, or want of memory at one that could be taken
abbrev pub IsStop : ℕ → ℕ → List State → CoreError → Type 0
IsStop width height deltas e = IsFirstRefusal width height deltas e ⊎ ((e ≡ Memory) × IsHalted width height deltas)

-- why a state did not take a delta: it is refused, or there was no memory for one that could be taken
abbrev pub IsKeptOut : ℕ → ℕ → State → State → CoreError → Type 0
IsKeptOut width height state delta e =
    IsRefusedBy width height state delta e ⊎ ((e ≡ Memory) × StateFits width height delta × AreCompatible state delta)

-- behind whatever is merged into the one state, the deltas are merged, and lead to the other
abbrev pub LeadsOn : ℕ → ℕ → List State → State → State → Type 0
LeadsOn width height deltas old new =
    (front : List State) → AreMerged width height front old → AreMerged width height (front ++ deltas) new

-- behind whatever is merged into the state, merging stops at one of the deltas
abbrev pub StopsBehind : ℕ → ℕ → List State → State → CoreError → Type 0
StopsBehind width height deltas state e =
    (front : List State) → AreMerged width height front state → IsStop width height (front ++ deltas) e
