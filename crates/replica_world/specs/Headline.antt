-- What holds of each replica at every moment, and where replicas agree.
use Rattle.std.specs.Prelude.{◌≡◌, ℕ, ◌↔◌, List}
use Rattle.grid_core.specs.Raster.{IsSized, IsBelow}
use Rattle.stroke_core.specs.Seed.{Seed}
use Rattle.stroke_lattice.specs.State.{State, SomeHasStroke, SomeHasTombstone, IsJoinOf}
use Rattle.core_rules.specs.{Work.IsQuiet, Invariant.HasLawfulImage, Invariant.HasReconstruction}
use Rattle.replica_world.specs.World.{Replica, World}

-- a replica of this world shows what it took: its strokes are the join of the deltas that it took; its image lies
-- between the marker of the strokes and the reconstruction of the mask from it; and it is that reconstruction where no
-- work is left
pub record IsFaithful (world : World) (replica : Replica) : Type 0 where
  pub mask : replica.core.mask ≡ world.mask
  pub conn : replica.core.conn ≡ world.conn
  pub joined : IsJoinOf replica.took replica.core.state
  pub sized : IsSized replica.core.image
  pub below : IsBelow replica.core.image replica.core.mask
  pub lawful : HasLawfulImage replica.core
  pub quiet : IsQuiet replica.core → HasReconstruction replica.core

-- two lists of deltas are the same in content: each stroke and each tombstone in a member of the one stands in some
-- member of the other
pub record HaveSameContent (first second : List State) : Type 0 where
  pub strokes : (tag : ℕ) (seed : Seed) → SomeHasStroke first tag seed ↔ SomeHasStroke second tag seed
  pub tombstones : (tag : ℕ) → SomeHasTombstone first tag ↔ SomeHasTombstone second tag

-- replicas that took the same strokes and withdrawals, in any order and with repeats, hold equal strokes; and where no
-- work is left at either, equal images
pub record Agree (a b : Replica) : Type 0 where
  pub states : HaveSameContent a.took b.took → a.core.state ≡ b.core.state
  pub images : HaveSameContent a.took b.took → IsQuiet a.core → IsQuiet b.core → a.core.image ≡ b.core.image

-- a replica that took the same in content has the same strokes
abbrev pub SameContentGivesEqualStates : Type 0
SameContentGivesEqualStates =
    (world : World) (a b : Replica) → IsFaithful world a → IsFaithful world b → HaveSameContent a.took b.took
    → a.core.state ≡ b.core.state

-- and where no work is left at both, the same image
abbrev pub EqualImagesWhereQuiet : Type 0
EqualImagesWhereQuiet =
    (world : World) (a b : Replica) → IsFaithful world a → IsFaithful world b → HaveSameContent a.took b.took
    → IsQuiet a.core → IsQuiet b.core → a.core.image ≡ b.core.image
