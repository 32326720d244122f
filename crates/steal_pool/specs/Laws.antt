-- What the rule of the deque says to who reads it, as laws.
use Rattle.std.specs.Prelude.{◌≡◌, ℕ, List}
use mathlib.Core.Option.{some}
use lib.ListN.{get_elem?}
use Rattle.tile_generations.specs.Jobs.{Job}
use Rattle.steal_pool.specs.{Deal.IsDealt, declared.rule.EndView.EndView}

-- at a place among its jobs the end of this number has the job that was pushed at that place
pub record HasGot (views : List EndView) (port i k : ℕ) (x : Job) : Type 0 where
  pub end : EndView
  pub is_there : get_elem? views port ≡ some end
  pub got : get_elem? end.got i ≡ some (k, x)

-- what an end got was pushed by the owner, which is the end 0, at that place
abbrev pub GotIsPushed : Type 0
GotIsPushed =
    (items : List Job) (views : List EndView) (owner : EndView) (port i k : ℕ) (x : Job) → IsDealt items views
    → get_elem? views 0 ≡ some owner → HasGot views port i k x → get_elem? owner.pushed k ≡ some x

-- the job that was pushed at a place is got by one end at most, and once
abbrev pub GotOnce : Type 0
GotOnce =
    (items : List Job) (views : List EndView) (port other i j k : ℕ) (x y : Job) → IsDealt items views
    → HasGot views port i k x → HasGot views other j k y → (port ≡ other) × (i ≡ j)

-- what holds of pushed jobs while the deque keeps its rule
pub record PoolLaws : Type 0 where
  pub got_is_pushed : GotIsPushed
  pub got_once : GotOnce
