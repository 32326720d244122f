-- What a link gave meanwhile, and what stands in the frames among it.
use Rattle.std.specs.Prelude.{◌≡◌, ◌⊎◌, ◌++◌, ℕ, List, Contains, option_map}
use Rattle.grid_core.specs.declared.conn.Conn.{Conn}
use Rattle.stroke_core.specs.Seed.{Seed}
use Rattle.stroke_lattice.specs.State.{State, HasStroke, HasTombstone, IsBelow}
use Rattle.spd_codec.specs.Spelling.{Spells}
use Rattle.link_nodes.specs.Links.{LinkSeen}

-- polls gave these datagrams after those that they had given, where it is known what they give
abbrev pub HasGiven : LinkSeen → LinkSeen → List (List ℕ) → Type 0
HasGiven old new given = new.heard ≡ option_map (λ known. known ++ given) old.heard

-- one of the datagrams is a frame of these strokes and tombstones, for this image
abbrev pub SomeSpells : Conn → List ℕ → List (List ℕ) → State → Type 0
SomeSpells conn print given delta = (datagram : List ℕ) × Contains given datagram × Spells datagram conn print delta

-- the stroke stands in a frame for this image among the datagrams
abbrev pub SomeGivenHasStroke : Conn → List ℕ → List (List ℕ) → ℕ → Seed → Type 0
SomeGivenHasStroke conn print given tag seed =
    (delta : State) × SomeSpells conn print given delta × HasStroke delta tag seed

-- the tombstone does
abbrev pub SomeGivenHasTombstone : Conn → List ℕ → List (List ℕ) → ℕ → Type 0
SomeGivenHasTombstone conn print given tag =
    (delta : State) × SomeSpells conn print given delta × HasTombstone delta tag

-- the state is above the first one, and all else in it stands in frames for this image among the datagrams
pub record ComesFrom (conn : Conn) (print : List ℕ) (given : List (List ℕ)) (first state : State) : Type 0 where
  pub above : IsBelow first state
  pub strokes : (tag : ℕ) (seed : Seed) → HasStroke state tag seed
      → HasStroke first tag seed ⊎ SomeGivenHasStroke conn print given tag seed
  pub tombstones : (tag : ℕ) → HasTombstone state tag
      → HasTombstone first tag ⊎ SomeGivenHasTombstone conn print given tag
