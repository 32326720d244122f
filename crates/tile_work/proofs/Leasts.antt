-- Numbers of which something holds, from one on: the least of them, by what it is to be one.
use Rattle.std.proofs.Common.{ℕ, Bool, List, arith, Option, Some, None, MatchOption}
use Rattle.border_queues.specs.TileWork.{IsLeast}
use Rattle.tile_work.specs.{Least.IsLeastFrom, TileSet.Has, TileSet.HasNoneFrom, TileSet.IsFirstFrom}

-- what holds of the same numbers has the same least one
pub least_alike : (P Q : ℕ → Type 0) → ((n : ℕ) → P n → Q n) → ((n : ℕ) → Q n → P n) → (from : ℕ) (answer : Option ℕ)
    → IsLeastFrom P from answer → IsLeastFrom Q from answer
least_alike P Q to back from None none = λ n le q. none n le (back n q)
least_alike P Q to back from (Some t) least =
    ((least.0.0, to t least.0.1), λ n other. least.1 n (other.0, back n other.1))

-- the least from 0 on is the least of all
pub least_of_all : (P : ℕ → Type 0) (answer : Option ℕ) → IsLeastFrom P 0 answer
    → MatchOption answer ((n : ℕ) → P n → ⊥) (IsLeast P)
least_of_all P None none = λ n p. none n (omega arith) p
least_of_all P (Some t) least = (least.0.1, λ n p. least.1 n (omega arith, p))

-- the first tile of a set is the least that is in it
pub least_of_set : (set : List Bool) (start : ℕ) (answer : Option ℕ)
    → MatchOption answer (HasNoneFrom set start) (IsFirstFrom set start) → IsLeastFrom (Has set) start answer
least_of_set set start None none = none
least_of_set set start (Some t) found = ((found.from, found.has), λ u other. found.first u other.0 other.1)
