-- Hints that are handed over, one after another.
use Rattle.std.specs.Prelude.{◌≡◌, ◌≢◌, ℕ, ◌+◌, ◌<◌, ◌≤◌, ◌⊎◌, Option, None, Some, List, [], ◌∷◌, length, sum_by}
use Rattle.border_queues.specs.TileWork.{TileWork}
use Rattle.core_rules.specs.{Work.Core, Events.Hand, Events.OfHand}
use Rattle.core_rules.specs.declared.answers.Handed.TheVariants.{Nothing}
use Rattle.core_rules.specs.Runs.{Entry, IsRun, HasHints}

-- the greatest count, 2^64 - 1
abbrev pub most : ℕ
most = 18446744073709551615

-- each of the events hands over a hint, which is there
abbrev pub AreHands : List Entry → Type 0
AreHands [] = Unit {0}
AreHands ((Hand t place, OfHand handed) ∷ log) = (handed ≢ Nothing) × AreHands log
AreHands (entry ∷ log) = ⊥

-- the count is this many, or the greatest count where there are more
abbrev pub Counts : ℕ → ℕ → Type 0
Counts count n = (count ≡ n) ⊎ ((count ≡ most) × (most ≤ n))

-- hints were handed over, one after another, so many
pub record HaveHanded (before : Core) (hands : ℕ) (after : Core) : Type 0 where
  pub log : List Entry
  pub run : IsRun before log after
  pub are_hands : AreHands log
  pub count : Counts hands (length log)

-- the sum of the two, as far as can be counted. Only private functions have this and the rest in their contracts
abbrev pub IsSum : ℕ → ℕ → ℕ → Type 0
IsSum n k sum = ((n + k ≤ most) × (sum ≡ n + k)) ⊎ ((most < n + k) × (sum ≡ most))

-- how many hints wait, in all
abbrev pub waiting_count : List TileWork → ℕ
waiting_count works = sum_by (λ work. length work.inbox) works

-- so many hints were handed over, one after another, and as many fewer wait
pub record WereHanded (n : ℕ) (before after : Core) : Type 0 where
  pub log : List Entry
  pub run : IsRun before log after
  pub are_hands : AreHands log
  pub count : length log ≡ n
  pub fewer : waiting_count after.tiles + n ≤ waiting_count before.tiles

-- some hints were handed over, as many as the answer says, if any waited
abbrev pub IsNextHanded : Core → Option ℕ → Core → Type 0
IsNextHanded before (Some n) after = (0 < n) × WereHanded n before after
IsNextHanded before None after = (after ≡ before) × ((u : ℕ) → HasHints before u → ⊥)
