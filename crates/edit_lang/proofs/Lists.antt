-- Lists of numbers, up to the first element that passes a test.
use Rattle.std.proofs.Common.{◌≡◌, ℕ, ◌≤◌, Bool, false, List, length, All, arith}
use Rattle.std.proofs.{lemmas.List.Sums.fails_before_first, lemmas.Grind.common_steps}
use Rattle.std.specs.List.{position_or_len, before_first}

-- no element before the first that passes does
pub front_fails : (p : ℕ → Bool) (xs : List ℕ) → All (λ x. p x ≡ false) (before_first p xs)
front_fails p xs = λ k d m.
    let fails = fails_before_first p xs k d (grind (arith, common_steps)) in grind (arith, common_steps)

-- where none passes, all fail
pub all_fail : (p : ℕ → Bool) (xs : List ℕ) → length xs ≤ position_or_len p xs → All (λ x. p x ≡ false) xs
all_fail p xs h = λ k d m. fails_before_first p xs k d (omega arith)
