-- For the crates above, too: what is left below the greatest value falls where cells rise.
use Rattle.std.proofs.Common.{◌≡◌, ℕ, zero, suc, ◌-◌, ◌<◌, ◌≤◌, List, [], ◌∷◌, length, get_or, set, arith}
use Rattle.std.proofs.lemmas.List.Sums.{sum_by-cons, sum_by-set}
use Rattle.grid_core.specs.Raster.{max_level, headroom}

-- a list of cells that all have risen, or stayed, has no more room
pub headroom_falls : (before after : List ℕ) → length after ≡ length before
    → ((k : ℕ) → k < length before → get_or before k 0 ≤ get_or after k 0)
    → headroom after ≤ headroom before
headroom_falls [] [] same rises = omega arith
headroom_falls [] (y ∷ after) same rises = absurd (omega (arith, same))
headroom_falls (x ∷ before) [] same rises = absurd (omega (arith, same))
headroom_falls (x ∷ before) (y ∷ after) same rises =
    let first : x ≤ y = rises 0 (omega arith) in
    let rest : headroom after ≤ headroom before =
    headroom_falls before after (omega (arith, same)) (λ k within. rises (suc k) (omega (arith, within))) in
    omega (
      arith,
      sum_by-cons (λ v. max_level - v) x before,
      sum_by-cons (λ v. max_level - v) y after,
    )

-- one cell that has risen takes from the room
pub headroom_less : (before after : List ℕ) (i : ℕ) → length after ≡ length before
    → ((k : ℕ) → k < length before → get_or before k 0 ≤ get_or after k 0)
    → i < length before → get_or before i 0 < get_or after i 0 → get_or after i 0 ≤ max_level
    → headroom after < headroom before
headroom_less [] after i same rises within more top = absurd (omega (arith, within))
headroom_less (x ∷ before) [] i same rises within more top = absurd (omega (arith, same))
headroom_less (x ∷ before) (y ∷ after) zero same rises within more top =
    let rest : headroom after ≤ headroom before =
    headroom_falls before after (omega (arith, same)) (λ k inside. rises (suc k) (omega (arith, inside))) in
    omega (
      arith,
      sum_by-cons (λ v. max_level - v) x before,
      sum_by-cons (λ v. max_level - v) y after,
    )
headroom_less (x ∷ before) (y ∷ after) (suc i) same rises within more top =
    let first : x ≤ y = rises 0 (omega arith) in
    let rest : headroom after < headroom before =
    headroom_less before after i (omega (arith, same)) (λ k inside. rises (suc k) (omega (arith, inside)))
    (omega (arith, within)) more top in
    omega (
      arith,
      sum_by-cons (λ v. max_level - v) x before,
      sum_by-cons (λ v. max_level - v) y after,
    )

-- a cell that is set higher takes from the room
pub headroom_set : (cells : List ℕ) (i v : ℕ) → i < length cells → get_or cells i 0 < v → v ≤ max_level
    → headroom (set cells i v) < headroom cells
headroom_set cells i v within more top = omega (arith, more, sum_by-set (λ w. max_level - w) cells i v 0 within)
