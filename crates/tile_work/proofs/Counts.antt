-- Of how many of so many numbers a test holds: by tests that agree, by parts, and at most.
use Rattle.std.proofs.Common.{◌≡◌, ℕ, zero, suc, ◌+◌, ◌<◌, ◌≤◌, Bool, true, false, cond, refl, ap, ◌∙◌, arith}
use Rattle.tile_work.specs.Counts.{count_from}

-- tests that agree, from one number on and from another, hold of as many
pub count_alike : (f g : ℕ → Bool) (a b n : ℕ) → ((k : ℕ) → k < n → f (a + k) ≡ g (b + k))
    → count_from f a n ≡ count_from g b n
count_alike f g a b zero same = refl
count_alike f g a b (suc n) same =
    let here : a ≡ a + 0 = omega arith in
    let there : b + 0 ≡ b = omega arith in
    let first : f a ≡ g b = ap f here ∙ same 0 (omega arith) ∙ ap g there in
    let later : (k : ℕ) → k < n → f (a + 1 + k) ≡ g (b + 1 + k) =
    λ k within.
    let on : a + 1 + k ≡ a + (k + 1) = omega arith in
    let back : b + (k + 1) ≡ b + 1 + k = omega arith in
    ap f on ∙ same (k + 1) (omega arith) ∙ ap g back in
    let rest = count_alike f g (a + 1) (b + 1) n later in
    ap (λ (t : Bool). cond t 1 0 + count_from f (a + 1) n) first ∙ ap (λ m. cond (g b) 1 0 + m) rest

-- two stretches, one behind the other
pub count_add : (f : ℕ → Bool) (from a b : ℕ)
    → count_from f from (a + b) ≡ count_from f from a + count_from f (from + a) b
count_add f from zero b =
    let all : 0 + b ≡ b = omega arith in
    let here : from + 0 ≡ from = omega arith in
    omega (arith, ap (count_from f from) all, ap (λ p. count_from f p b) here)
count_add f from (suc a) b =
    let more : suc a + b ≡ suc (a + b) = omega arith in
    let rest = count_add f (from + 1) a b in
    let there : from + 1 + a ≡ from + suc a = omega arith in
    omega (arith, ap (count_from f from) more, rest, ap (λ p. count_from f p b) there)

-- one number more
pub count_one_more : (f : ℕ → Bool) (from n : ℕ)
    → count_from f from (n + 1) ≡ count_from f from n + cond (f (from + n)) 1 0
count_one_more f from n =
    let one : count_from f (from + n) 1 ≡ cond (f (from + n)) 1 0 + 0 = refl in
    omega (arith, count_add f from n 1, one)

one_at_most : (b : Bool) → cond b 1 0 < 2
one_at_most true = omega arith
one_at_most false = omega arith

pub count_at_most_all : (f : ℕ → Bool) (from n : ℕ) → count_from f from n ≤ n
count_at_most_all f from zero = omega arith
count_at_most_all f from (suc n) =
    let rest = count_at_most_all f (from + 1) n in
    let one = one_at_most (f from) in
    omega (arith, rest, one)
