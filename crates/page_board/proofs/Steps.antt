-- Steps that rise.
use Rattle.std.proofs.Common.{◌≡◌, ℕ, suc, ◌+◌, ◌<◌, inl, inr, arith, nat_lt, if◌then◌else◌, min}
use Rattle.std.proofs.lemmas.Bool.Decides.{leb_tells}

-- the next step is after the one before it, or no step is
pub next_is_later : (step next last : ℕ) → next ≡ min (step + 1) last → 0 < last
    → (if nat_lt next last then step else 0) < next
next_is_later step next last is some = elim (leb_tells (suc next) last) [
  | inl goes_on ↦ rw goes_on.0 (omega (arith, is, goes_on.1))
  | inr spent ↦ rw spent.0 (omega (arith, is, some))
]
