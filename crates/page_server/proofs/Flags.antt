-- Flags that are set.
use Rattle.std.proofs.Common.{◌⊎◌, Bool, true, false, inl, inr, refl, ◌↔◌, IsTrue, IsFalse}

pub never_quiet : (moved went : Bool) → IsTrue moved → IsFalse moved → IsFalse went
never_quiet moved went did none = absurd (cc)

-- a flag is not set where one that it sets is not
unset : (flag any : Bool) → (IsTrue flag → IsTrue any) → IsFalse any → IsFalse flag
unset false any sets none = refl
unset true any sets none = never_quiet any true (sets refl) none

-- where it is not so that one of two flags is set, neither is
pub neither : (a b any : Bool) → IsTrue any ↔ (IsTrue a ⊎ IsTrue b) → IsFalse any → IsFalse a × IsFalse b
neither a b any either none = (
  unset a any (λ is. either.1 (inl is)) none,
  unset b any (λ is. either.1 (inr is)) none,
)
