-- What can be decided.
use Rattle.std.proofs.Common.{◌⊎◌, inl, inr, refl, Bool, true, false, IsTrue}

-- a flag is set or not
pub flag_decides : (flag : Bool) → IsTrue flag ⊎ (IsTrue flag → ⊥)
flag_decides true = inl refl
flag_decides false = inr (λ there. cc)
