-- Bytes that are read or written one part after another.
use Rattle.std.proofs.Common.{◌≡◌, ℕ, Bool, true, false, List, [], ◌∷◌, ◌++◌, length, Option, ap, ◌∙◌, append_assoc}
use Rattle.std.proofs.Common.{append-nil, length-append, arith, ◌↔◌, IsTrue}
use Rattle.std.specs.Io.KnownBytes.{Appends, Consumes}
use Rattle.http_server.proofs.KnownLemmas.{Appends-then, Consumes-then}
use Rattle.page_server.specs.{declared.transfer.Attempt.Attempt, Peer.HasGrown}
use Rattle.page_server.specs.declared.transfer.Attempt.TheVariants.{Interrupted, Moved}

module _ (u v w : Option (List ℕ)) (a b c : List ℕ) where
  pub read_on : ((more : List ℕ) × Consumes u v more × (b ≡ a ++ more))
      → ((more : List ℕ) × Consumes v w more × (c ≡ b ++ more)) → (more : List ℕ) × Consumes u w more × (c ≡ a ++ more)
  read_on x y = (
    x.0 ++ y.0,
    Consumes-then u v w x.0 y.0 x.1 y.1,
    y.2 ∙ ap (λ (t : List ℕ). t ++ y.0) x.2 ∙ append_assoc a x.0 y.0,
  )

  pub written_on : ((more : List ℕ) × Appends u v more × (b ≡ a ++ more))
      → ((more : List ℕ) × Appends v w more × (c ≡ b ++ more)) → (more : List ℕ) × Appends u w more × (c ≡ a ++ more)
  written_on x y = (
    x.0 ++ y.0,
    Appends-then u v w x.0 y.0 x.1 y.1,
    y.2 ∙ ap (λ (t : List ℕ). t ++ y.0) x.2 ∙ append_assoc a x.0 y.0,
  )

-- what did not grow is as it was
pub stays_unless_grown : {X : Type 0} (a b : List X) → ((more : List X) × (b ≡ a ++ more)) → ¬ (HasGrown a b) → b ≡ a
stays_unless_grown a b ([], is) still = is ∙ append-nil a
stays_unless_grown a b (x ∷ more, is) still =
    absurd (still (omega (arith, ap length is, length-append a (x ∷ more))))

module _ {X : Type 0} (a b c : List X) where
  -- what grew at last has grown
  pub grown_at_last : ((more : List X) × (b ≡ a ++ more)) → HasGrown b c → HasGrown a c
  grown_at_last first grew = omega (arith, grew, ap length first.1, length-append a first.0)

  -- where it did not grow at last, it has grown if it had before
  pub grown_as_before : (was : Bool) → ((more : List X) × (c ≡ b ++ more)) → ¬ (HasGrown b c)
      → (IsTrue was ↔ HasGrown a b) → (IsTrue was ↔ HasGrown a c)
  grown_as_before was next still grown =
      let same : length c ≡ length b = ap length (stays_unless_grown b c next still) in
      (λ is. let grew = grown.0 is in omega (arith, grew, same), λ grew. grown.1 (omega (arith, grew, same)))

pub not_moved : (attempt : Attempt) → attempt ≡ Interrupted → attempt ≡ Moved → ⊥
not_moved attempt still moved = cc

pub not_down : (flag : Bool) → flag ≡ true → flag ≡ false → ⊥
not_down flag up down = cc
