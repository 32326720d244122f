-- Numbers in decimal, and those in a range.
use Rattle.std.proofs.Common.{◌≡◌, ℕ, ◌<◌, ◌≤◌, ◌^◌, Option, Some, None, sym, ◌∙◌, arith, decimal}
use Rattle.std.proofs.lemmas.Fmt.{decimal_injective}
use Rattle.clap.specs.Words.{Text}
use Rattle.command_line.specs.Words.{NumberIs}

-- ---- numbers in decimal

-- a text is at most one number in decimal
pub one_number : (value : Text) (a b : ℕ) → value ≡ decimal a → a < 2 ^ 32 → value ≡ decimal b → b < 2 ^ 32 → a ≡ b
one_number value a b first small second also =
    decimal_injective a b (omega (arith, small)) (omega (arith, also)) (sym first ∙ second)

-- ---- numbers in a range

-- a value names at most one number in a range
pub one_within : (default : Option ℕ) (least most : ℕ) → most < 2 ^ 32 → (value : Option Text) (a b : ℕ)
    → NumberIs default least most value a → NumberIs default least most value b → a ≡ b
one_within default least most small None a b first second = cc
one_within default least most small (Some v) a b first second =
    one_number v a b first.0 (omega (arith, first.2, small)) second.0 (omega (arith, second.2, small))

-- a text that is another number in decimal names none
pub names_no_other : (default : Option ℕ) (least most : ℕ) → most < 2 ^ 32 → (value : Option Text) (text : Text)
    (n : ℕ) → value ≡ Some text → (n < 2 ^ 32) × (text ≡ decimal n) → (least ≤ n → n ≤ most → ⊥)
    → (m : ℕ) → NumberIs default least most value m → ⊥
names_no_other default least most small value text n is read out =
    rw is (λ m named.
    let same : n ≡ m = one_number text n m read.1 read.0 named.0 (omega (arith, named.2, small)) in
    out (omega (arith, same, named.1)) (omega (arith, same, named.2)))
