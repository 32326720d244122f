-- What a hasher takes in. Private functions have it in their contracts.
use Rattle.std.specs.Prelude.{ℕ, List, ◌++◌}
use Rattle.sha2.specs.{Hashers.Holds256, declared.Sha256.Sha256}

-- the new hasher holds the message of the old one, with this text behind it
abbrev pub HoldsMore : Sha256 → Sha256 → List ℕ → Type 0
HoldsMore old new text = (m : List ℕ) → Holds256 old m → Holds256 new (m ++ text)
