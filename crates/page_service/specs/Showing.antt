-- How the first bytes of a connection show the key (RFC 9112, section 3).
use Rattle.std.specs.Prelude.{ℕ, ◌+◌, ◌==◌, List, drop, position, IsSomeAnd}
use Rattle.page_service.specs.Table.{IsBehindKey}

-- behind the first space stands a path that the key begins
abbrev pub ShowsKey : List ℕ → List ℕ → Type 0
ShowsKey key bytes =
    IsSomeAnd (position (λ b. b == 32) bytes) (λ at. (rest : List ℕ) × IsBehindKey key (drop (at + 1) bytes) rest)
