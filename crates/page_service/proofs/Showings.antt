-- Whether first bytes show the key, by what stands behind their first space.
use Rattle.std.proofs.Common.{◌≡◌, ℕ, ◌+◌, List, Bool, true, false, Option, Some, None, Bor, ◌↔◌, IsTrue, ◌-◌, length}
use Rattle.std.proofs.Common.{◌∙◌, take, arith, sym, subst, ◌==◌, position, drop, is_some, IfSome, IfNone, IsSomeAnd}
use Rattle.std.proofs.lemmas.List.{length-drop, take_all}
use Rattle.page_service.specs.{Table.IsBehindKey, Showing.ShowsKey}

abbrev behind_space : (key bytes : List ℕ) → Option ℕ → Type 0
behind_space key bytes place =
    IsSomeAnd place (λ at. (rest : List ℕ) × IsBehindKey key (drop (at + 1) bytes) rest)

-- by what stands behind the key there
pub shown_behind : (key bytes path : List ℕ) (at : ℕ) (rest : Option (Bor (List ℕ))) (answer : Bool)
    → position (λ b. b == 32) bytes ≡ Some at → path ≡ drop (at + 1) bytes
    → IfSome rest (λ r. IsBehindKey key path r.now)
    → IfNone rest ((r : List ℕ) → IsBehindKey key path r → ⊥) → answer ≡ is_some rest
    → (IsTrue answer ↔ ShowsKey key bytes)
shown_behind key bytes path at None answer found is some none told = (
  λ t. absurd (let impossible : false ≡ true = sym told ∙ t in cc),
  λ shows.
      let there : behind_space key bytes (Some at) = subst (behind_space key bytes) found shows in
      absurd (none there.0 (subst (λ (p : List ℕ). IsBehindKey key p there.0) (sym is) there.1)),
)
shown_behind key bytes path at (Some r) answer found is some none told = (
  λ t. subst (behind_space key bytes) (sym found)
      (r.now, subst (λ (p : List ℕ). IsBehindKey key p r.now) is some),
  λ shows. told,
)

-- what stands behind a place, as far as there is anything
pub all_behind : (bytes : List ℕ) (n : ℕ) → take (length bytes - n) (drop n bytes) ≡ drop n bytes
all_behind bytes n = take_all (length bytes - n) (drop n bytes) (let there = length-drop n bytes in omega arith)

-- without a space nothing is shown
pub shown_nowhere : (key bytes : List ℕ) → position (λ b. b == 32) bytes ≡ None → (IsTrue false ↔ ShowsKey key bytes)
shown_nowhere key bytes none = (
  λ t. absurd (cc),
  λ shows. absurd (subst (behind_space key bytes) none shows),
)
