-- Who may ask.
use Rattle.std.proofs.Common.{◌≡◌, ℕ, Bool, true, false, List, [], ◌∷◌, ◌↔◌, Option, Some, None, Bor, sym, ap, ◌∙◌}
use Rattle.std.proofs.Common.{subst, codes, IsTrue, option_copied, is_some}
use Rattle.http.specs.{declared.request.Request.Request, Request.head_of}
use Rattle.http_header.specs.FieldValue.{FieldValue}
use Rattle.http_uri.specs.Uri.{uri_authority}
use Rattle.page_service.specs.Sender.{IsOwnHost, IsOwnOrigin, HasOnly, IsToUs, IsFromUs}

only_one : (a b : FieldValue) → a ∷ [] ≡ b ∷ [] → a ≡ b
only_one a b same = cc

-- what an only Origin field says
pub from_us : (port : ℕ) (r : Request (List ℕ)) (origin : FieldValue) (bytes : List ℕ) (answer : Bool)
    → HasOnly r (codes "origin") origin → bytes ≡ origin.bytes → (IsTrue answer ↔ IsOwnOrigin port bytes)
    → (IsTrue answer ↔ IsFromUs port r)
from_us port r origin bytes answer named is h = (
  λ t. record { origin = origin; named = named; own = subst (λ (b : List ℕ). IsOwnOrigin port b) is (h.0 t) },
  λ f.
      let same = only_one f.origin origin (sym f.named ∙ named) in
      h.1 (subst (λ (b : List ℕ). IsOwnOrigin port b) (ap (λ (v : FieldValue). v.bytes) same ∙ sym is) f.own),
)

-- a target with an authority is not to us
pub has_authority : (port : ℕ) (r : Request (List ℕ)) (authority : Option (Bor (List ℕ)))
    → option_copied authority ≡ uri_authority (head_of r).uri → is_some authority ≡ true → IsToUs port r → ⊥
has_authority port r None same there to = absurd cc
has_authority port r (Some x) same there to = let none = to.no_authority in absurd cc

-- an only Host field with another host is not to us
pub other_host : (port : ℕ) (r : Request (List ℕ)) (host : FieldValue) (bytes : List ℕ) (answer : Bool)
    → HasOnly r (codes "host") host → bytes ≡ host.bytes → (IsTrue answer ↔ IsOwnHost port bytes) → answer ≡ false
    → IsToUs port r → ⊥
other_host port r host bytes answer named is h missed to =
    let same = only_one to.host host (sym to.named ∙ named) in
    let yes = h.1 (subst (λ (b : List ℕ). IsOwnHost port b) (ap (λ (v : FieldValue). v.bytes) same ∙ sym is) to.own) in
    absurd (let impossible : false ≡ true = sym missed ∙ yes in cc)
