-- Who may ask: the names of this server in a request (RFC 9110, sections 7.2 and 7.4; RFC 6454).
use Rattle.std.specs.Prelude.{◌≡◌, ℕ, List, [], ◌∷◌, ◌++◌, ◌⊎◌, codes, decimal, None}
use Rattle.http.specs.{declared.request.Request.Request, Request.head_of}
use Rattle.http_header.specs.{FieldValue.FieldValue, HeaderMap.get_all}
use Rattle.http_uri.specs.Uri.{uri_authority}

-- the value names the loopback
abbrev pub IsLoopback : List ℕ → Type 0
IsLoopback value = (value ≡ codes "127.0.0.1") ⊎ (value ≡ codes "localhost")

-- the value names the loopback and this port; port 80 is the one that is meant where none is named
abbrev pub IsOwnHost : ℕ → List ℕ → Type 0
IsOwnHost port value =
    (value ≡ codes "127.0.0.1:" ++ decimal port) ⊎ (value ≡ codes "localhost:" ++ decimal port)
    ⊎ ((port ≡ 80) × IsLoopback value)

-- the value is the origin of a page that this server served
abbrev pub IsOwnOrigin : ℕ → List ℕ → Type 0
IsOwnOrigin port value = (host : List ℕ) × (value ≡ codes "http://" ++ host) × IsOwnHost port host

-- the request has one field of this name, and this is its value
abbrev pub HasOnly : Request (List ℕ) → List ℕ → FieldValue → Type 0
HasOnly r name value = get_all (head_of r).headers name ≡ value ∷ []

-- the request has one Host field
abbrev pub HasOneHost : Request (List ℕ) → Type 0
HasOneHost r = (value : FieldValue) × HasOnly r (codes "host") value

-- the request's target is a path and a query alone, and its only Host field names this server
pub record IsToUs (port : ℕ) (r : Request (List ℕ)) : Type 0 where
  pub no_authority : uri_authority (head_of r).uri ≡ None
  pub host : FieldValue
  pub named : HasOnly r (codes "host") host
  pub own : IsOwnHost port host.bytes

-- the request's only Origin field names a page of this server
pub record IsFromUs (port : ℕ) (r : Request (List ℕ)) : Type 0 where
  pub origin : FieldValue
  pub named : HasOnly r (codes "origin") origin
  pub own : IsOwnOrigin port origin.bytes

-- the request is a post, and so may change something
abbrev pub IsPost : Request (List ℕ) → Type 0
IsPost r = (head_of r).method ≡ codes "POST"

-- the request is to this server, and what may change something is from a page of it
abbrev pub MayAsk : ℕ → Request (List ℕ) → Type 0
MayAsk port r = IsToUs port r × (IsPost r → IsFromUs port r)
