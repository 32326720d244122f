-- Which requests are refused, and for which reason: the first, in this order.
use Rattle.std.specs.Prelude.{◌≡◌, ℕ, List, ◌⊎◌, Option}
use Rattle.http.specs.{declared.request.Request.Request, Request.head_of}
use Rattle.http_uri.specs.Uri.{uri_query}
use Rattle.page_service.specs.Sender.{HasOneHost, IsToUs, IsFromUs, IsPost, MayAsk}
use Rattle.page_service.specs.Table.{Asks, HasKey, IsAt, resource_of, method_of}
use Rattle.page_service.specs.{declared.table.Asked.Asked, declared.table.Resource.Resource}
use Rattle.page_service.specs.{declared.refusal.RequestRefusal.RequestRefusal}
use Rattle.page_service.specs.declared.refusal.RequestRefusal.TheVariants.{NotOneHost, NotToUs, NotFromUs, NoKey}
use Rattle.page_service.specs.declared.refusal.RequestRefusal.TheVariants.{NoPath, WrongMethod, WrongQuery}

-- who asks is turned away: no one host; another host; a post that is not from a page of ours
abbrev pub IsTurnedAway : ℕ → Request (List ℕ) → RequestRefusal → Type 0
IsTurnedAway port r NotOneHost = HasOneHost r → ⊥
IsTurnedAway port r NotToUs = HasOneHost r × (IsToUs port r → ⊥)
IsTurnedAway port r NotFromUs = IsToUs port r × IsPost r × (IsFromUs port r → ⊥)
IsTurnedAway port r _ = ⊥

-- the resource takes the method
abbrev pub Takes : Resource → List ℕ → Type 0
Takes resource method = (asked : Asked) × (resource ≡ resource_of asked) × (method ≡ method_of asked)

-- the resource does not take the method; or it does, and no such query with it
abbrev pub IsNotTaken : Resource → List ℕ → Option (List ℕ) → RequestRefusal → Type 0
IsNotTaken resource method query (WrongMethod at) = (at ≡ resource) × (Takes resource method → ⊥)
IsNotTaken resource method query WrongQuery =
    Takes resource method × ((asked : Asked) → Asks resource method query asked → ⊥)
IsNotTaken resource method query _ = ⊥

-- nothing behind the key has this path, or what has it does not take the request
abbrev pub IsNotFound : List ℕ → Request (List ℕ) → RequestRefusal → Type 0
IsNotFound key r NoKey = HasKey key r → ⊥
IsNotFound key r NoPath = HasKey key r × ((resource : Resource) → IsAt key r resource → ⊥)
IsNotFound key r refusal =
    (resource : Resource) × IsAt key r resource
    × IsNotTaken resource (head_of r).method (uri_query (head_of r).uri) refusal

-- the request is refused for this reason
abbrev pub IsRefused : ℕ → List ℕ → Request (List ℕ) → RequestRefusal → Type 0
IsRefused port key r refusal = IsTurnedAway port r refusal ⊎ (MayAsk port r × IsNotFound key r refusal)
