-- The table of requests: what each asks for, by its method, its path and its query.
use Rattle.std.specs.Prelude.{◌≡◌, ◌<◌, ◌^◌, ℕ, List, [], ◌∷◌, ◌++◌, codes, Option, Some, None}
use Rattle.std.specs.Str.Parse.{IsNumeral, digits_value}
use Rattle.http.specs.{declared.request.Request.Request, Request.head_of}
use Rattle.http_uri.specs.Uri.{uri_path, uri_query}
use Rattle.form_urlencoded.specs.Form.{raw_pairs}
use Rattle.page_service.specs.{declared.table.Asked.Asked, declared.table.Moment.Moment}
use Rattle.page_service.specs.{declared.table.Resource.Resource}
use Rattle.page_service.specs.declared.table.Asked.TheVariants.{Page, Mask, Image, State, Strokes, Changes, Edits, Join}
use Rattle.page_service.specs.declared.table.Resource.TheVariants as places

-- the name of a resource behind the key
abbrev pub name_of : Resource → List ℕ
name_of places.Page = []
name_of places.Mask = codes "mask"
name_of places.Image = codes "image"
name_of places.State = codes "state"
name_of places.Strokes = codes "strokes"
name_of places.Changes = codes "changes"
name_of places.Edits = codes "edits"

-- of what it is asked
abbrev pub resource_of : Asked → Resource
resource_of Page = places.Page
resource_of Mask = places.Mask
resource_of Image = places.Image
resource_of State = places.State
resource_of Strokes = places.Strokes
resource_of (Changes moment) = places.Changes
resource_of (Edits moment) = places.Edits
resource_of Join = places.State

-- by which method: what may change something is posted
abbrev pub method_of : Asked → List ℕ
method_of (Edits moment) = codes "POST"
method_of Join = codes "POST"
method_of _ = codes "GET"

-- with which moment in the query, if any
abbrev pub moment_of : Asked → Option Moment
moment_of (Changes moment) = Some moment
moment_of (Edits moment) = Some moment
moment_of _ = None

-- the digits write this number, below 2^64, in decimal
pub record IsDecimal (digits : List ℕ) (n : ℕ) : Type 0 where
  pub numeral : IsNumeral 10 digits
  pub value : digits_value 10 digits ≡ n
  pub fits : n < 2 ^ 64

-- the query is a form with the fields run and since in this order, and no other, in decimal
pub record Spells (query : List ℕ) (moment : Moment) : Type 0 where
  pub run : List ℕ
  pub since : List ℕ
  pub form : raw_pairs query ≡ (codes "run", run) ∷ (codes "since", since) ∷ []
  pub run_number : IsDecimal run moment.run
  pub since_number : IsDecimal since moment.step

-- there is no query, or it spells the moment that is asked with
abbrev pub HasQuery : Option (List ℕ) → Option Moment → Type 0
HasQuery query None = query ≡ None
HasQuery query (Some moment) = (text : List ℕ) × (query ≡ Some text) × Spells text moment

-- what is asked of a resource by this method with this query
pub record Asks (resource : Resource) (method : List ℕ) (query : Option (List ℕ)) (asked : Asked) : Type 0 where
  pub at : resource ≡ resource_of asked
  pub by : method ≡ method_of asked
  pub with : HasQuery query (moment_of asked)

-- the path is a slash, the key, a slash and the rest
abbrev pub IsBehindKey : List ℕ → List ℕ → List ℕ → Type 0
IsBehindKey key path rest = path ≡ codes "/" ++ (key ++ (codes "/" ++ rest))

-- the path of the request is the key and this
abbrev pub HasKeyBefore : List ℕ → Request (List ℕ) → List ℕ → Type 0
HasKeyBefore key r rest = IsBehindKey key (uri_path (head_of r).uri) rest

-- the request has the key
abbrev pub HasKey : List ℕ → Request (List ℕ) → Type 0
HasKey key r = (rest : List ℕ) × HasKeyBefore key r rest

-- the request is at this resource
abbrev pub IsAt : List ℕ → Request (List ℕ) → Resource → Type 0
IsAt key r resource = HasKeyBefore key r (name_of resource)

-- the request asks for this: a row of the table
abbrev pub AsksFor : List ℕ → Request (List ℕ) → Asked → Type 0
AsksFor key r asked =
    IsAt key r (resource_of asked)
    × Asks (resource_of asked) (head_of r).method (uri_query (head_of r).uri) asked
