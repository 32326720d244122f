-- One answer fits a request.
use Rattle.std.proofs.Common.{◌≡◌, ℕ, List, [], ◌∷◌, ◌++◌, Option, Some, None, Result, Ok, Err, inl, inr, refl, sym, ap}
use Rattle.std.proofs.Common.{◌∙◌, subst, codes, bytes_eq, if◌then◌else◌, IfErr}
use Rattle.std.proofs.lemmas.List.{append_cancel_left}
use Rattle.std.specs.Str.Parse.{digits_value}
use Rattle.form_urlencoded.specs.Form.{raw_pairs}
use Rattle.http.specs.{declared.request.Request.Request, Request.head_of}
use Rattle.http_uri.specs.Uri.{uri_path, uri_query}
use Rattle.page_service.specs.{Sender.MayAsk, declared.table.Asked.Asked, declared.table.Moment.Moment}
use Rattle.page_service.specs.{declared.table.Resource.Resource, declared.refusal.RequestRefusal.RequestRefusal}
use Rattle.page_service.specs.Table.{name_of, resource_of, method_of, moment_of, HasQuery, IsBehindKey, HasKey, IsAt}
use Rattle.page_service.specs.Table.{AsksFor}
use Rattle.page_service.specs.Refusing.{IsTurnedAway, IsNotTaken, IsNotFound, IsRefused}
use Rattle.page_service.specs.declared.table.Asked.TheVariants.{Page, Mask, Image, State, Strokes, Changes, Edits, Join}
use Rattle.page_service.specs.declared.refusal.RequestRefusal.TheVariants.{NotOneHost, NotToUs, NotFromUs, NoKey}
use Rattle.page_service.specs.declared.refusal.RequestRefusal.TheVariants.{NoPath, WrongMethod, WrongQuery}
use Rattle.page_service.specs.declared.table.Resource.TheVariants as places

-- the resource of a name
abbrev place_of : List ℕ → Resource
place_of name =
    if bytes_eq name (codes "mask") then places.Mask else if bytes_eq name (codes "image") then places.Image
    else if bytes_eq name (codes "state") then places.State else if bytes_eq name (codes "strokes") then places.Strokes
    else if bytes_eq name (codes "changes") then places.Changes else if bytes_eq name (codes "edits") then places.Edits
    else places.Page

named_back : (place : Resource) → place_of (name_of place) ≡ place
named_back places.Page = refl
named_back place = refl

-- no two resources have one name
pub one_name : (a b : Resource) → name_of a ≡ name_of b → a ≡ b
one_name a b same = sym (named_back a) ∙ ap place_of same ∙ named_back b

-- a path has one rest behind the key
pub one_rest : (key path a b : List ℕ) → IsBehindKey key path a → IsBehindKey key path b → a ≡ b
one_rest key path a b h k =
    append_cancel_left (codes "/") a b (append_cancel_left key (codes "/" ++ a) (codes "/" ++ b)
    (append_cancel_left (codes "/") (key ++ (codes "/" ++ a)) (key ++ (codes "/" ++ b)) (sym h ∙ k)))

-- a request is at one resource
one_place : (key : List ℕ) (r : Request (List ℕ)) (a b : Resource) → IsAt key r a → IsAt key r b → a ≡ b
one_place key r a b h k = one_name a b (one_rest key (uri_path (head_of r).uri) (name_of a) (name_of b) h k)

-- who may ask is not turned away
not_turned : (port : ℕ) (r : Request (List ℕ)) (why : RequestRefusal) → MayAsk port r → IsTurnedAway port r why → ⊥
not_turned port r NotOneHost may h = h (may.0.host, may.0.named)
not_turned port r NotToUs may h = h.1 may.0
not_turned port r NotFromUs may h = h.2 (may.1 h.1)
not_turned port r why may h = h

-- what is asked is found, and taken
not_missed : (key : List ℕ) (r : Request (List ℕ)) (asked : Asked) (why : RequestRefusal) → AsksFor key r asked
    → IsNotFound key r why → ⊥
not_missed key r asked NoKey asks h = h (name_of (resource_of asked), asks.0)
not_missed key r asked NoPath asks h = h.1 (resource_of asked) asks.0
not_missed key r asked (WrongMethod at) asks h =
    h.2.1 (asked, one_place key r h.0 (resource_of asked) h.1 asks.0, asks.1.by)
not_missed key r asked WrongQuery asks h =
    h.2.1 asked (record { at = one_place key r h.0 (resource_of asked) h.1 asks.0; by = asks.1.by; with = asks.1.with })
not_missed key r asked why asks h = h.2

-- what is at a resource that does not take it is not found
pub not_found : (key : List ℕ) (r : Request (List ℕ)) (place : Resource) (why : RequestRefusal) → IsAt key r place
    → IsNotTaken place (head_of r).method (uri_query (head_of r).uri) why → IsNotFound key r why
not_found key r place (WrongMethod other) at h = (place, at, h)
not_found key r place WrongQuery at h = (place, at, h)
not_found key r place why at h = absurd h

-- and is refused
pub refused_there : (port : ℕ) (key : List ℕ) (r : Request (List ℕ)) (place : Resource) (method : List ℕ)
    (query : Option (List ℕ)) (x : Result Asked RequestRefusal) → MayAsk port r → IsAt key r place
    → method ≡ (head_of r).method → query ≡ uri_query (head_of r).uri → IfErr x (IsNotTaken place method query)
    → IfErr x (IsRefused port key r)
refused_there port key r place method query (Ok found) may at by with h = tt
refused_there port key r place method query (Err why) may at by with h =
    inr (
      may,
      not_found key r place why at (subst (λ (q : Option (List ℕ)). IsNotTaken place (head_of r).method q why) with
          (subst (λ (m : List ℕ). IsNotTaken place m query why) by h)),
    )

pub not_both : (port : ℕ) (key : List ℕ) (r : Request (List ℕ)) (asked : Asked) (why : RequestRefusal)
    → MayAsk port r → AsksFor key r asked → IsRefused port key r why → ⊥
not_both port key r asked why may asks (inl turned) = not_turned port r why may turned
not_both port key r asked why may asks (inr missed) = not_missed key r asked why asks missed.1

-- the fields of a query that spells a moment, and their values
abbrev two_fields : List ℕ → List ℕ → List (List ℕ × List ℕ)
two_fields run since = (codes "run", run) ∷ (codes "since", since) ∷ []

abbrev first_value : List (List ℕ × List ℕ) → List ℕ
first_value (field ∷ fields) = field.1
first_value [] = []

abbrev second_value : List (List ℕ × List ℕ) → List ℕ
second_value (field ∷ fields) = first_value fields
second_value [] = []

abbrev moment_at : ℕ → ℕ → Moment
moment_at run step = record { run = run; step = step }

same_moment : (a b : Moment) → a.run ≡ b.run → a.step ≡ b.step → a ≡ b
same_moment a b run step =
    ap (λ (n : ℕ). moment_at n a.step) run ∙ ap (λ (n : ℕ). moment_at b.run n) step

-- a query spells one moment
one_moment : (query : Option (List ℕ)) (a b : Option Moment) → HasQuery query a → HasQuery query b → a ≡ b
one_moment query None None h k = refl
one_moment query None (Some b) h k = absurd (let none = h in let some = k.1 in cc)
one_moment query (Some a) None h k = absurd (let none = k in let some = h.1 in cc)
one_moment query (Some a) (Some b) h k =
    let text : h.0 ≡ k.0 = (let first = h.1 in let second = k.1 in cc) in
    let forms : two_fields h.2.run h.2.since ≡ two_fields k.2.run k.2.since =
    sym h.2.form ∙ ap raw_pairs text ∙ k.2.form in
    let run = sym h.2.run_number.value ∙ ap (λ fields. digits_value 10 (first_value fields)) forms ∙
    k.2.run_number.value in
    let step = sym h.2.since_number.value ∙ ap (λ fields. digits_value 10 (second_value fields)) forms ∙
    k.2.since_number.value in
    ap Some (same_moment a b run step)

-- what is asked, by its resource, its method and its moment
abbrev asked_by : Resource → List ℕ → Option Moment → Asked
asked_by places.Page method moment = Page
asked_by places.Mask method moment = Mask
asked_by places.Image method moment = Image
asked_by places.State method moment = if bytes_eq method (codes "GET") then State else Join
asked_by places.Strokes method moment = Strokes
asked_by places.Changes method None = Page
asked_by places.Changes method (Some moment) = Changes moment
asked_by places.Edits method None = Page
asked_by places.Edits method (Some moment) = Edits moment

asked_back : (asked : Asked) → asked_by (resource_of asked) (method_of asked) (moment_of asked) ≡ asked
asked_back Page = refl
asked_back asked = refl

pub one_asked : (key : List ℕ) (r : Request (List ℕ)) (a b : Asked) → AsksFor key r a → AsksFor key r b → a ≡ b
one_asked key r a b h k =
    let place = one_place key r (resource_of a) (resource_of b) h.0 k.0 in
    let method : method_of a ≡ method_of b = sym h.1.by ∙ k.1.by in
    let moment = one_moment (uri_query (head_of r).uri) (moment_of a) (moment_of b) h.1.with k.1.with in
    let first = asked_back a in
    let second = asked_back b in cc

-- who asks is turned away for one reason
turned_once : (port : ℕ) (r : Request (List ℕ)) (a b : RequestRefusal) → IsTurnedAway port r a → IsTurnedAway port r b
    → a ≡ b
turned_once port r NotOneHost NotOneHost h k = refl
turned_once port r NotOneHost NotToUs h k = absurd (h k.0)
turned_once port r NotOneHost NotFromUs h k = absurd (h (k.0.host, k.0.named))
turned_once port r NotToUs NotOneHost h k = absurd (k h.0)
turned_once port r NotToUs NotToUs h k = refl
turned_once port r NotToUs NotFromUs h k = absurd (h.1 k.0)
turned_once port r NotFromUs NotOneHost h k = absurd (k (h.0.host, h.0.named))
turned_once port r NotFromUs NotToUs h k = absurd (k.1 h.0)
turned_once port r NotFromUs NotFromUs h k = refl
turned_once port r a b h k = absurd assumption

-- what is at a resource has the key
has_key : (key : List ℕ) (r : Request (List ℕ)) (place : Resource) → IsAt key r place → HasKey key r
has_key key r place h = (name_of place, h)

-- a path, a method or a query is missed for one reason
missed_once : (key : List ℕ) (r : Request (List ℕ)) (a b : RequestRefusal) → IsNotFound key r a → IsNotFound key r b
    → a ≡ b
missed_once key r NoKey NoKey h k = refl
missed_once key r NoKey NoPath h k = absurd (h k.0)
missed_once key r NoKey (WrongMethod at) h k = absurd (h (has_key key r k.0 k.1))
missed_once key r NoKey WrongQuery h k = absurd (h (has_key key r k.0 k.1))
missed_once key r NoPath NoKey h k = absurd (k h.0)
missed_once key r NoPath NoPath h k = refl
missed_once key r NoPath (WrongMethod at) h k = absurd (h.1 k.0 k.1)
missed_once key r NoPath WrongQuery h k = absurd (h.1 k.0 k.1)
missed_once key r (WrongMethod at) NoKey h k = absurd (k (has_key key r h.0 h.1))
missed_once key r (WrongMethod at) NoPath h k = absurd (k.1 h.0 h.1)
missed_once key r (WrongMethod at) (WrongMethod other) h k =
    ap WrongMethod (h.2.0 ∙ one_place key r h.0 k.0 h.1 k.1 ∙ sym k.2.0)
missed_once key r (WrongMethod at) WrongQuery h k =
    absurd (h.2.1 (k.2.0.0, one_place key r h.0 k.0 h.1 k.1 ∙ k.2.0.1, k.2.0.2))
missed_once key r WrongQuery NoKey h k = absurd (k (has_key key r h.0 h.1))
missed_once key r WrongQuery NoPath h k = absurd (k.1 h.0 h.1)
missed_once key r WrongQuery (WrongMethod at) h k =
    absurd (k.2.1 (h.2.0.0, one_place key r k.0 h.0 k.1 h.1 ∙ h.2.0.1, h.2.0.2))
missed_once key r WrongQuery WrongQuery h k = refl
missed_once key r a b h k = absurd assumption

pub one_refusal : (port : ℕ) (key : List ℕ) (r : Request (List ℕ)) (a b : RequestRefusal) → IsRefused port key r a
    → IsRefused port key r b → a ≡ b
one_refusal port key r a b (inl h) (inl k) = turned_once port r a b h k
one_refusal port key r a b (inl h) (inr k) = absurd (not_turned port r a k.0 h)
one_refusal port key r a b (inr h) (inl k) = absurd (not_turned port r b h.0 k)
one_refusal port key r a b (inr h) (inr k) = missed_once key r a b h.1 k.1
