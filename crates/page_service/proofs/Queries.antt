-- Requests whose query is not taken.
use Rattle.std.proofs.Common.{◌≡◌, ◌≢◌, ℕ, List, Bool, true, false, Option, Some, None, Result, Ok, Err, refl, sym, ap}
use Rattle.std.proofs.Common.{◌∙◌, subst, IfErr}
use Rattle.page_service.specs.Table.{resource_of, method_of, moment_of, HasQuery}
use Rattle.page_service.specs.{Refusing.IsNotTaken, declared.table.Asked.Asked, declared.table.Moment.Moment}
use Rattle.page_service.specs.{declared.table.Resource.Resource, declared.refusal.RequestRefusal.RequestRefusal}
use Rattle.page_service.specs.{declared.refusal.RequestRefusal.TheVariants.WrongQuery}
use Rattle.page_service.specs.declared.table.Asked.TheVariants.{Changes, Edits}
use Rattle.page_service.specs.declared.table.Resource.TheVariants as places

-- whether a resource is asked with a moment
abbrev pub is_queried : Resource → Bool
is_queried places.Changes = true
is_queried places.Edits = true
is_queried _ = false

without_moment : (asked : Asked) → is_queried (resource_of asked) ≡ false → moment_of asked ≡ None
without_moment (Changes moment) e = absurd cc
without_moment (Edits moment) e = absurd cc
without_moment asked e = refl

with_moment : (asked : Asked) → is_queried (resource_of asked) ≡ true
    → (moment : Moment) × (moment_of asked ≡ Some moment)
with_moment (Changes moment) e = (moment, refl)
with_moment (Edits moment) e = (moment, refl)
with_moment asked e = absurd cc

-- there is a query where none is taken
pub no_query_taken : (asked : Asked) (query : Option (List ℕ)) → is_queried (resource_of asked) ≡ false → query ≢ None
    → IsNotTaken (resource_of asked) (method_of asked) query WrongQuery
no_query_taken asked query none some = (
  (asked, refl, refl),
  λ other asks.
      let bare = without_moment other (ap is_queried (sym asks.at) ∙ none) in
      some (subst (λ (moment : Option Moment). HasQuery query moment) bare asks.with),
)

-- there is no query that spells a moment where one is taken
pub no_moment_spelled : (asked : Asked) (query : Option (List ℕ)) → is_queried (resource_of asked) ≡ true
    → ((moment : Moment) → HasQuery query (Some moment) → ⊥)
    → IsNotTaken (resource_of asked) (method_of asked) query WrongQuery
no_moment_spelled asked query one none = (
  (asked, refl, refl),
  λ other asks.
      let found = with_moment other (ap is_queried (sym asks.at) ∙ one) in
      none found.0 (subst (λ (moment : Option Moment). HasQuery query moment) found.1 asks.with),
)

-- the same, where the refusal may be none
pub untaken : (asked : Asked) (place : Resource) (query : Option (List ℕ)) (r : Result Asked RequestRefusal)
    → is_queried (resource_of asked) ≡ false → place ≡ resource_of asked
    → IfErr r (λ why. (why ≡ WrongQuery) × (query ≢ None)) → IfErr r (IsNotTaken place (method_of asked) query)
untaken asked place query (Ok found) bare at h = tt
untaken asked place query (Err why) bare at h = rw (h.0, at) (no_query_taken asked query bare h.1)

pub same_text : (a b : List ℕ) → Some a ≡ Some b → a ≡ b
same_text a b same = cc
