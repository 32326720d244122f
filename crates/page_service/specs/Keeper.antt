-- What is seen of a keeper, what a call does to it, and what it makes over the bytes of a file.
use Rattle.std.specs.Prelude.{◌≡◌, ◌⊎◌, ℕ, true, List}
use Rattle.http.specs.declared.request.Request.{Request}
use Rattle.http_server.specs.declared.response.Response.{Response}
use Rattle.view_session.specs.Store.{StoreSeen}
use Rattle.run_faults.specs.declared.run_error.RunError.{RunError}
use Rattle.run_faults.specs.declared.run_error.RunError.TheVariants.{StateFile, Memory}
use Rattle.page_service.specs.Keeping.{Keeping, Meets}
use Rattle.page_service.specs.{declared.joiner.Joiner.Joiner, declared.keeper.StateKeeper.StateKeeper}

module _ {S T : Type 0} where
  abbrev pub keeping : (T → StoreSeen) → StateKeeper S T → Keeping S
  keeping seen k = record {
    service = k.joiner.service;
    files = (seen k.store).held;
    name = k.path;
    last = k.joiner.last.items;
    saved = k.saved;
  }

  -- its service answers, and that is noted
  abbrev pub KeeperAnswers : (S → Request (List ℕ) → Response → S → Type 0)
      → StateKeeper S T → Request (List ℕ) → Response → StateKeeper S T → Type 0
  KeeperAnswers answers old request response new =
      answers old.joiner.service request response new.joiner.service
      × (new ≡ record old { joiner = record old.joiner { service = new.joiner.service }; has_answered = true })

module _ {S : Type 0} (spells has : S → List ℕ → Type 0) (takes : S → List ℕ → S → Type 0) where
  -- over these bytes it makes a file that keeps what the service has once it took what they keep
  pub record MakesOver (old : Joiner S) (found made : List ℕ) (new : Joiner S) : Type 0 where
    pub joins : Meets takes old.last.items old.service found new.service
    pub spelled : spells new.service made
    pub has_made : has new.service made
    pub rest : new ≡ record old { service = new.service }

-- the service does not take what these bytes keep, for a reason that is never the store's; or memory ran out behind it
abbrev pub RefusesOver : {S : Type 0} → (S → List ℕ → S → Type 0) → Joiner S → List ℕ → RunError → Joiner S → Type 0
RefusesOver takes old found e new =
    ((e ≡ StateFile → ⊥) × (found ≡ old.last.items → ⊥) × (new ≡ old))
    ⊎ ((e ≡ Memory) × Meets takes old.last.items old.service found new.service
    × (new ≡ record old { service = new.service }))
