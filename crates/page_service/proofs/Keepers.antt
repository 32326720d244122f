-- Calls of a keeper.
use Rattle.std.proofs.Common.{◌≡◌, ◌≢◌, ◌⊎◌, ℕ, true, false, List, [], ◌∷◌, Option, Some, refl, ap, ◌∙◌, inl, inr}
use Rattle.http.specs.declared.request.Request.{Request}
use Rattle.http_server.specs.{declared.response.Response.Response, Exchange.Call, Exchange.Chain}
use Rattle.view_session.specs.Store.{AreSame, Held, IsHeldIn, StoreSeen, IsNotSaved as IsNotStored}
use Rattle.run_faults.specs.declared.run_error.RunError.{RunError}
use Rattle.run_faults.specs.declared.run_error.RunError.TheVariants.{StateFile, Memory}
use Rattle.page_service.specs.Keeping.{Answers, IsNotSaved, Meets}
use Rattle.page_service.specs.Keeper.{keeping, KeeperAnswers, MakesOver, RefusesOver}
use Rattle.page_service.specs.{declared.joiner.Joiner.Joiner, declared.keeper.StateKeeper.StateKeeper}

module _ {S T : Type 0} (answers : S → Request (List ℕ) → Response → S → Type 0) where
  -- what is seen of a chain of its calls is a chain
  pub Chain-keeping : (seen : T → StoreSeen) (calls : List Call) (a b : StateKeeper S T)
      → Chain (KeeperAnswers answers) a calls b → Chain (Answers answers) (keeping seen a) calls (keeping seen b)
  Chain-keeping seen [] a b along = ap (keeping seen) along
  Chain-keeping seen (c ∷ calls) a b along =
      (keeping seen along.0, (along.1.0, ap (keeping seen) along.1.1), Chain-keeping seen calls along.0 b along.2)

  -- once a call was answered that stays noted
  pub answered_on : (calls : List Call) (a b : StateKeeper S T) → Chain (KeeperAnswers answers) a calls b
      → a.has_answered ≡ true → b.has_answered ≡ true
  answered_on [] a b along noted = ap (λ (k : StateKeeper S T). k.has_answered) along ∙ noted
  answered_on (c ∷ calls) a b along noted =
      answered_on calls along.0 b along.2 (ap (λ (k : StateKeeper S T). k.has_answered) along.1.1)

  -- where there was a call that is noted
  pub some_answered : (calls : List Call) (a b : StateKeeper S T) → Chain (KeeperAnswers answers) a calls b
      → calls ≢ [] → b.has_answered ≡ true
  some_answered [] a b along some = absurd (some refl)
  some_answered (c ∷ calls) a b along some =
      answered_on calls along.0 b along.2 (ap (λ (k : StateKeeper S T). k.has_answered) along.1.1)

  -- and where there was none it is not
  pub none_answered : (calls : List Call) (a b : StateKeeper S T) → Chain (KeeperAnswers answers) a calls b
      → a.has_answered ≡ false → calls ≡ [] → b.has_answered ≡ false
  none_answered [] a b along none is = ap (λ (k : StateKeeper S T). k.has_answered) along ∙ none
  none_answered (c ∷ calls) a b along none is = absurd (cc)

module _ {S : Type 0} (spells has : S → List ℕ → Type 0) (takes : S → List ℕ → S → Type 0)
    (notes : S → Option RunError → S → Type 0) where
  -- what was tried where nothing was saved
  record Tries (held : Held) (name : List ℕ) (old new : Joiner S) (why : RunError) : Type 0 where
    pub reason : (why ≡ StateFile) ⊎ (why ≡ Memory)
        ⊎ ((found : List ℕ) × IsHeldIn held name found × (found ≡ old.last.items → ⊥))
    pub service : (new.service ≡ old.service)
        ⊎ ((found : List ℕ) × IsHeldIn held name found × Meets takes old.last.items old.service found new.service)
    pub last : new.last ≡ old.last

  tries_of : (held : Held) (name : List ℕ) (old new : Joiner S) (why : RunError)
      → IsNotStored (MakesOver spells has takes) (RefusesOver takes) held old new name why → Tries held name old new why
  tries_of held name old new why (inl same) = record {
    reason = elim same.0 [ inl store ↦ inl store | inr memory ↦ inr (inl memory) ];
    service = inl (ap (λ (j : Joiner S). j.service) same.1);
    last = ap (λ (j : Joiner S). j.last) same.1;
  }
  tries_of held name old new why (inr (inl made)) = record {
    reason = inl made.0;
    service = inr (made.1, made.3, made.4.joins);
    last = ap (λ (j : Joiner S). j.last) made.4.rest;
  }
  tries_of held name old new why (inr (inr (found, was, inl refused))) = record {
    reason = inr (inr (found, was, refused.1));
    service = inl (ap (λ (j : Joiner S). j.service) refused.2);
    last = ap (λ (j : Joiner S). j.last) refused.2;
  }
  tries_of held name old new why (inr (inr (found, was, inr wanting))) = record {
    reason = inr (inl wanting.0);
    service = inr (found, was, wanting.1);
    last = ap (λ (j : Joiner S). j.last) wanting.2;
  }

  -- a save that did not come about
  pub lost_after : {T : Type 0} (seen : T → StoreSeen) (old : StateKeeper S T) (tried : Joiner S) (store : T)
      (service : S) (why : RunError)
      → IsNotStored (MakesOver spells has takes) (RefusesOver takes) (seen old.store).held old.joiner tried old.path why
      → AreSame (seen old.store).held (seen store).held → notes tried.service (Some why) service
      → IsNotSaved takes notes (keeping seen old)
      (keeping seen (record old { joiner = record { service = service; last = tried.last }; store = store }))
  lost_after seen old tried store service why not_saved same told =
      let tries = tries_of (seen old.store).held old.path old.joiner tried why not_saved in
      record {
        why = why;
        reason = tries.reason;
        tried = tried.service;
        tries = tries.service;
        told = told;
        files = same;
        rest = ap (λ last.
            keeping seen (record old { joiner = record { service = service; last = last }; store = store })) tries.last;
      }
