-- The file of a keeper, as its service goes on and as rounds end.
use Rattle.std.proofs.Common.{◌≡◌, ℕ, ◌<◌, ◌≤◌, Bool, true, false, List, [], ◌∷◌, Option, Some, None, sym, ap, ◌∙◌}
use Rattle.std.proofs.Common.{subst, inl, inr, arith, IfSome}
use Rattle.http.specs.declared.request.Request.{Request}
use Rattle.http_server.specs.{declared.response.Response.Response, Exchange.Call, Exchange.Chain}
use Rattle.run_faults.specs.declared.run_error.RunError.{RunError}
use Rattle.page_service.specs.Kept.{IsLater, HasTaken, IsKeptAlike, last_version}
use Rattle.page_service.specs.Keeping.{Keeping, Answers, IsBehind, IsHeld, IsInFile, IsJoined, IsSaved, IsTracked}
use Rattle.page_service.specs.Keeping.{Meets}
use Rattle.page_service.specs.Keeping.{IsNotSaved, Settles}

-- from one state of a service to another, where nothing that it had is lost
pub record GoesOn {S : Type 0} (version : S → ℕ) (has : S → List ℕ → Type 0) (old new : S) : Type 0 where
  pub rises : version old ≤ version new
  pub had : (file : List ℕ) → has old file → has new file

module _ {S : Type 0} (version : S → ℕ) (spells has : S → List ℕ → Type 0) where
  -- the service went on, and nothing else changed
  pub IsTracked-later : (k : Keeping S) (s : S) → IsLater version spells has k.service s
      → IsTracked version spells has k → IsTracked version spells has (record k { service = s })
  IsTracked-later k s later tracked = record {
    had = later.had k.last tracked.had;
    earlier = let rises = later.rises in let earlier = tracked.earlier in omega arith;
    kept = λ not_behind.
        let rises = later.rises in
        let earlier = tracked.earlier in
        let not_above : ¬ (k.saved < version s) = λ h. not_behind (inl h) in
        let not_last : ¬ (last_version ≤ version s) = λ h. not_behind (inr h) in
        let below : version s < last_version = omega arith in
        let same : version s ≡ version k.service = omega arith in
        later.stays same below k.last
        (tracked.kept (λ behind. elim behind [ inl h ↦ omega arith | inr h ↦ omega arith ]));
  }

  pub IsTracked-chain : (answers : S → Request (List ℕ) → Response → S → Type 0)
      → ((old : S) (request : Request (List ℕ)) (response : Response) (new : S) → answers old request response new
      → IsLater version spells has old new) → (calls : List Call) (a b : Keeping S) → Chain (Answers answers) a calls b
      → IsTracked version spells has a → IsTracked version spells has b
  IsTracked-chain answers counts [] a b along tracked = subst (IsTracked version spells has) (sym along) tracked
  IsTracked-chain answers counts (c ∷ calls) a b along tracked =
      IsTracked-chain answers counts calls along.0 b along.2
      (subst (IsTracked version spells has) (sym along.1.1)
      (IsTracked-later a along.0.service (counts a.service c.0 c.1 along.0.service along.1.0) tracked))

  module _ (takes : S → List ℕ → S → Type 0) (notes : S → Option RunError → S → Type 0)
      (takes_count : (old : S) (found : List ℕ) (new : S) → takes old found new → HasTaken version has old found new)
      (notes_count : (old : S) (why : Option RunError) (new : S) → notes old why new
      → IsKeptAlike version spells has old new) where
    -- what was found was taken in, or there was nothing to take
    met : (last : List ℕ) (old : S) (found : List ℕ) (new : S) → Meets takes last old found new
        → GoesOn version has old new
    met last old found new (inl same) =
        subst (GoesOn version has old) (sym same.1) (record { rises = omega arith; had = λ file had. had })
    met last old found new (inr other) =
        let taken = takes_count old found new other.1 in record { rises = taken.rises; had = taken.had }

    -- then the service has it, too
    has_met : (last : List ℕ) (old : S) (found : List ℕ) (new : S) → Meets takes last old found new → has old last
        → has new found
    has_met last old found new (inl same) had =
        subst (λ s. has s found) (sym same.1) (subst (has old) (sym same.0) had)
    has_met last old found new (inr other) had = (takes_count old found new other.1).taken

    told_on : (old mid new : S) (why : Option RunError) → GoesOn version has old mid → notes mid why new
        → GoesOn version has old new
    told_on old mid new why on told =
        let alike = notes_count mid why new told in
        record {
          rises = let rises = on.rises in let same = alike.counted in omega arith;
          had = λ file had. alike.had file (on.had file had);
        }

    -- a file of the state took the place of the one before
    saved_then : (old new : Keeping S) → IsSaved version spells has takes notes old new
        → IsTracked version spells has new
    saved_then old new saved =
        let counted : new.saved ≡ version new.service = ap (λ (k : Keeping S). k.saved) saved.rest in
        record { had = saved.has_last; earlier = omega arith; kept = λ not_behind. saved.spelled }

    -- what it had, what the service had and what was found stand in it
    pub IsJoined-saved : (old new : Keeping S) → IsSaved version spells has takes notes old new
        → IsTracked version spells has old → IsJoined spells has old new
    IsJoined-saved old new saved tracked =
        let alike = notes_count saved.joined None new.service saved.told in
        record {
          found = saved.found;
          was_held = saved.was_held;
          has_found = alike.had saved.found
              (has_met old.last old.service saved.found saved.joined saved.joins tracked.had);
          had = (told_on old.service saved.joined new.service None
              (met old.last old.service saved.found saved.joined saved.joins) saved.told).had;
          in_file = saved.spelled;
        }

    tried_on : (old new : Keeping S) → IsNotSaved takes notes old new → GoesOn version has old.service new.service
    tried_on old new lost = told_on old.service lost.tried new.service (Some lost.why) (elim lost.tries [
      | inl same ↦
          subst (GoesOn version has old.service) (sym same) (record { rises = omega arith; had = λ file had. had })
      | inr tries ↦ met old.last old.service tries.0 lost.tried tries.2
    ]) lost.told

    lost_then : (old new : Keeping S) → IsBehind version old → IsNotSaved takes notes old new
        → IsTracked version spells has old → IsTracked version spells has new
    lost_then old new behind lost tracked =
        let on = tried_on old new lost in
        subst (IsTracked version spells has) (sym lost.rest) (record {
          had = on.had old.last tracked.had;
          earlier = let rises = on.rises in let earlier = tracked.earlier in omega arith;
          kept = λ not_behind.
              let rises = on.rises in
              absurd (elim behind [
                | inl h ↦ not_behind (inl (omega arith))
                | inr h ↦ not_behind (inr (omega arith))
              ]);
        })

    -- the end of a round
    pub IsTracked-settled : (kept : Bool) (old new : Keeping S) → Settles version spells has takes notes old kept new
        → IsTracked version spells has old → IsTracked version spells has new
    IsTracked-settled true old new (inl saved) tracked = saved_then old new saved
    IsTracked-settled true old new (inr same) tracked = subst (IsTracked version spells has) (sym same.1) tracked
    IsTracked-settled false old new lost tracked = lost_then old new lost.0 lost.1 tracked

    -- where its answers stand the file keeps the state
    pub IsInFile-settled : (old new : Keeping S) → Settles version spells has takes notes old true new
        → IsTracked version spells has old → IsInFile spells new
    IsInFile-settled old new (inl saved) tracked = saved.spelled
    IsInFile-settled old new (inr same) tracked = subst (IsInFile spells) (sym same.1) (tracked.kept same.0)

    -- a file that is known has what the store answered last
    replaced_so : (held : Option (List ℕ)) (last : List ℕ) (Q : Type 0) → held ≡ Some last → IfSome held (λ _. Q) → Q
    replaced_so held last Q is then =
        let P : Option (List ℕ) → Type 0 = λ o. IfSome o (λ _. Q) in subst P is then

    IsHeld-settled : (kept : Bool) (old new : Keeping S) → Settles version spells has takes notes old kept new
        → IsHeld old → IsHeld new
    IsHeld-settled true old new (inl saved) held =
        let named : new.name ≡ old.name = ap (λ (k : Keeping S). k.name) saved.rest in
        ap new.files named ∙ replaced_so (old.files old.name) old.last _ held saved.replaced.replaced
    IsHeld-settled true old new (inr same) held = subst (λ (k : Keeping S). IsHeld k) (sym same.1) held
    IsHeld-settled false old new lost held =
        subst (λ (k : Keeping S). IsHeld k) (sym lost.1.rest) (lost.1.files old.name ∙ held)

    -- a round
    module _ (answers : S → Request (List ℕ) → Response → S → Type 0)
        (counts : (old : S) (request : Request (List ℕ)) (response : Response) (new : S)
        → answers old request response new → IsLater version spells has old new)
        (calls : List Call) (kept : Bool) (a b c : Keeping S)
        (called : Chain (Answers answers) a calls b) (settled : Settles version spells has takes notes b kept c)
        (tracked : IsTracked version spells has a) where
      pub tracked_after : IsTracked version spells has c
      tracked_after = IsTracked-settled kept b c settled (IsTracked-chain answers counts calls a b called tracked)

      pub in_file_after : kept ≡ true → IsInFile spells c
      in_file_after stands =
          let P : Bool → Type 0 = λ k. Settles version spells has takes notes b k c in
          IsInFile-settled b c (subst P stands settled) (IsTracked-chain answers counts calls a b called tracked)

    -- where a file is known it goes on to be so
    IsHeld-chain : (answers : S → Request (List ℕ) → Response → S → Type 0) (calls : List Call) (a b : Keeping S)
        → Chain (Answers answers) a calls b → IsHeld a → IsHeld b
    IsHeld-chain answers [] a b along held = subst (λ (k : Keeping S). IsHeld k) (sym along) held
    IsHeld-chain answers (c ∷ calls) a b along held =
        IsHeld-chain answers calls along.0 b along.2 (subst (λ (k : Keeping S). IsHeld k) (sym along.1.1) held)

    pub held_after : (answers : S → Request (List ℕ) → Response → S → Type 0) (calls : List Call) (kept : Bool)
        (a b c : Keeping S) → Chain (Answers answers) a calls b
        → Settles version spells has takes notes b kept c → IsHeld a → IsHeld c
    held_after answers calls kept a b c called settled held =
        IsHeld-settled kept b c settled (IsHeld-chain answers calls a b called held)
