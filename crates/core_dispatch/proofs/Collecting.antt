-- Reports that are collected of hands, and given to the core.
use Rattle.std.proofs.Common.{◌≡◌, ℕ, ◌+◌, ◌≤◌, Bool, true, false, List, [], ◌∷◌, ◌++◌, length, refl, subst, arith}
use Rattle.std.proofs.Common.{Option, Some, None}
use Rattle.tile_generations.specs.{declared.ticket.Ticket.Ticket, Jobs.Swept, Jobs.IsSwept}
use Rattle.core_rules.specs.{declared.answers.Back.Back, declared.answers.Back.TheVariants.Stranger}
use Rattle.core_rules.specs.Events.{GiveBack, Abandon, OfGiveBack, OfAbandon}
use Rattle.core_rules.specs.Sweeps.{IsGivenBack, IsAbandoned}
use Rattle.reset_core.specs.Answers.{IsJoinable}
use Rattle.steal_pool.specs.declared.report.Report.TheVariants.{Failed}
use Rattle.core_dispatch.specs.{Books.BooksView, Books.KeepsRest, Dispatching.Dispatcher}
use Rattle.core_dispatch.specs.Reports.{IsAnswered, IsGivenOver, IsJudged, IsCollected, AreCollected, results_in}
use Rattle.core_dispatch.proofs.Steady.{rest_kept}

-- ---- one report

-- the swept tile was given back, with an answer that needs no more
pub given_over : (old new : BooksView) (swept : Swept) (back : Back) → IsSwept swept
    → IsAnswered swept back ((GiveBack swept, OfGiveBack back) ∷ []) → IsGivenBack old.core swept back new.core
    → KeepsRest old new → IsGivenOver old swept false new
given_over old new swept back is_swept answered given rest = record {
  log = (GiveBack swept, OfGiveBack back) ∷ [];
  leads = (back, answered);
  memory = λ wanting. absurd cc;
  run = (new.core, (is_swept, given), refl);
  rest = rest;
}

-- the swept tile was given back, and abandoned as none of the core's
pub given_over_and_dropped : (old between new : BooksView) (swept : Swept) (was_out : Bool) → IsSwept swept
    → IsGivenBack old.core swept Stranger between.core → KeepsRest old between
    → IsAbandoned between.core swept.job.ticket was_out new.core → KeepsRest between new
    → IsGivenOver old swept false new
given_over_and_dropped old between new swept was_out is_swept given first abandoned second = record {
  log = (GiveBack swept, OfGiveBack Stranger) ∷ (Abandon swept.job.ticket, OfAbandon was_out) ∷ [];
  leads = (Stranger, (was_out, refl));
  memory = λ wanting. absurd cc;
  run = (between.core, (is_swept, given), (new.core, abandoned, refl));
  rest = rest_kept old between new first second;
}

-- memory was wanting to give the swept tile back, and it was abandoned
pub dropped : (old between new : BooksView) (swept : Swept) (was_out : Bool)
    → IsJoinable old.core swept.job → between ≡ old
    → IsAbandoned between.core swept.job.ticket was_out new.core → KeepsRest between new
    → IsGivenOver old swept true new
dropped old between new swept was_out joinable same abandoned rest =
    let from_old : IsAbandoned old.core swept.job.ticket was_out new.core × KeepsRest old new =
    subst (λ (b : BooksView). IsAbandoned b.core swept.job.ticket was_out new.core × KeepsRest b new) same
    (abandoned, rest) in
    record {
      log = (Abandon swept.job.ticket, OfAbandon was_out) ∷ [];
      leads = (was_out, refl);
      memory = λ wanting. joinable;
      run = (new.core, from_old.0, refl);
      rest = from_old.1;
    }

pub judged_failed : (old new : BooksView) (ticket : Ticket) (was_out : Bool)
    → IsAbandoned old.core ticket was_out new.core → KeepsRest old new → IsJudged old (Failed ticket) false new
judged_failed old new ticket was_out abandoned rest = record {
  log = (Abandon ticket, OfAbandon was_out) ∷ [];
  leads = (refl, (was_out, refl));
  memory = λ wanting. absurd cc;
  run = (new.core, abandoned, refl);
  rest = rest;
}

-- ---- one hand after another

-- one hand more
pub collected_more : (hand : ℕ) (a b c : Dispatcher) (answers : List (Option Bool)) (answer : Option Bool)
    (at : ℕ) → at ≡ hand + length answers → AreCollected hand a answers b → IsCollected at b answer c
    → AreCollected hand a (answers ++ answer ∷ []) c
collected_more hand a b c [] answer at is same last =
    let here : at ≡ hand = omega arith in
    (c, subst (λ (n : ℕ). IsCollected n a answer c) here (subst (λ x. IsCollected at x answer c) same last), refl)
collected_more hand a b c (first ∷ answers) answer at is (next, turn, rest) last =
    (next, turn, collected_more (hand + 1) next b c answers answer at (omega arith) rest last)

pub at_most_one : (answer : Option Bool) → results_in answer ≤ 1
at_most_one None = omega arith
at_most_one (Some wanting) = omega arith
