-- A job more with its report.
use Rattle.std.proofs.Common.{◌≡◌, ℕ, Bool, true, false, List, [], ◌∷◌, ◌++◌, sym, refl}
use Rattle.std.proofs.Common.{◌∙◌, subst}
use Rattle.std.proofs.lemmas.Slice.Zip.{all_zipped_more}
use Rattle.std.specs.List.{AllZip}
use Rattle.tile_generations.specs.{Jobs.Job}
use Rattle.steal_pool.specs.{declared.report.Report.Report, declared.report.Report.TheVariants.Done}
use Rattle.steal_pool.specs.{declared.report.Report.TheVariants.Failed, declared.report.Turn.Turn, Views.HandView}
use Rattle.steal_pool.specs.{Views.reports, Working.Adds, Working.IsOutcome}
use Rattle.steal_pool.specs.Reports.{IsReportOf, AreReported, IsTurn, AreTurns, IsStep}
use Rattle.steal_pool.specs.declared.report.Turn.TheVariants as turn

reported : (k : ℕ) (job : Job) (answer : Turn) (report : Report) → IsOutcome job answer report
    → IsReportOf (k, job) report
reported k job (turn.Worked ticket) (Done swept) o = o.1
reported k job (turn.Failed ticket) (Failed same) o = o.1 ∙ o.0
reported k job _ _ o = absurd o

-- One job more was got, and this came of it
module _ (old now : HandView) (job : Job) (answer : Turn) (report : Report) (adds : Adds old now job)
    (outcome : IsOutcome job answer report) (all : AreReported old.got (reports old)) where
  -- so with this report each job has its report
  pub one_more : AreReported now.got (reports now ++ report ∷ [])
  one_more =
      subst (λ (h : HandView). AreReported h.got (reports h ++ report ∷ [])) (sym adds.1)
      (all_zipped_more IsReportOf old.got (reports old) (adds.0, job) report all
      (reported adds.0 job answer report outcome))

  -- and it was reported
  module _ (new : HandView) (got : new.got ≡ now.got) (given : reports new ≡ reports now ++ report ∷ []) where
    pub all_reported : AreReported new.got (reports new)
    all_reported =
        subst (λ (l : List Report). AreReported new.got l) (sym given)
        (subst (λ (l : List (ℕ × Job)). AreReported l (reports now ++ report ∷ [])) (sym got) one_more)

-- where two lists are matched, and their beginnings are, so is the rest
pub zip_rest : {A B : Type 0} (R : A → B → Type 0) (xs more : List A) (ys others : List B)
    → AllZip R (xs ++ more) (ys ++ others) → AllZip R xs ys → AllZip R more others
zip_rest R [] more [] others all first = all
zip_rest R [] more (y ∷ ys) others all first = absurd first
zip_rest R (x ∷ xs) more [] others all first = absurd first
zip_rest R (x ∷ xs) more (y ∷ ys) others all first = zip_rest R xs more ys others all.1 first.1

-- what one report is of
pub one_reported : (got : List (ℕ × Job)) (report : Report) → AreReported got (report ∷ [])
    → (place : ℕ) × (job : Job) × (got ≡ (place, job) ∷ []) × IsReportOf (place, job) report
one_reported [] report all = absurd all
one_reported (x ∷ []) report all = (x.0, x.1, refl, all.0)
one_reported (x ∷ (y ∷ got)) report all = absurd all.1

-- one turn more
pub one_turn_more : (old now new : HandView) (answers : List Turn) (answer : Turn) → AreTurns old answers now
    → IsTurn now answer new → AreTurns old (answers ++ answer ∷ []) new
one_turn_more old now new [] answer h t = (new, subst (λ (v : HandView). IsTurn v answer new) h t, refl)
one_turn_more old now new (first ∷ others) answer h t =
    (h.0, h.1, one_turn_more h.0 now new others answer h.2 t)

-- turns were made, so many as it may be
abbrev pub HaveTurned : HandView → HandView → Type 0
HaveTurned old new = (answers : List Turn) × AreTurns old answers new

-- running goes on by one turn, and ends by none
pub one_step_more : (old now new : HandView) (ends : Bool) → HaveTurned old now → ends ≡ false → IsStep now ends new
    → HaveTurned old new
one_step_more old now new true h not_yet step = absurd cc
one_step_more old now new false h not_yet step =
    (h.0 ++ step.0 ∷ [], one_turn_more old now new h.0 step.0 h.1 step.1)

pub no_step_more : (old now new : HandView) (ends : Bool) → HaveTurned old now → ends ≡ true → IsStep now ends new
    → HaveTurned old new
no_step_more old now new true h last step = subst (λ (v : HandView). HaveTurned old v) (sym step) h
no_step_more old now new false h last step = absurd cc
