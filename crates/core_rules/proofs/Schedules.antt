-- Schedules: their steps make a list of events, and the strokes at the end are the join of what was accepted.
use Rattle.std.proofs.Common.{◌≡◌, ℕ, ◌+◌, List, [], ◌∷◌, ◌++◌, length, refl, sym, ◌∙◌, ap, subst, inl, inr}
use Rattle.std.proofs.Common.{append_assoc, arith, Some, slice_get}
use Rattle.std.proofs.lemmas.List.{length-append}
use Rattle.stroke_lattice.specs.State.{State, IsJoinOf}
use Rattle.stroke_lattice.proofs.Joins.{longer_from_join}
use Rattle.tile_generations.specs.Jobs.{Swept}
use Rattle.core_rules.specs.{declared.step.Step.Step, Work.Core, Runs.Entry, Runs.IsRun}
use Rattle.core_rules.specs.Events.{Event, Answer, Happens, Merge, Take, GiveBack, Abandon, Hand, OfMerge, OfTake}
use Rattle.core_rules.specs.Schedule.{Progress, started, passed, IsEventOf, IsOfResult, IsStep, AreSteps, AreEditsAt}
use Rattle.core_rules.proofs.{KeptRuns.event_keeps, Running.run_append}
use Rattle.core_rules.specs.declared.step.Step.TheVariants as steps

-- one more event at the end
run_push : (a b c : Core) (log : List Entry) (event : Event) (answer : Answer) → IsRun a log b
    → Happens b event answer c → IsRun a (log ++ (event, answer) ∷ []) c
run_push a b c log event answer run happens = run_append a b c log ((event, answer) ∷ []) run (c, happens, refl)

-- the events so far are a run from the start to the core as it is
abbrev pub IsReached : Core → Progress → Type 0
IsReached start a = IsRun start a.log a.core

passed_reaches : (start : Core) (a b : Progress) → IsReached start a → b ≡ passed a → IsReached start b
passed_reaches start a b reached same = subst (IsReached start) (sym same) reached

event_reaches : (start : Core) (a b : Progress) (event : Event) → IsReached start a → IsEventOf a event b
    → IsReached start b
event_reaches start a b event reached (answer, happens, same) =
    subst (IsReached start) (sym same) (run_push start a.core b.core a.log event answer reached happens)

result_reaches : (start : Core) (a b : Progress) (j : ℕ) (event : Swept → Event) → IsReached start a
    → IsOfResult j event a b → IsReached start b
result_reaches start a b j event reached (inl (swept, there, is_event)) =
    event_reaches start a b (event swept) reached is_event
result_reaches start a b j event reached (inr (none, same)) = passed_reaches start a b reached same

step_reaches : (start : Core) (step : Step) (a b : Progress) → IsReached start a → IsStep step a b → IsReached start b
step_reaches start (steps.Edit delta) a b reached (inl (turnover, happens, same)) =
    rw same (run_push start a.core b.core a.log (Merge delta) (OfMerge turnover) reached happens)
step_reaches start (steps.Edit delta) a b reached (inr (why, refused, same)) = rw same reached
step_reaches start (steps.Take t) a b reached (job, more, happens, added, same) =
    subst (IsReached start) (sym same) (run_push start a.core b.core a.log (Take t) (OfTake job) reached happens)
step_reaches start (steps.Return j) a b reached is_step =
    result_reaches start a b j (λ swept. GiveBack swept) reached is_step
step_reaches start (steps.Abandon j) a b reached is_step =
    result_reaches start a b j (λ swept. Abandon swept.job.ticket) reached is_step
step_reaches start (steps.Hand t place) a b reached is_step = event_reaches start a b (Hand t place) reached is_step

steps_reach : (start : Core) (steps : List Step) (a b : Progress) → IsReached start a → AreSteps steps a b
    → IsReached start b
steps_reach start [] a b reached same = subst (IsReached start) (sym same) reached
steps_reach start (step ∷ rest) a b reached (next, is_step, are_steps) =
    steps_reach start rest next b (step_reaches start step a next reached is_step) are_steps

pub schedule_is_run : (start : Core) (steps : List Step) (end : Progress) → AreSteps steps (started start) end
    → IsRun start end.log end.core
schedule_is_run start steps end are_steps = steps_reach start steps (started start) end refl are_steps

-- ---- the strokes

-- the strokes are the join of those at the start and of the deltas that were accepted
abbrev pub IsJoined : State → Progress → Type 0
IsJoined start a = IsJoinOf (start ∷ a.merged) a.core.state

step_joins : (start : State) (step : Step) (a b : Progress) → IsJoined start a → IsStep step a b → IsJoined start b
step_joins start (steps.Edit delta) a b joined (inl (turnover, merged, same)) =
    rw same (longer_from_join (start ∷ a.merged) a.core.state delta b.core.state joined merged.join)
step_joins start (steps.Edit delta) a b joined (inr (why, refused, same)) = rw same joined
step_joins start (steps.Take t) a b joined (job, more, happens, added, same) =
    rw (same, (event_keeps a.core b.core (Take t) (OfTake job) refl happens).state) joined
step_joins start (steps.Return j) a b joined (inl (swept, there, (answer, happens, same))) =
    rw (same, (event_keeps a.core b.core (GiveBack swept) answer refl happens).state) joined
step_joins start (steps.Return j) a b joined (inr (none, same)) = rw same joined
step_joins start (steps.Abandon j) a b joined (inl (swept, there, (answer, happens, same))) =
    rw (same, (event_keeps a.core b.core (Abandon swept.job.ticket) answer refl happens).state) joined
step_joins start (steps.Abandon j) a b joined (inr (none, same)) = rw same joined
step_joins start (steps.Hand t place) a b joined (answer, happens, same) =
    rw (same, (event_keeps a.core b.core (Hand t place) answer refl happens).state) joined

steps_join : (start : State) (steps : List Step) (a b : Progress) → IsJoined start a → AreSteps steps a b
    → IsJoined start b
steps_join start [] a b joined same = subst (IsJoined start) (sym same) joined
steps_join start (step ∷ rest) a b joined (next, is_step, are_steps) =
    steps_join start rest next b (step_joins start step a next joined is_step) are_steps

pub join_of_one : (s : State) → IsJoinOf (s ∷ []) s
join_of_one s = record {
  strokes = λ tag seed. (λ has. inl has, λ some. elim some [ inl has ↦ has | inr none ↦ absurd none ]);
  tombstones = λ tag. (λ has. inl has, λ some. elim some [ inl has ↦ has | inr none ↦ absurd none ]);
}

pub schedule_joins : (start : Core) (steps : List Step) (end : Progress) → AreSteps steps (started start) end
    → IsJoinOf (start.state ∷ end.merged) end.core.state
schedule_joins start steps end are_steps =
    steps_join start.state steps (started start) end (join_of_one start.state) are_steps

-- ---- the numbers of the edits that were accepted

step_at : (front rest : List Step) (step : Step) → slice_get (front ++ step ∷ rest) (length front) ≡ Some step
step_at [] rest step = refl
step_at (other ∷ front) rest step = step_at front rest step

edits_push : (all : List Step) (numbers : List ℕ) (deltas : List State) (n : ℕ) (delta : State)
    → AreEditsAt all numbers deltas → slice_get all n ≡ Some (steps.Edit delta)
    → AreEditsAt all (numbers ++ n ∷ []) (deltas ++ delta ∷ [])
edits_push all [] [] n delta edits there = (there, tt)
edits_push all (m ∷ numbers) (other ∷ deltas) n delta edits there =
    (edits.0, edits_push all numbers deltas n delta edits.1 there)
edits_push all [] (other ∷ deltas) n delta edits there = absurd edits
edits_push all (m ∷ numbers) [] n delta edits there = absurd edits

-- the numbers so far are of edits, and this many steps were made
pub record IsCounted (all front : List Step) (a : Progress) : Type 0 where
  pub count : a.count ≡ length front
  pub edits : AreEditsAt all a.accepted a.merged

-- a step that accepts no edit
other_step : (all front : List Step) (step : Step) (a b : Progress) → IsCounted all front a → b.count ≡ a.count + 1
    → b.accepted ≡ a.accepted → b.merged ≡ a.merged → IsCounted all (front ++ step ∷ []) b
other_step all front step a b counted next same_numbers same_deltas = record {
  count =
      let long : length (front ++ step ∷ []) ≡ length front + 1 = length-append front (step ∷ []) in
      omega (arith, long, counted.count, next);
  edits = rw (same_numbers, same_deltas) counted.edits;
}

pub step_counts : (all front rest : List Step) (step : Step) (a b : Progress) → all ≡ front ++ step ∷ rest
    → IsCounted all front a → IsStep step a b → IsCounted all (front ++ step ∷ []) b
step_counts all front rest (steps.Edit delta) a b parts counted (inl (turnover, merged, same)) = record {
  count =
      let long : length (front ++ steps.Edit delta ∷ []) ≡ length front + 1 =
      length-append front (steps.Edit delta ∷ []) in
      let next : b.count ≡ a.count + 1 = ap (λ (c : Progress). c.count) same in
      omega (arith, long, counted.count, next);
  edits =
      let there : slice_get all a.count ≡ Some (steps.Edit delta) =
      ap (slice_get all) counted.count ∙ ap (λ steps. slice_get steps (length front)) parts
      ∙ step_at front rest (steps.Edit delta) in
      rw same (edits_push all a.accepted a.merged a.count delta counted.edits there);
}
step_counts all front rest (steps.Edit delta) a b parts counted (inr (why, refused, same)) =
    rw same (other_step all front (steps.Edit delta) a _ counted refl refl refl)
step_counts all front rest (steps.Take t) a b parts counted (job, more, happens, added, same) =
    rw same (other_step all front (steps.Take t) a _ counted refl refl refl)
step_counts all front rest (steps.Return j) a b parts counted (inl (swept, there, (answer, happens, same))) =
    rw same (other_step all front (steps.Return j) a _ counted refl refl refl)
step_counts all front rest (steps.Return j) a b parts counted (inr (none, same)) =
    rw same (other_step all front (steps.Return j) a _ counted refl refl refl)
step_counts all front rest (steps.Abandon j) a b parts counted (inl (swept, there, (answer, happens, same))) =
    rw same (other_step all front (steps.Abandon j) a _ counted refl refl refl)
step_counts all front rest (steps.Abandon j) a b parts counted (inr (none, same)) =
    rw same (other_step all front (steps.Abandon j) a _ counted refl refl refl)
step_counts all front rest (steps.Hand t place) a b parts counted (answer, happens, same) =
    rw same (other_step all front (steps.Hand t place) a _ counted refl refl refl)

steps_count : (all front rest : List Step) (a b : Progress) → all ≡ front ++ rest → IsCounted all front a
    → AreSteps rest a b → AreEditsAt all b.accepted b.merged
steps_count all front [] a b parts counted same = rw same counted.edits
steps_count all front (step ∷ rest) a b parts counted (next, is_step, are_steps) =
    steps_count all (front ++ step ∷ []) rest next b (parts ∙ sym (append_assoc front (step ∷ []) rest))
    (step_counts all front rest step a next parts counted is_step) are_steps

pub accepted_are_edits : (start : Core) (steps : List Step) (end : Progress) → AreSteps steps (started start) end
    → AreEditsAt steps end.accepted end.merged
accepted_are_edits start steps end are_steps =
    steps_count steps [] steps (started start) end refl (record { count = refl; edits = tt }) are_steps
