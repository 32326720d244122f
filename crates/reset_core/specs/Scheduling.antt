-- What is kept while a schedule runs. Only private functions have these words in their contracts.
use Rattle.std.specs.Prelude.{◌≡◌, ℕ, ◌+◌, ◌≤◌, List, [], ◌∷◌, ◌++◌, length, take, vec_len, vec_capacity}
use Rattle.tile_generations.specs.Jobs.{Swept}
use Rattle.core_rules.specs.{declared.error.CoreError.CoreError, declared.step.Step.Step, Work.Core}
use Rattle.core_rules.specs.Runs.{jobs_of, abandons_of}
use Rattle.core_rules.specs.Schedule.{Progress, Ran, started, IsStep, AreSteps}
use Rattle.reset_core.specs.declared.replica.scheduling.Tally.{Tally}

-- what is kept of a schedule so far, beside the core: the results, the number of jobs that were abandoned, and the
-- numbers of the edits that were accepted and refused
pub record Kept : Type 0 where
  pub results : List Swept
  pub abandons : ℕ
  pub accepted : List ℕ
  pub refused : List (ℕ × CoreError)

-- what is kept at the start
abbrev pub nothing_kept : Kept
nothing_kept = record { results = []; abandons = 0; accepted = []; refused = [] }

abbrev pub kept_of : Tally → Kept
kept_of tally = record {
  results = tally.results.items;
  abandons = tally.abandons;
  accepted = tally.accepted.items;
  refused = tally.refused.items;
}

-- the lists have room for so many more edits
pub record HasRoom (tally : Tally) (n : ℕ) : Type 0 where
  pub accepted : vec_len tally.accepted + n ≤ vec_capacity tally.accepted
  pub refused : vec_len tally.refused + n ≤ vec_capacity tally.refused

-- but for so many places, the lists keep their room
abbrev pub KeepsRoom : ℕ → Tally → Tally → Type 0
KeepsRoom places before after = (n : ℕ) → HasRoom before (places + n) → HasRoom after n

-- so they do, and at most one job more is abandoned
pub record KeepsPlaces (places : ℕ) (before after : Tally) : Type 0 where
  pub few : after.abandons ≤ before.abandons + 1
  pub room : KeepsRoom places before after

-- so they do, and no job is abandoned
pub record KeepsCount (places : ℕ) (before after : Tally) : Type 0 where
  pub abandons : after.abandons ≡ before.abandons
  pub room : KeepsRoom places before after

-- what is kept, with one result more
abbrev pub with_result : Kept → Swept → Kept
with_result kept swept = record kept { results = kept.results ++ swept ∷ [] }

-- what a schedule did that left this
abbrev pub account_of : Kept → Ran
account_of kept = record {
  jobs = length kept.results;
  abandons = kept.abandons;
  accepted = kept.accepted;
  refused = kept.refused;
}

-- a schedule that has come so far, after so many steps, left this core, and this was kept
pub record Agrees (now : Core) (kept : Kept) (steps : ℕ) (a : Progress) : Type 0 where
  pub core_is : a.core ≡ now
  pub count_is : a.count ≡ steps
  pub results_are : a.results ≡ kept.results
  pub jobs_are : jobs_of a.log ≡ length kept.results
  pub abandons_are : abandons_of a.log ≡ kept.abandons
  pub accepted_are : a.accepted ≡ kept.accepted
  pub refused_are : a.refused ≡ kept.refused

-- the step of this number leads from the one core to the other, and from what was kept before it to what is kept then
pub record LeadsOn (step : Step) (n : ℕ) (before : Core) (kept : Kept) (after : Core) (more : Kept) : Type 0 where
  pub next : (a : Progress) → Agrees before kept n a → (b : Progress) × IsStep step a b × Agrees after more (n + 1) b

-- so it leads from one tally to another
abbrev pub StepLeads : Step → ℕ → Core → Tally → Core → Tally → Type 0
StepLeads step n before tally after more = LeadsOn step n before (kept_of tally) after (kept_of more)

-- so many steps of a schedule were made, and led to this core
pub record HaveRunSoFar (start : Core) (all : List Step) (n : ℕ) (now : Core) (kept : Kept) : Type 0 where
  pub reached : Progress
  pub are_steps : AreSteps (take n all) (started start) reached
  pub agrees : Agrees now kept n reached
  pub few : kept.abandons ≤ n
