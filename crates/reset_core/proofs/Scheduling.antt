-- Schedules: what each step leads to, and how one goes after another.
use Rattle.std.proofs.Common.{◌≡◌, ℕ, ◌+◌, ◌<◌, ◌≤◌, Bool, true, false, List, [], ◌∷◌, ◌++◌, length, take, drop, suc}
use Rattle.std.proofs.Common.{get_or, refl, sym, subst, ap, ◌∙◌, arith, inl, inr, ◌⊎◌, ◌≢◌, Option, Some, None}
use Rattle.std.proofs.Common.{Result, Ok, Err, OnOk, OnErr, slice_get, Bor}
use Rattle.std.proofs.{lemmas.Option.slice_get_past, lemmas.Option.slice_get_read, Math.Seq.drop-cons}
use Rattle.std.proofs.lemmas.List.{append-nil, length_push, take_more, take-append-drop}
use Rattle.std.specs.Slice.{IsItemAt}
use Rattle.stroke_lattice.specs.{State.State, Change.Turnover}
use Rattle.tile_generations.specs.{declared.ticket.Ticket.Ticket, Jobs.Job, Jobs.Swept, Jobs.IsSwept}
use Rattle.core_rules.specs.{declared.error.CoreError.CoreError, declared.answers.Back.Back}
use Rattle.core_rules.specs.{declared.answers.Handed.Handed, declared.step.Step.Step, Work.Core, Work.work_at}
use Rattle.core_rules.specs.{Work.with_work, Merge.IsMerged, Merge.IsRefused, Merge.IsAcceptable, Hints.IsHanded}
use Rattle.core_rules.specs.{Runs.Entry, Runs.jobs_of, Runs.abandons_of, Counting.IsWithinWork}
use Rattle.core_rules.specs.{Laws.ScheduleIsWithinWork, Invariant.IsSound}
use Rattle.core_rules.specs.Sweeps.{IsTaken, IsGivenBack, IsAbandoned, taken}
use Rattle.core_rules.specs.Events.{Event, Answer, Happens, Merge, Take, GiveBack, Abandon, Hand, OfMerge, OfTake}
use Rattle.core_rules.specs.Events.{OfGiveBack, OfAbandon, OfHand}
use Rattle.core_rules.specs.Schedule.{Progress, Ran, started, passed, after_event, IsStep, AreSteps, ran_of, IsStopped}
use Rattle.core_rules.specs.Schedule.{IsCutOff, edits_of}
use Rattle.reset_core.specs.declared.replica.scheduling.Tally.{Tally}
use Rattle.reset_core.specs.Scheduling.{Kept, Agrees, LeadsOn, HaveRunSoFar, HasRoom}
use Rattle.core_rules.proofs.PassingOver.{same_work, taken_is_out, work_back, work_is_back}
use Rattle.reset_core.proofs.Settling.{jobs_append}
use Rattle.core_rules.specs.declared.error.CoreError.TheVariants as errors
use Rattle.core_rules.specs.declared.step.Step.TheVariants as steps

-- ---- one more step

abandons_push : (log : List Entry) (entry : Entry)
    → abandons_of (log ++ entry ∷ []) ≡ abandons_of log + abandons_of (entry ∷ [])
abandons_push [] entry = omega arith
abandons_push ((Abandon ticket, OfAbandon true) ∷ log) entry = omega (arith, abandons_push log entry)
abandons_push (first ∷ log) entry = abandons_push log entry

-- a step that adds nothing
agrees_passed : (a : Progress) (now : Core) (kept : Kept) (n : ℕ) → Agrees now kept n a
    → Agrees now kept (n + 1) (passed a)
agrees_passed a now kept n so_far = record {
  core_is = so_far.core_is;
  count_is = ap (λ m. m + 1) so_far.count_is;
  results_are = so_far.results_are;
  jobs_are = so_far.jobs_are;
  abandons_are = so_far.abandons_are;
  accepted_are = so_far.accepted_are;
  refused_are = so_far.refused_are;
}

-- a step that adds an event
agrees_after : (a b : Progress) (before after : Core) (kept more : Kept) (n : ℕ) (entry : Entry)
    → Agrees before kept n a → b.count ≡ a.count + 1 → b.core ≡ after → b.log ≡ a.log ++ entry ∷ []
    → b.results ≡ more.results → length more.results ≡ length kept.results + jobs_of (entry ∷ [])
    → more.abandons ≡ kept.abandons + abandons_of (entry ∷ []) → b.accepted ≡ more.accepted
    → b.refused ≡ more.refused → Agrees after more (n + 1) b
agrees_after a b before after kept more n entry so_far count core log results jobs abandons accepted refused = record {
  core_is = core;
  count_is = omega (arith, so_far.count_is, count);
  results_are = results;
  jobs_are = omega (arith, ap jobs_of log, jobs_append a.log (entry ∷ []), so_far.jobs_are, jobs);
  abandons_are = omega (arith, ap abandons_of log, abandons_push a.log entry, so_far.abandons_are, abandons);
  accepted_are = accepted;
  refused_are = refused;
}

-- the same event at the core of a schedule that agrees
happens_there : (a : Progress) (before after : Core) (kept : Kept) (n : ℕ) (event : Event) (answer : Answer)
    → Agrees before kept n a → Happens before event answer after → Happens a.core event answer after
happens_there a before after kept n event answer so_far happens = rw so_far.core_is happens

result_there : (a : Progress) (now : Core) (kept : Kept) (n place : ℕ) (result : Option Swept) → Agrees now kept n a
    → slice_get kept.results place ≡ result → slice_get a.results place ≡ result
result_there a now kept n place result so_far there = ap (λ results. slice_get results place) so_far.results_are ∙ there

-- ---- what a look-up gives

pub none_there : {X : Type 0} (o : Option X) → ((x : X) → o ≡ Some x → ⊥) → o ≡ None
none_there None never = refl
none_there (Some x) never = absurd (never x refl)

pub no_item : (xs : List Swept) (i : ℕ) (item : Option (Bor Swept)) → IsItemAt xs i item
    → ((x : Bor Swept) → item ≡ Some x → ⊥) → slice_get xs i ≡ None
no_item xs i None is_item never = slice_get_past xs i is_item.3
no_item xs i (Some x) is_item never = absurd (never x refl)

pub item_there : (xs : List Swept) (i : ℕ) (item : Option (Bor Swept)) (x : Bor Swept) → IsItemAt xs i item
    → item ≡ Some x → slice_get xs i ≡ Some x.now
item_there xs i item x is_item same =
    let here : IsItemAt xs i (Some x) = subst (IsItemAt xs i) same is_item in
    slice_get_read xs (length xs) i x.now refl here.3.0 here.1

-- what a function returns where it fails

pub on_err : {T E P : Type 0} (r : Result T E) → P → OnErr r P
on_err (Ok x) holds = tt
on_err (Err e) holds = holds

-- and where it hands on what another returned

pub on_ok_map2 : {T E P Q S : Type 0} (r : Result T E) → OnOk r P → OnOk r Q → (P → Q → S) → OnOk r S
on_ok_map2 (Ok x) first second map = map first second
on_ok_map2 (Err e) first second map = tt

-- ---- edits

pub edit_accepted : (n : ℕ) (delta : State) (before after : Core) (kept : Kept) (turnover : Turnover)
    → IsMerged before delta turnover after
    → LeadsOn (steps.Edit delta) n before kept after (record kept { accepted = kept.accepted ++ n ∷ [] })
edit_accepted n delta before after kept turnover merged = record {
  next = λ a so_far.
      let event = Merge delta in
      let answer = OfMerge turnover in
      let b : Progress = record (after_event a after event answer) {
        accepted = a.accepted ++ a.count ∷ [];
        merged = a.merged ++ delta ∷ [];
      } in
      let numbers : a.accepted ++ a.count ∷ [] ≡ kept.accepted ++ n ∷ [] =
      ap (λ ns. ns ++ a.count ∷ []) so_far.accepted_are ∙ ap (λ m. kept.accepted ++ m ∷ []) so_far.count_is in (
        b,
        inl (turnover, happens_there a before after kept n event answer so_far merged, refl),
        agrees_after a b before after kept (record kept { accepted = kept.accepted ++ n ∷ [] }) n (event, answer) so_far
            refl refl refl so_far.results_are (omega arith) (omega arith) numbers so_far.refused_are,
      );
}

edit_refused : (n : ℕ) (delta : State) (now : Core) (kept : Kept) (why : CoreError) → IsRefused now delta why
    → LeadsOn (steps.Edit delta) n now kept now (record kept { refused = kept.refused ++ (n, why) ∷ [] })
edit_refused n delta now kept why refused = record {
  next = λ a so_far.
      let b : Progress = record (passed a) { refused = a.refused ++ (a.count, why) ∷ [] } in
      let reasons : a.refused ++ (a.count, why) ∷ [] ≡ kept.refused ++ (n, why) ∷ [] =
      ap (λ rs. rs ++ (a.count, why) ∷ []) so_far.refused_are
      ∙ ap (λ m. kept.refused ++ (m, why) ∷ []) so_far.count_is in (
        b,
        inr (why, subst (λ (core : Core). IsRefused core delta why) (sym so_far.core_is) refused, refl),
        record {
          core_is = so_far.core_is;
          count_is = ap (λ m. m + 1) so_far.count_is;
          results_are = so_far.results_are;
          jobs_are = so_far.jobs_are;
          abandons_are = so_far.abandons_are;
          accepted_are = so_far.accepted_are;
          refused_are = reasons;
        },
      );
}

-- what a merge answers where it does not take the delta, and the reason is not memory
pub edit_turned_down : (n : ℕ) (delta : State) (before after : Core) (kept more : Kept) (why : CoreError)
    → IsRefused before delta why ⊎ ((why ≡ errors.Memory) × IsAcceptable before delta) → why ≢ errors.Memory
    → after ≡ before → more ≡ record kept { refused = kept.refused ++ (n, why) ∷ [] }
    → LeadsOn (steps.Edit delta) n before kept after more
edit_turned_down n delta before after kept more why (inl refused) other same_core same =
    rw (same_core, same) (edit_refused n delta before kept why refused)
edit_turned_down n delta before after kept more why (inr (memory, acceptable)) other same_core same =
    absurd (other memory)

-- and where the reason is memory, the delta would else be taken
pub edit_cut_off : (delta : State) (before : Core) (why : CoreError)
    → IsRefused before delta why ⊎ ((why ≡ errors.Memory) × IsAcceptable before delta) → why ≡ errors.Memory
    → IsAcceptable before delta
edit_cut_off delta before why (inl refused) memory = absurd (subst (IsRefused before delta) memory refused)
edit_cut_off delta before why (inr (is, acceptable)) memory = acceptable

-- ---- takes

pub take_gives_none : (n t : ℕ) (before after : Core) (kept : Kept) → IsTaken before t None after
    → LeadsOn (steps.Take t) n before kept after kept
take_gives_none n t before after kept is_taken = record {
  next = λ a so_far.
      let event = Take t in
      let answer = OfTake None in
      let b : Progress = record (after_event a after event answer) { results = a.results ++ [] } in (
        b,
        (None, [], happens_there a before after kept n event answer so_far is_taken, refl, refl),
        agrees_after a b before after kept kept n (event, answer) so_far refl refl refl
            (append-nil a.results ∙ so_far.results_are) (omega arith) (omega arith) so_far.accepted_are
            so_far.refused_are,
      );
}

pub take_gives_job : (n t : ℕ) (before after : Core) (kept : Kept) (job : Job) (swept : Swept)
    → IsTaken before t (Some job) after → IsSwept swept → swept.job ≡ job
    → LeadsOn (steps.Take t) n before kept after (record kept { results = kept.results ++ swept ∷ [] })
take_gives_job n t before after kept job swept is_taken is_swept same = record {
  next = λ a so_far.
      let event = Take t in
      let answer = OfTake (Some job) in
      let b : Progress = record (after_event a after event answer) { results = a.results ++ swept ∷ [] } in (
        b,
        (
          Some job,
          swept ∷ [],
          happens_there a before after kept n event answer so_far is_taken,
          (swept, is_swept, same, refl),
          refl,
        ),
        agrees_after a b before after kept (record kept { results = kept.results ++ swept ∷ [] }) n (event, answer)
            so_far refl refl refl (ap (λ rs. rs ++ swept ∷ []) so_far.results_are)
            (omega (arith, length_push kept.results swept)) (omega arith) so_far.accepted_are so_far.refused_are,
      );
}

-- ---- returns

pub no_result_to_return : (n place : ℕ) (now : Core) (kept : Kept) → slice_get kept.results place ≡ None
    → LeadsOn (steps.Return place) n now kept now kept
no_result_to_return n place now kept none = record {
  next = λ a so_far.
      (passed a, inr (result_there a now kept n place None so_far none, refl), agrees_passed a now kept n so_far);
}

pub result_returned : (n place : ℕ) (before after : Core) (kept : Kept) (swept : Swept) (back : Back)
    → slice_get kept.results place ≡ Some swept → IsSwept swept → IsGivenBack before swept back after
    → LeadsOn (steps.Return place) n before kept after kept
result_returned n place before after kept swept back there is_swept given = record {
  next = λ a so_far.
      let event = GiveBack swept in
      let answer = OfGiveBack back in (
        after_event a after event answer,
        inl (
          swept,
          result_there a before kept n place (Some swept) so_far there,
          (answer, happens_there a before after kept n event answer so_far (is_swept, given), refl),
        ),
        agrees_after a (after_event a after event answer) before after kept kept n (event, answer) so_far refl refl refl
            so_far.results_are (omega arith) (omega arith) so_far.accepted_are so_far.refused_are,
      );
}

-- ---- abandoned jobs

pub no_result_to_abandon : (n place : ℕ) (now : Core) (kept : Kept) → slice_get kept.results place ≡ None
    → LeadsOn (steps.Abandon place) n now kept now kept
no_result_to_abandon n place now kept none = record {
  next = λ a so_far.
      (passed a, inr (result_there a now kept n place None so_far none, refl), agrees_passed a now kept n so_far);
}

pub job_abandoned : (n place : ℕ) (before after : Core) (kept : Kept) (swept : Swept)
    → slice_get kept.results place ≡ Some swept → IsAbandoned before swept.job.ticket true after
    → LeadsOn (steps.Abandon place) n before kept after (record kept { abandons = kept.abandons + 1 })
job_abandoned n place before after kept swept there abandoned = record {
  next = λ a so_far.
      let event = Abandon swept.job.ticket in
      let answer = OfAbandon true in (
        after_event a after event answer,
        inl (
          swept,
          result_there a before kept n place (Some swept) so_far there,
          (answer, happens_there a before after kept n event answer so_far abandoned, refl),
        ),
        agrees_after a (after_event a after event answer) before after kept
            (record kept { abandons = kept.abandons + 1 }) n (event, answer) so_far refl refl refl so_far.results_are
            (omega arith) (omega arith) so_far.accepted_are so_far.refused_are,
      );
}

pub job_not_out : (n place : ℕ) (before after : Core) (kept : Kept) (swept : Swept)
    → slice_get kept.results place ≡ Some swept → IsAbandoned before swept.job.ticket false after
    → LeadsOn (steps.Abandon place) n before kept after kept
job_not_out n place before after kept swept there not_out = record {
  next = λ a so_far.
      let event = Abandon swept.job.ticket in
      let answer = OfAbandon false in (
        after_event a after event answer,
        inl (
          swept,
          result_there a before kept n place (Some swept) so_far there,
          (answer, happens_there a before after kept n event answer so_far not_out, refl),
        ),
        agrees_after a (after_event a after event answer) before after kept kept n (event, answer) so_far refl refl refl
            so_far.results_are (omega arith) (omega arith) so_far.accepted_are so_far.refused_are,
      );
}

-- ---- hints

pub hint_handed : (n t place : ℕ) (before after : Core) (kept : Kept) (handed : Handed)
    → IsHanded before t place handed after → LeadsOn (steps.Hand t place) n before kept after kept
hint_handed n t place before after kept handed is_handed = record {
  next = λ a so_far.
      let event = Hand t place in
      let answer = OfHand handed in (
        after_event a after event answer,
        (answer, happens_there a before after kept n event answer so_far is_handed, refl),
        agrees_after a (after_event a after event answer) before after kept kept n (event, answer) so_far refl refl refl
            so_far.results_are (omega arith) (omega arith) so_far.accepted_are so_far.refused_are,
      );
}

-- ---- a job that is taken and abandoned at once

pub taken_and_abandoned : (before mid after : Core) (t : ℕ) (job : Job) (ticket : Ticket) (was_out : Bool)
    → IsTaken before t (Some job) mid → ticket ≡ job.ticket → IsAbandoned mid ticket was_out after
    → after ≡ record before { serial = after.serial }
taken_and_abandoned before mid after t job ticket true (ready, next, same_mid) same (out, same_after) =
    let back : Core → ℕ → Core = λ core u. with_work core u (work_back (work_at core u)) in
    let tile : ticket.tile ≡ t = ap (λ (k : Ticket). k.tile) (same ∙ next.ticket) in
    let restored : after ≡ record before { serial = (taken before t).serial } =
    same_after ∙ ap (λ (core : Core). back core ticket.tile) same_mid ∙ ap (back (taken before t)) tile
    ∙ same_work before t (work_back (work_at (taken before t) t)) (work_is_back before t ready) in
    let with_serial : ℕ → Core = λ serial. record before { serial = serial } in
    restored ∙ ap with_serial (sym (ap (λ (core : Core). core.serial) restored))
taken_and_abandoned before mid after t job ticket false (ready, next, same_mid) same (not_out, same_after) =
    absurd (not_out (rw (same_mid, same ∙ next.ticket) (taken_is_out before t ready)))

-- ---- step after step

steps_push : (front : List Step) (step : Step) (a b c : Progress) → AreSteps front a b → IsStep step b c
    → AreSteps (front ++ step ∷ []) a c
steps_push [] step a b c same is_step = (c, subst (λ (p : Progress). IsStep step p c) same is_step, refl)
steps_push (first ∷ front) step a b c (next, is_first, rest) is_step =
    (next, is_first, steps_push front step next b c rest is_step)

pub none_run : (start : Core) (all : List Step) (kept : Kept)
    → kept ≡ record { results = []; abandons = 0; accepted = []; refused = [] } → HaveRunSoFar start all 0 start kept
none_run start all kept same =
    subst (λ (k : Kept). HaveRunSoFar start all 0 start k) (sym same) (record {
      reached = started start;
      are_steps = refl;
      agrees = record {
        core_is = refl;
        count_is = refl;
        results_are = refl;
        jobs_are = refl;
        abandons_are = refl;
        accepted_are = refl;
        refused_are = refl;
      };
      few = omega arith;
    })

pub one_more_run : (start : Core) (all : List Step) (n : ℕ) (now after : Core) (kept more : Kept) (step : Step)
    → HaveRunSoFar start all n now kept → n < length all → step ≡ get_or all n step → LeadsOn step n now kept after more
    → more.abandons ≤ kept.abandons + 1 → HaveRunSoFar start all (n + 1) after more
one_more_run start all n now after kept more step so_far within there leads few =
    let next = leads.next so_far.reached so_far.agrees in
    let front : take (n + 1) all ≡ take n all ++ step ∷ [] =
    take_more all n step within ∙ ap (λ s. take n all ++ s ∷ []) (sym there) in
    record {
      reached = next.0;
      are_steps = rw front (steps_push (take n all) step (started start) so_far.reached next.0 so_far.are_steps next.1);
      agrees = next.2;
      few = omega (arith, so_far.few, few);
    }

account : (now : Core) (kept : Kept) (n : ℕ) (a : Progress) → Agrees now kept n a → ran_of a ≡ record {
  jobs = length kept.results;
  abandons = kept.abandons;
  accepted = kept.accepted;
  refused = kept.refused;
}
account now kept n a agrees = λ i. record {
  jobs = agrees.jobs_are i;
  abandons = agrees.abandons_are i;
  accepted = agrees.accepted_are i;
  refused = agrees.refused_are i;
}

pub all_run : (start : Core) (all : List Step) (n : ℕ) (now : Core) (kept : Kept) (ran : Ran)
    → HaveRunSoFar start all n now kept → take n all ≡ all
    → ran ≡ record {
      jobs = length kept.results;
      abandons = kept.abandons;
      accepted = kept.accepted;
      refused = kept.refused;
    }
    → (end : Progress) × AreSteps all (started start) end × (ran ≡ ran_of end) × (now ≡ end.core)
all_run start all n now kept ran so_far whole same =
    let end = so_far.reached in
    let agrees = so_far.agrees in (
      end,
      subst (λ done. AreSteps done (started start) end) whole so_far.are_steps,
      same ∙ sym (account now kept n end agrees),
      sym agrees.core_is,
    )

-- the steps that are left, the next one first
next_is : (all : List Step) (n : ℕ) (step : Step) → n < length all → step ≡ get_or all n step
    → drop n all ≡ step ∷ drop (n + 1) all
next_is all n step within there =
    let next : suc n ≡ n + 1 = omega arith in
    drop-cons all n step within ∙ ap (λ k. get_or all n step ∷ drop k all) next
    ∙ ap (λ s. s ∷ drop (n + 1) all) (sym there)

-- memory ran out within the next step
pub run_stops : (start : Core) (all : List Step) (n : ℕ) (now after : Core) (kept : Kept) (step : Step)
    → HaveRunSoFar start all n now kept → n < length all → step ≡ get_or all n step
    → IsCutOff now kept.results step after → IsStopped start all after
run_stops start all n now after kept step so_far within there cut =
    let reached = so_far.reached in
    let rest : drop n all ≡ step ∷ drop (n + 1) all = next_is all n step within there in
    inr (record {
      done = take n all;
      step = step;
      rest = drop (n + 1) all;
      parts = sym (take-append-drop n all) ∙ ap (λ left. take n all ++ left) rest;
      reached = reached;
      are_steps = so_far.are_steps;
      cut_off = rw (so_far.agrees.core_is, so_far.agrees.results_are) cut;
    })

-- ---- places for edits

-- the steps that are left have one edit fewer, if the next one is an edit
edits_of_cons : (step : Step) (rest : List Step) → edits_of (step ∷ rest) ≡ edits_of (step ∷ []) + edits_of rest
edits_of_cons (steps.Edit delta) rest = omega arith
edits_of_cons (steps.Take t) rest = omega arith
edits_of_cons (steps.Return j) rest = omega arith
edits_of_cons (steps.Abandon j) rest = omega arith
edits_of_cons (steps.Hand t place) rest = omega arith

pub next_edits : (all : List Step) (n : ℕ) (step : Step) → n < length all → step ≡ get_or all n step
    → edits_of (drop n all) ≡ edits_of (step ∷ []) + edits_of (drop (n + 1) all)
next_edits all n step within there =
    ap edits_of (next_is all n step within there) ∙ edits_of_cons step (drop (n + 1) all)

-- room for more edits is room for fewer
pub room_for_fewer : (tally : Tally) (n m : ℕ) → HasRoom tally n → m ≤ n → HasRoom tally m
room_for_fewer tally n m room fewer =
    let accepted = room.accepted in
    let refused = room.refused in
    record { accepted = omega (arith, accepted, fewer); refused = omega (arith, refused, fewer) }

-- ---- the bound on the work

pub run_within_work : ScheduleIsWithinWork → (start now : Core) (all : List Step) (ran : Ran) → IsSound start
    → ((end : Progress) × AreSteps all (started start) end × (ran ≡ ran_of end) × (now ≡ end.core))
    → ran.accepted ≡ [] → IsWithinWork start now ran.jobs ran.abandons
run_within_work law start now all ran sound (end, are_steps, same, core_is) none =
    let none_accepted : end.accepted ≡ [] = sym (ap (λ (r : Ran). r.accepted) same) ∙ none in
    let within = law start all end sound are_steps none_accepted in
    rw (same, core_is) within
