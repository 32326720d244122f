-- A run without merges takes no more jobs than there was work.
use Rattle.std.proofs.Common.{◌≡◌, ℕ, zero, suc, ◌+◌, ◌-◌, ◌<◌, ◌≤◌, Bool, true, false, cond, List, [], ◌∷◌, ◌++◌}
use Rattle.std.proofs.Common.{length, get_or, refl, sym, ◌∙◌, ap, subst, arith, inl, inr, Option, Some, None, remove}
use Rattle.std.proofs.Common.{count_by, is_some, option_map, option_to_list, sum_by}
use Rattle.std.proofs.{lemmas.List.length-append, lemmas.List.Sums.sum_by-cons, lemmas.List.Sums.sum_by-set}
use Rattle.grid_core.specs.{declared.conn.Conn.Conn, declared.pixel.Pixel.Pixel, Raster.Raster, Raster.value_at}
use Rattle.grid_core.specs.{Path.Inside, Path.domain_of, Reconstruction.IsReconstruction, Reconstruction.IsLawful}
use Rattle.grid_core.specs.{Tiles.tile_of, Owed.sum_over}
use Rattle.grid_core.proofs.{Images.lies_between, Sums.sum_over-le, Sums.sum_over-less, Growing.reconstruction_of}
use Rattle.grid_core.proofs.Owed.{one_owed, same_marker, reconstruction_is_owed_nothing}
use Rattle.stroke_lattice.specs.State.{State}
use Rattle.marker_tiles.specs.Marker.{IsMarker}
use Rattle.marker_tiles.proofs.Levels.{one_marker}
use Rattle.border_queues.specs.{Laws.EdgesAreOpen, TileWork.TileWork, TileWork.idle}
use Rattle.tile_generations.specs.{declared.ticket.Ticket.Ticket, Jobs.Job, Jobs.Swept, Jobs.IsSwept}
use Rattle.core_rules.specs.{declared.answers.Back.Back, declared.answers.Handed.Handed, declared.step.Step.Step}
use Rattle.core_rules.specs.{Hints.without_hint, Hints.raised, Hints.IsHanded, Invariant.IsSound}
use Rattle.core_rules.specs.declared.answers.Back.TheVariants.{Joined, Again, Stale, Stranger}
use Rattle.core_rules.specs.declared.answers.Handed.TheVariants.{Raised, Same, Stale as Old, Nothing}
use Rattle.core_rules.specs.Work.{Core, domain, tiling, mask_at, image_at, IsTile, work_at, with_work, IsQuiet}
use Rattle.core_rules.specs.Sweeps.{taken, IsKnown, IsTaken, IsGivenBack, IsAbandoned, IsJoined}
use Rattle.core_rules.specs.Events.{Event, Answer, Happens, Merge, Take, GiveBack, Abandon, Hand, OfMerge, OfTake}
use Rattle.core_rules.specs.Events.{OfGiveBack, OfAbandon, OfHand}
use Rattle.core_rules.specs.Runs.{Entry, IsRun, jobs_of, abandons_of, abandoned, tickets_out, IsWorkedOff, IsSettling}
use Rattle.core_rules.specs.Runs.{IsSettled}
use Rattle.core_rules.specs.Schedule.{Progress, started, IsStep, AreSteps}
use Rattle.core_rules.specs.Counting.{dirty_tiles, tiles_out, Owes, merges_of, IsWithinWork}
use Rattle.core_rules.proofs.{Removals.taken_was_there, Schedules.schedule_is_run}
use Rattle.core_rules.proofs.Handing.{hint_of_tile, home_is_tile, at_home, raised_rise}
use Rattle.core_rules.proofs.Joining.{local, placed, in_rect_size, rises, same_dirty}
use Rattle.core_rules.proofs.Quiet.{sound_is_lawful, quiet_is_reconstruction}
use Rattle.core_rules.proofs.Running.{event_keeps_sound, run_keeps_sound, settling_is_run}
use Rattle.core_rules.specs.declared.step.Step.TheVariants as steps

-- ---- how many tiles are dirty

abbrev one_if : Bool → ℕ
one_if b = cond b 1 0

at_most_one : (b : Bool) → one_if b ≤ 1
at_most_one true = omega arith
at_most_one false = omega arith

-- other work at one tile
dirty_moves : (core : Core) (t : ℕ) (work : TileWork) → IsTile core t
    → dirty_tiles (with_work core t work) + one_if (work_at core t).dirty ≡ dirty_tiles core + one_if work.dirty
dirty_moves core t work within = sum_by-set (λ (w : TileWork). one_if w.dirty) core.tiles t work idle within

-- lists that are alike tile by tile have one sum
same_sum : (f : TileWork → ℕ) (old new : List TileWork) → length new ≡ length old
    → ((k : ℕ) → f (get_or new k idle) ≡ f (get_or old k idle)) → sum_by f new ≡ sum_by f old
same_sum f [] [] count same = refl
same_sum f [] (work ∷ works) count same = absurd (omega (arith, count))
same_sum f (work ∷ works) [] count same = absurd (omega (arith, count))
same_sum f (old ∷ olds) (new ∷ news) count same =
    let rest : sum_by f news ≡ sum_by f olds = same_sum f olds news (omega (arith, count)) (λ k. same (suc k)) in
    let first : f new ≡ f old = same zero in
    omega (arith, rest, first, sum_by-cons f new news, sum_by-cons f old olds)

-- ---- what an event takes and pays

-- what decides the reconstruction: mask, connectivity and strokes
abbrev Scene : Type 0
Scene = Raster × Conn × State

abbrev scene : Core → Scene
scene core = (core.mask, core.conn, core.state)

-- the image is the reconstruction of the mask from the marker of the strokes
abbrev IsGoal : Scene → (Pixel → ℕ) → Type 0
IsGoal s r =
    (marker : Pixel → ℕ) × IsMarker (domain_of s.0 s.1) (value_at s.0) s.2 marker
    × IsReconstruction (domain_of s.0 s.1) (value_at s.0) marker r

-- how much the image of the core lacks of it
abbrev lack : Core → (Pixel → ℕ) → ℕ
lack core r = sum_over (domain core) (λ p. r p - image_at core p)

-- the reconstruction stays, and so many jobs were taken for work that is gone, or that so many abandons made
record IsPaid (before after : Core) (r : Pixel → ℕ) (jobs abandons : ℕ) : Type 0 where
  same : scene after ≡ scene before
  count : jobs + dirty_tiles after + lack after r ≤ dirty_tiles before + lack before r + abandons

free : (core : Core) (r : Pixel → ℕ) → IsPaid core core r 0 0
free core r = record { same = refl; count = omega arith }

-- one after another
both_paid : (a b c : Core) (r : Pixel → ℕ) (jobs more_jobs abandons more_abandons : ℕ) → IsPaid a b r jobs abandons
    → IsPaid b c r more_jobs more_abandons → IsPaid a c r (jobs + more_jobs) (abandons + more_abandons)
both_paid a b c r jobs more_jobs abandons more_abandons first second = record {
  same = second.same ∙ first.same;
  count = omega (arith, first.count, second.count);
}

take_is_paid : (before after : Core) (t : ℕ) (job : Job) (r : Pixel → ℕ) → IsTaken before t (Some job) after
    → IsPaid before after r 1 0
take_is_paid before after t job r (ready, next, same) =
    let work : TileWork = record (work_at before t) { dirty = false; out = Some before.serial } in
    let moves : dirty_tiles (taken before t) + one_if (work_at before t).dirty ≡ dirty_tiles before + 0 =
    dirty_moves before t work ready.is_tile in
    let was : one_if (work_at before t).dirty ≡ 1 = ap one_if ready.dirty in
    let lacks : lack (taken before t) r ≡ lack before r = refl in
    subst (λ c. IsPaid before c r 1 0) (sym same) (record { same = refl; count = omega (arith, moves, was, lacks) })

abandon_is_paid : (before after : Core) (ticket : Ticket) (r : Pixel → ℕ) → IsAbandoned before ticket true after
    → IsPaid before after r 0 1
abandon_is_paid before after ticket r (out, same) =
    let work : TileWork = record (work_at before ticket.tile) { dirty = true; out = None } in
    let now : Core = with_work before ticket.tile work in
    let moves : dirty_tiles now + one_if (work_at before ticket.tile).dirty ≡ dirty_tiles before + 1 =
    dirty_moves before ticket.tile work out.is_tile in
    let lacks : lack now r ≡ lack before r = refl in
    subst (λ c. IsPaid before c r 0 1) (sym same) (record { same = refl; count = omega (arith, moves, lacks) })

-- ---- hints

without_hint_dirty : (core : Core) (t i : ℕ) → IsTile core t → dirty_tiles (without_hint core t i) ≡ dirty_tiles core
without_hint_dirty core t i within =
    let work : TileWork = record (work_at core t) { inbox = remove (work_at core t).inbox i } in
    let moves : dirty_tiles (without_hint core t i) + one_if (work_at core t).dirty
    ≡ dirty_tiles core + one_if (work_at core t).dirty = dirty_moves core t work within in
    omega (arith, moves)

lost_is_paid : (before : Core) (t i : ℕ) (r : Pixel → ℕ) → IsTile before t
    → IsPaid before (without_hint before t i) r 0 0
lost_is_paid before t i r within =
    let lacks : lack (without_hint before t i) r ≡ lack before r = refl in
    record { same = refl; count = omega (arith, without_hint_dirty before t i within, lacks) }

-- a hint that raises its pixel makes a tile dirty at most, and the image lacks less
raise_is_paid : (before after : Core) (t i : ℕ) (r : Pixel → ℕ) → IsSound before → IsSound after
    → IsGoal (scene before) r → IsHanded before t i Raised after → IsPaid before after r 0 0
raise_is_paid before after t i r sound sound_after goal (hint, there, present, above, same) =
    let within = hint_of_tile before t i hint there in
    let valid = sound.hints t hint within (taken_was_there (work_at before t).inbox i hint there) in
    let lost = without_hint before t i in
    let home = tile_of (tiling before) hint.to_pixel in
    let now = raised lost hint in
    let work : TileWork = record (work_at lost home) { dirty = true } in
    let moves : dirty_tiles now + one_if (work_at lost home).dirty ≡ dirty_tiles lost + 1 =
    dirty_moves lost home work (home_is_tile before sound t i hint there valid) in
    let is : image_at now hint.to_pixel ≡ hint.value = at_home before sound t i hint there valid present above in
    let lawful : IsLawful (domain before) (mask_at before) goal.0 (image_at now) =
    sound_is_lawful now (subst IsSound same sound_after) goal.0 goal.1 in
    let top : image_at now hint.to_pixel ≤ r hint.to_pixel =
    (lies_between (domain before) (mask_at before) goal.0 (image_at now) r lawful goal.2 hint.to_pixel
    valid.to.inside).1 in
    let less : lack now r < lack before r =
    sum_over-less (domain before) (λ p. r p - image_at now p) (λ p. r p - image_at before p) hint.to_pixel (λ p inside.
    let more : image_at before p ≤ image_at now p =
    (raised_rise before sound t i hint there valid present above).rises p inside in
    omega (arith, more)) valid.to.inside (omega (arith, is, top, above)) in
    let dirty = without_hint_dirty before t i within in
    rw same (record { same = refl; count = omega (arith, moves, dirty, less) })

hand_is_paid : (before after : Core) (t i : ℕ) (handed : Handed) (r : Pixel → ℕ) → IsSound before → IsSound after
    → IsGoal (scene before) r → IsHanded before t i handed after → IsPaid before after r 0 0
hand_is_paid before after t i Nothing r sound sound_after goal (none, same) = rw same (free before r)
hand_is_paid before after t i Old r sound sound_after goal (hint, there, old, same) =
    subst (λ c. IsPaid before c r 0 0) (sym same) (lost_is_paid before t i r (hint_of_tile before t i hint there))
hand_is_paid before after t i Raised r sound sound_after goal handed =
    raise_is_paid before after t i r sound sound_after goal handed
hand_is_paid before after t i Same r sound sound_after goal (hint, there, present, enough, same) =
    subst (λ c. IsPaid before c r 0 0) (sym same) (lost_is_paid before t i r (hint_of_tile before t i hint there))

-- ---- swept tiles

-- a tile that is joined makes none dirty, and the image lacks no more
join_is_paid : EdgesAreOpen → (before after : Core) (swept : Swept) (r : Pixel → ℕ) → IsSound before → IsSwept swept
    → IsKnown before swept.job → IsJoined before swept after
    → ((p : Pixel) → Inside (local swept) p → value_at swept.job.base p ≤ image_at before (placed before swept p))
    → IsPaid before after r 0 0
join_is_paid edges_open before after swept r sound is_swept known joined below =
    let dirty : dirty_tiles after ≡ dirty_tiles before =
    same_sum (λ (w : TileWork). one_if w.dirty) before.tiles after.tiles joined.count (λ u.
    ap one_if (same_dirty before after swept sound is_swept known joined edges_open below u)) in
    let lacks : lack after r ≡ sum_over (domain before) (λ p. r p - image_at after p) =
    ap (λ (c : Core). lack c r) joined.rest in
    let less : sum_over (domain before) (λ p. r p - image_at after p) ≤ lack before r =
    sum_over-le (domain before) (λ p. r p - image_at after p) (λ p. r p - image_at before p) (λ p inside.
    omega (arith, rises before after swept sound is_swept known joined edges_open below p inside)) in
    record { same = ap scene joined.rest; count = omega (arith, dirty, lacks, less) }

give_back_is_paid : EdgesAreOpen → (before after : Core) (swept : Swept) (back : Back) (r : Pixel → ℕ)
    → IsSound before → IsSwept swept → IsGivenBack before swept back after → IsPaid before after r 0 0
give_back_is_paid edges_open before after swept Joined r sound is_swept (known, out, unchanged, joined) =
    join_is_paid edges_open before after swept r sound is_swept known joined (λ p inside.
    omega (arith, unchanged.base.values p (in_rect_size before swept sound known p inside)))
give_back_is_paid edges_open before after swept Again r sound is_swept (known, out, risen, joined) =
    join_is_paid edges_open before after swept r sound is_swept known joined (λ p inside.
    risen.base.values p (in_rect_size before swept sound known p inside))
give_back_is_paid edges_open before after swept Stale r sound is_swept (known, not_out, same) = rw same (free before r)
give_back_is_paid edges_open before after swept Stranger r sound is_swept (why, same) = rw same (free before r)

-- ---- lists of events

jobs_first : (entry : Entry) (log : List Entry) → jobs_of (entry ∷ log) ≡ jobs_of (entry ∷ []) + jobs_of log
jobs_first (Take t, OfTake (Some job)) log = omega arith
jobs_first entry log = omega arith

abandons_first : (entry : Entry) (log : List Entry)
    → abandons_of (entry ∷ log) ≡ abandons_of (entry ∷ []) + abandons_of log
abandons_first (Abandon ticket, OfAbandon true) log = omega arith
abandons_first entry log = omega arith

pub merges_append : (first second : List Entry) → merges_of (first ++ second) ≡ merges_of first + merges_of second
merges_append [] second = omega arith
merges_append ((Merge delta, answer) ∷ log) second = omega (arith, merges_append log second)
merges_append (entry ∷ log) second = merges_append log second

event_is_paid : EdgesAreOpen → (before after : Core) (event : Event) (answer : Answer) (r : Pixel → ℕ)
    → IsSound before → IsGoal (scene before) r → merges_of ((event, answer) ∷ []) ≡ 0
    → Happens before event answer after
    → IsPaid before after r (jobs_of ((event, answer) ∷ [])) (abandons_of ((event, answer) ∷ []))
event_is_paid edges_open before after (Take t) (OfTake (Some job)) r sound goal none happens =
    take_is_paid before after t job r happens
event_is_paid edges_open before after (Take t) (OfTake None) r sound goal none (unready, same) = rw same (free before r)
event_is_paid edges_open before after (GiveBack swept) (OfGiveBack back) r sound goal none (is_swept, given) =
    give_back_is_paid edges_open before after swept back r sound is_swept given
event_is_paid edges_open before after (Abandon ticket) (OfAbandon true) r sound goal none happens =
    abandon_is_paid before after ticket r happens
event_is_paid edges_open before after (Abandon ticket) (OfAbandon false) r sound goal none (not_out, same) =
    subst (λ c. IsPaid before c r 0 0) (sym same) (free before r)
event_is_paid edges_open before after (Hand t place) (OfHand handed) r sound goal none happens =
    let sound_after = event_keeps_sound edges_open before after (Hand t place) (OfHand handed) sound happens in
    hand_is_paid before after t place handed r sound sound_after goal happens
event_is_paid edges_open before after (Merge delta) answer r sound goal none happens = absurd (omega (arith, none))
event_is_paid edges_open before after _ _ r sound goal none happens = absurd happens

run_is_paid : EdgesAreOpen → (before after : Core) (log : List Entry) (r : Pixel → ℕ) → IsSound before
    → IsGoal (scene before) r → merges_of log ≡ 0 → IsRun before log after
    → IsPaid before after r (jobs_of log) (abandons_of log)
run_is_paid edges_open before after [] r sound goal none same = rw same (free before r)
run_is_paid edges_open before after ((event, answer) ∷ log) r sound goal none (next, happens, run) =
    let one : List Entry = (event, answer) ∷ [] in
    let merges : merges_of ((event, answer) ∷ log) ≡ merges_of one + merges_of log = merges_append one log in
    let first = event_is_paid edges_open before next event answer r sound goal (omega (arith, merges, none)) happens in
    let others =
    run_is_paid edges_open next after log r (event_keeps_sound edges_open before next event answer sound happens)
    (subst (λ s. IsGoal s r) (sym first.same) goal) (omega (arith, merges, none)) run in
    rw (jobs_first (event, answer) log, abandons_first (event, answer) log)
    (both_paid before next after r (jobs_of one) (jobs_of log) (abandons_of one) (abandons_of log) first others)

-- the core owes what it lacks of the reconstruction
lack_is_owed : (core : Core) (r : Pixel → ℕ) → IsGoal (scene core) r → Owes core (lack core r)
lack_is_owed core r (marker, is_marker, recon) = record {
  marker = marker;
  is_marker = is_marker;
  owed = record { reconstruction = r; is_reconstruction = recon; is_sum = refl };
}

pub run_is_within_work : EdgesAreOpen → (before after : Core) (log : List Entry) → IsSound before
    → IsRun before log after → merges_of log ≡ 0 → IsWithinWork before after (jobs_of log) (abandons_of log)
run_is_within_work edges_open before after log sound run none =
    let lawful = sound_is_lawful before sound sound.marker sound.is_marker in
    let grown = reconstruction_of (domain before) (mask_at before) sound.marker (image_at before) lawful in
    let goal : IsGoal (scene before) grown.0 = (sound.marker, sound.is_marker, grown.1) in
    let paid = run_is_paid edges_open before after log grown.0 sound goal none run in
    let bound = paid.count in
    record {
      owed_before = lack before grown.0;
      owed_after = lack after grown.0;
      owes_before = lack_is_owed before grown.0 goal;
      owes_after = lack_is_owed after grown.0 (subst (λ s. IsGoal s grown.0) (sym paid.same) goal);
      bound = omega (arith, bound);
    }

-- ---- what a core owes

pub one_debt : (core : Core) (n m : ℕ) → Owes core n → Owes core m → n ≡ m
one_debt core n m first second =
    let same = one_marker (domain core) (mask_at core) core.state second.marker first.marker second.is_marker
    first.is_marker in
    one_owed (domain core) (mask_at core) first.marker (image_at core) n m first.owed (record {
      reconstruction = second.owed.reconstruction;
      is_reconstruction =
          same_marker (domain core) (mask_at core) second.marker first.marker second.owed.reconstruction same
          second.owed.is_reconstruction;
      is_sum = second.owed.is_sum;
    })

pub quiet_owes_nothing : (core : Core) → IsSound core → IsQuiet core → Owes core 0
quiet_owes_nothing core sound quiet = record {
  marker = sound.marker;
  is_marker = sound.is_marker;
  owed =
      reconstruction_is_owed_nothing (domain core) (mask_at core) sound.marker (image_at core)
      (quiet_is_reconstruction core sound quiet sound.marker sound.is_marker);
}

-- ---- schedules

-- as many deltas were merged as edits accepted
abbrev IsMatched : Progress → Type 0
IsMatched a = merges_of a.log ≡ length a.accepted

-- an event that is no merge
event_matches : (a : Progress) (event : Event) (answer : Answer) → IsMatched a → merges_of ((event, answer) ∷ []) ≡ 0
    → merges_of (a.log ++ (event, answer) ∷ []) ≡ length a.accepted
event_matches a event answer matched none = omega (arith, matched, none, merges_append a.log ((event, answer) ∷ []))

step_matches : (step : Step) (a b : Progress) → IsMatched a → IsStep step a b → IsMatched b
step_matches (steps.Edit delta) a b matched (inl (turnover, happens, same)) =
    let longer = merges_append a.log ((Merge delta, OfMerge turnover) ∷ []) in
    rw same (omega (arith, matched, longer, length-append a.accepted (a.count ∷ [])))
step_matches (steps.Edit delta) a b matched (inr (why, refused, same)) = rw same matched
step_matches (steps.Take t) a b matched (job, more, happens, added, same) =
    rw same (event_matches a (Take t) (OfTake job) matched refl)
step_matches (steps.Return j) a b matched (inl (swept, there, (answer, happens, same))) =
    rw same (event_matches a (GiveBack swept) answer matched refl)
step_matches (steps.Return j) a b matched (inr (none, same)) = rw same matched
step_matches (steps.Abandon j) a b matched (inl (swept, there, (answer, happens, same))) =
    rw same (event_matches a (Abandon swept.job.ticket) answer matched refl)
step_matches (steps.Abandon j) a b matched (inr (none, same)) = rw same matched
step_matches (steps.Hand t place) a b matched (answer, happens, same) =
    rw same (event_matches a (Hand t place) answer matched refl)

steps_match : (steps : List Step) (a b : Progress) → IsMatched a → AreSteps steps a b → IsMatched b
steps_match [] a b matched same = subst IsMatched (sym same) matched
steps_match (step ∷ rest) a b matched (next, is_step, are_steps) =
    steps_match rest next b (step_matches step a next matched is_step) are_steps

pub schedule_is_within_work : EdgesAreOpen → (start : Core) (steps : List Step) (end : Progress) → IsSound start
    → AreSteps steps (started start) end → end.accepted ≡ []
    → IsWithinWork start end.core (jobs_of end.log) (abandons_of end.log)
schedule_is_within_work edges_open start steps end sound are_steps none =
    let matched = steps_match steps (started start) end refl are_steps in
    let no_merges : merges_of end.log ≡ 0 = matched ∙ ap length none in
    run_is_within_work edges_open start end.core end.log sound (schedule_is_run start steps end are_steps) no_merges

-- ---- settling

no_merges_abandoned : (tickets : List Ticket) (log : List Entry) → merges_of (abandoned tickets ++ log) ≡ merges_of log
no_merges_abandoned [] log = refl
no_merges_abandoned (ticket ∷ tickets) log = no_merges_abandoned tickets log

-- working off merges nothing
pub worked_merges : (before after : Core) (log : List Entry) → IsWorkedOff before log after → merges_of log ≡ 0
worked_merges before after [] works = refl
worked_merges before after ((GiveBack swept, answer) ∷ log) (is_next, (next, happens, rest)) =
    worked_merges next after log rest
worked_merges before after ((Hand t place, answer) ∷ log) (is_next, (next, happens, rest)) =
    worked_merges next after log rest
worked_merges before after ((Take t, answer) ∷ log) (is_next, (next, happens, rest)) = worked_merges next after log rest
worked_merges before after ((_, _) ∷ log) (is_next, (next, happens, rest)) = absurd is_next

pub settling_is_within_work : EdgesAreOpen → (before after : Core) (log : List Entry) → IsSound before
    → IsSettling before log after → IsWithinWork before after (jobs_of log) (abandons_of log)
settling_is_within_work edges_open before after log sound settling =
    let tickets = tickets_out 0 before.tiles in
    let none : merges_of log ≡ 0 =
    ap merges_of settling.parts ∙ no_merges_abandoned tickets settling.work
    ∙ worked_merges settling.cleared after settling.work settling.works in
    run_is_within_work edges_open before after log sound (settling_is_run before after log settling) none

pub settled_is_within_work : EdgesAreOpen → (before after : Core) (log : List Entry) → IsSound before
    → IsSettled before log after → IsWithinWork before after (jobs_of log) (abandons_of log) × Owes after 0
settled_is_within_work edges_open before after log sound settled =
    let run = settling_is_run before after log settled.settling in (
      settling_is_within_work edges_open before after log sound settled.settling,
      quiet_owes_nothing after (run_keeps_sound edges_open before after log sound run) settled.quiet,
    )

-- as many jobs are out as tiles have one out
out_by_one : (t generation : ℕ) (out : Option ℕ) (rest : List Ticket) (n : ℕ) → length rest ≡ n
    → length (option_to_list (option_map
    (λ (serial : ℕ). let ticket : Ticket = record { tile = t; generation = generation; serial = serial } in ticket) out)
    ++ rest) ≡ one_if (is_some out) + n
out_by_one t generation None rest n same = omega (arith, same)
out_by_one t generation (Some serial) rest n same = omega (arith, same)

tickets_of_tiles_out : (t : ℕ) (works : List TileWork)
    → length (tickets_out t works) ≡ count_by (λ (w : TileWork). is_some w.out) works
tickets_of_tiles_out t [] = refl
tickets_of_tiles_out t (work ∷ works) =
    let rest = tickets_of_tiles_out (t + 1) works in
    let first = out_by_one t work.generation work.out (tickets_out (t + 1) works)
    (count_by (λ (w : TileWork). is_some w.out) works) rest in
    let sum = sum_by-cons (λ (w : TileWork). one_if (is_some w.out)) work works in
    first ∙ sym sum

pub one_job_out_a_tile : (core : Core) → length (tickets_out 0 core.tiles) ≡ tiles_out core
one_job_out_a_tile core = tickets_of_tiles_out 0 core.tiles
