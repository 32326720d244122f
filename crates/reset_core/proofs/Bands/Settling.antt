-- Settling in bands: one run after another, and what the whole of them took.
use Rattle.std.proofs.Common.{◌≡◌, ℕ, ◌+◌, ◌-◌, ◌≤◌, sym, ap, ◌∙◌, subst, arith, refl, Bool, List, [], ◌∷◌, ◌++◌}
use Rattle.std.proofs.Common.{length, inl, inr, Contains, None, IsTrue, ◌↔◌}
use Rattle.std.proofs.lemmas.List.Elements.{Contains-append_cases}
use Rattle.border_queues.specs.Laws.{EdgesAreOpen}
use Rattle.tile_generations.specs.declared.ticket.Ticket.{Ticket}
use Rattle.core_rules.specs.{Invariant.IsSound, Counting.IsWithinWork, Counting.merges_of}
use Rattle.core_rules.specs.{Laws.OneJobOutATile, Laws.RunChangesFewTiles, Shown.ShowsTheSame}
use Rattle.core_rules.specs.Work.{Core, IsQuiet, tiling, work_at}
use Rattle.core_rules.specs.{Runs.NoneOut, Hits.IsInTile}
use Rattle.grid_core.specs.{Raster.value_at, Tiles.Tiles}
use Rattle.border_queues.specs.TileWork.{TileWork, idle}
use Rattle.std.proofs.lemmas.Bool.{cases_lt}
use Rattle.std.proofs.lemmas.List.{get_or_past, length-append}
use Rattle.core_rules.specs.Runs.{Entry, IsRun, IsTakenIn, IsDirty, IsWorkedOff, abandoned, abandons_of, jobs_of}
use Rattle.core_rules.specs.Runs.{tickets_out, tiles_taken}
use Rattle.core_rules.proofs.{Counting.run_is_within_work, Running.run_append, Running.worked_is_run}
use Rattle.core_rules.proofs.Leaving.{taken_append, taken_first, taken_second, none_taken_abandoned}
use Rattle.tile_work.specs.TileSet.{Has, HasGained}
use Rattle.tile_work.proofs.TileSetUnions.{HasGained-none}
use Rattle.reset_core.specs.Answers.{IsRunCutShort, IsRunWith, IsSliceInBands}
use Rattle.reset_core.specs.Bands.{AreSwept, AreSweptInto}
use Rattle.reset_core.specs.Settling.{AreHanded, AreWorkedOffWithin, HasOnlySweeps}
use Rattle.reset_core.proofs.Settling.{jobs_append, jobs_are_taken, none_abandoned}
use Rattle.core_rules.proofs.Counting.{merges_append}
use Rattle.core_rules.proofs.Counting.{worked_merges}
use Rattle.reset_core.proofs.Bands.Runs.{abandons_both}

merges_abandoned : (tickets : List Ticket) → merges_of (abandoned tickets) ≡ 0
merges_abandoned [] = refl
merges_abandoned (ticket ∷ tickets) = merges_abandoned tickets

-- a set that gained no tile, and one that gained tiles twice
gained_none : (set : List Bool) (P : ℕ → Type 0) → ((t : ℕ) → P t → ⊥) → HasGained set P set
gained_none set P none = record {
  count = refl;
  each = λ t. (
    λ has. inl has,
    λ either. elim either [
      | inl has ↦ has
      | inr holds ↦ absurd (none t holds)
    ],
  );
}

gained_twice : (a b c : List Bool) (first second : List Entry) → HasGained a (IsTakenIn first) b
    → HasGained b (IsTakenIn second) c → HasGained a (IsTakenIn (first ++ second)) c
gained_twice a b c first second one more = record {
  count = more.count ∙ one.count;
  each = λ t. (
    λ has. elim ((more.each t).0 has) [
      | inl before ↦ elim ((one.each t).0 before) [
        | inl old ↦ inl old
        | inr taken ↦ inr (taken_first first second t taken)
      ]
      | inr taken ↦ inr (taken_second first second t taken)
    ],
    λ either. elim either [
      | inl old ↦ (more.each t).1 (inl ((one.each t).1 (inl old)))
      | inr taken ↦
          elim (Contains-append_cases (tiles_taken first) (tiles_taken second) t
          (subst (λ l. Contains l t) (taken_append first second) taken)) [
            | inl early ↦ (more.each t).1 (inl ((one.each t).1 (inr early)))
            | inr late ↦ (more.each t).1 (inr late)
          ]
    ],
  );
}

-- ---- one run after another

pub runs_follow : (a b c : Core) (old between new : List Bool) (jobs more abandons others : ℕ)
    → IsRunWith a old jobs abandons b between → IsRunWith b between more others c new
    → IsRunWith a old (jobs + more) (abandons + others) c new
runs_follow a b c old between new jobs more abandons others one next = record {
  log = one.log ++ next.log;
  run = run_append a b c one.log next.log one.run next.run;
  none_merged = omega (arith, merges_append one.log next.log, one.none_merged, next.none_merged);
  jobs_are = omega (arith, jobs_append one.log next.log, one.jobs_are, next.jobs_are);
  abandons_are = omega (arith, abandons_both one.log next.log, one.abandons_are, next.abandons_are);
  swept = gained_twice old between new one.log next.log one.swept next.swept;
}

pub run_of_abandoned : (before after : Core) (set : List Bool) (tickets : List Ticket)
    → IsRun before (abandoned tickets) after → IsRunWith before set 0 (length tickets) after set
run_of_abandoned before after set tickets run =
    let none : jobs_of (abandoned tickets) ≡ 0 =
    jobs_are_taken (abandoned tickets) ∙ ap length (none_taken_abandoned tickets) in
    record {
      log = abandoned tickets;
      run = run;
      none_merged = merges_abandoned tickets;
      jobs_are = sym none;
      abandons_are = counted tickets;
      swept =
          gained_none set (IsTakenIn (abandoned tickets)) (λ t taken.
          let there : Contains [] t = subst (λ l. Contains l t) (none_taken_abandoned tickets) taken in
          omega (arith, there.1));
    } where
      counted : (tickets : List Ticket) → length tickets ≡ abandons_of (abandoned tickets)
      counted [] = refl
      counted (ticket ∷ tickets) = omega (arith, counted tickets)

pub run_of_worked : (before after : Core) (old new : List Bool) (log : List Entry) (jobs : ℕ)
    → IsWorkedOff before log after → jobs_of log ≡ jobs → HasGained old (IsTakenIn log) new
    → IsRunWith before old jobs 0 after new
run_of_worked before after old new log jobs works count gained = record {
  log = log;
  run = worked_is_run before after log works;
  none_merged = worked_merges before after log works;
  jobs_are = sym count;
  abandons_are = sym (none_abandoned before after log works);
  swept = gained;
}

pub run_of_handed : (before after : Core) (set : List Bool) → AreHanded before after → IsRunWith before set 0 0 after
    set
run_of_handed before after set handed =
    run_of_worked before after set set handed.log 0 handed.works
    (jobs_are_taken handed.log ∙ ap length handed.none_taken)
    (gained_none set (IsTakenIn handed.log) (λ t taken.
    let there : Contains [] t = subst (λ l. Contains l t) handed.none_taken taken in
    omega (arith, there.1)))

pub run_of_swept : (before after : Core) (old new : List Bool) (ts : List ℕ) → AreSwept before ts after
    → HasGained old (Contains ts) new → IsRunWith before old (length ts) 0 after new
run_of_swept before after old new ts swept gained = record {
  log = swept.log;
  run = swept.runs;
  none_merged = swept.none_merged;
  jobs_are = ap length (sym swept.taken) ∙ sym (jobs_are_taken swept.log);
  abandons_are = sym swept.none_abandoned;
  swept = subst (λ l. HasGained old (Contains l) new) (sym swept.taken) gained;
}

pub run_is_bounded : EdgesAreOpen → (before after : Core) (old new : List Bool) (jobs abandons : ℕ) → IsSound before
    → IsRunWith before old jobs abandons after new → IsWithinWork before after jobs abandons
run_is_bounded edges_open before after old new jobs abandons sound run =
    subst (λ n. IsWithinWork before after n abandons) (sym run.jobs_are)
    (subst (λ n. IsWithinWork before after (jobs_of run.log) n) (sym run.abandons_are)
    (run_is_within_work edges_open before after run.log sound run.run run.none_merged))

-- ---- what is shown

abandons_show : (before after : Core) (tickets : List Ticket) → IsRun before (abandoned tickets) after
    → (after.image ≡ before.image) × (tiling after ≡ tiling before)
abandons_show before after [] same = (ap (λ (core : Core). core.image) same, ap tiling same)
abandons_show before after (ticket ∷ tickets) (next, happens, run) =
    let rest = abandons_show next after tickets run in (
      rest.0 ∙ ap (λ (core : Core). core.image) happens.1,
      rest.1 ∙ ap tiling happens.1,
    )

-- a tile that is not in the set and not dirty shows what it showed
pub run_shows : RunChangesFewTiles → (before cleared after : Core) (old new : List Bool) (jobs abandons : ℕ)
    → IsSound cleared → NoneOut cleared → IsRun before (abandoned (tickets_out 0 before.tiles)) cleared
    → IsRunWith cleared old jobs abandons after new → (t : ℕ) → (Has new t → ⊥) → (IsDirty after t → ⊥)
    → ShowsTheSame before after t
run_shows few before cleared after old new jobs abandons sound none_out clears run t out clean p found =
    let shown = abandons_show before cleared (tickets_out 0 before.tiles) clears in
    let none : (work_at cleared t).out ≡ None = elim (cases_lt t (length cleared.tiles)) [
      | inl within ↦ none_out t within
      | inr past ↦ ap (λ (work : TileWork). work.out) (get_or_past cleared.tiles t idle past)
    ] in
    let same =
    few cleared after run.log sound run.run t none (record {
      untaken = λ taken. out ((run.swept.each t).1 (inr taken));
      clean = clean;
    }) p (subst (λ (tiles : Tiles). IsInTile tiles t p) (sym shown.1) found) in
    same ∙ ap (λ image. value_at image p) shown.0

-- ---- sweeping in bands

-- where no tile is swept
pub none_swept_in_bands : (core : Core) (set : List Bool) → HasOnlySweeps core → AreSweptInto core set core set 0
none_swept_in_bands core set left = record {
  ts = [];
  swept = record {
    log = [];
    runs = refl;
    taken = refl;
    none_abandoned = refl;
    none_merged = refl;
    count = refl;
    left = left;
    spent = omega arith;
  };
  gained = HasGained-none set;
  jobs_are = refl;
}

-- some tiles are swept, and then others
pub swept_in_both : (a b c : Core) (old between new : List Bool) (jobs more : ℕ)
    → AreSweptInto a old b between jobs → AreSweptInto b between c new more → AreSweptInto a old c new (jobs + more)
swept_in_both a b c old between new jobs more one next =
    let long = length-append one.ts next.ts in
    let first = one.swept in
    let second = next.swept in
    let taken : tiles_taken (first.log ++ second.log) ≡ one.ts ++ next.ts =
    taken_append first.log second.log ∙ ap (λ (ts : List ℕ). ts ++ tiles_taken second.log) first.taken
    ∙ ap (λ (ts : List ℕ). one.ts ++ ts) second.taken in
    record {
      ts = one.ts ++ next.ts;
      swept = record {
        log = first.log ++ second.log;
        runs = run_append a b c first.log second.log first.runs second.runs;
        taken = taken;
        none_abandoned =
            omega (arith, abandons_both first.log second.log, first.none_abandoned, second.none_abandoned);
        none_merged = omega (arith, merges_append first.log second.log, first.none_merged, second.none_merged);
        count = second.count ∙ first.count;
        left = second.left;
        spent = omega (arith, long, first.spent, second.spent);
      };
      gained =
          subst (λ (ts : List ℕ). HasGained old (Contains ts) new) taken
          (gained_twice old between new first.log second.log
          (subst (λ (ts : List ℕ). HasGained old (Contains ts) between) (sym first.taken) one.gained)
          (subst (λ (ts : List ℕ). HasGained between (Contains ts) new) (sym second.taken) next.gained));
      jobs_are = omega (arith, long, one.jobs_are, next.jobs_are);
    }

-- tiles that were worked off in their order are swept
pub worked_off_swept : (limit : ℕ) (a b : Core) (old new : List Bool) (jobs : ℕ)
    → AreWorkedOffWithin limit a old b new jobs → AreSweptInto a old b new jobs
worked_off_swept limit a b old new jobs works =
    let off = works.off in
    let jobs_are : jobs ≡ length (tiles_taken off.log) = sym off.jobs_are ∙ jobs_are_taken off.log in
    record {
      ts = tiles_taken off.log;
      swept = record {
        log = off.log;
        runs = worked_is_run a b off.log off.works;
        taken = refl;
        none_abandoned = none_abandoned a b off.log off.works;
        none_merged = worked_merges a b off.log off.works;
        count = off.count;
        left = record { none_out = off.none_out; no_hints = off.no_hints };
        spent = omega (arith, off.spent, jobs_are);
      };
      gained = off.swept;
      jobs_are = jobs_are;
    }

-- ---- the whole of it

-- jobs were abandoned, hints handed over, and tiles swept in bands
module _ (before cleared handed banded : Core) (old between : List Bool) (in_bands : ℕ)
    (clears : IsRun before (abandoned (tickets_out 0 before.tiles)) cleared) (hands : AreHanded cleared handed)
    (bands : AreSweptInto handed old banded between in_bands) where
  abbrev tickets : List Ticket
  tickets = tickets_out 0 before.tiles

  pub run_in_bands : IsRunWith cleared old in_bands 0 banded between
  run_in_bands =
      let swept : IsRunWith handed old in_bands 0 banded between =
      subst (λ n. IsRunWith handed old n 0 banded between) (sym bands.jobs_are)
      (run_of_swept handed banded old between bands.ts bands.swept bands.gained) in
      let same : 0 + in_bands ≡ in_bands = omega arith in
      subst (λ n. IsRunWith cleared old n 0 banded between) same
      (runs_follow cleared handed banded old old between 0 in_bands 0 0 (run_of_handed cleared handed old hands) swept)

  -- and then the rest was worked off
  pub run_of_rest : (after : Core) (new : List Bool) (limit rest : ℕ)
      → AreWorkedOffWithin limit banded between after new rest → IsRunWith cleared old (in_bands + rest) 0 after new
  run_of_rest after new limit rest works =
      runs_follow cleared banded after old between new in_bands rest 0 0 run_in_bands
      (run_of_worked banded after between new works.off.log rest works.off.works works.off.jobs_are works.off.swept)

  run_from_before : (after : Core) (new : List Bool) (jobs : ℕ) → IsRunWith cleared old jobs 0 after new
      → IsRunWith before old jobs (length tickets) after new
  run_from_before after new jobs run =
      let all_jobs : 0 + jobs ≡ jobs = omega arith in
      let all_abandons : length tickets + 0 ≡ length tickets = omega arith in
      subst (λ n. IsRunWith before old n (length tickets) after new) all_jobs
      (subst (λ n. IsRunWith before old (0 + jobs) n after new) all_abandons
      (runs_follow before cleared after old old new 0 jobs (length tickets) 0
      (run_of_abandoned before cleared old tickets clears) run))

  -- memory was wanting after the bands, where a tile was dirty
  pub bands_cut_short : (after : Core) (new : List Bool) → ((t : ℕ) × IsDirty banded t) → after ≡ banded
      → new ≡ between → IsRunCutShort before old after new
  bands_cut_short after new dirty same same_set =
      rw (same, same_set) (record {
        jobs = in_bands;
        abandons = length tickets;
        run = run_from_before banded between in_bands run_in_bands;
        some_dirty = dirty;
      })

  -- the rest was worked off within the limit that was left
  pub slice_in_bands : EdgesAreOpen → OneJobOutATile → (after : Core) (new : List Bool)
      (limit rest abandons : ℕ) (is_quiet : Bool) → IsSound before → abandons ≡ length tickets → in_bands ≤ limit
      → AreWorkedOffWithin (limit - in_bands) banded between after new rest → IsTrue is_quiet ↔ IsQuiet after
      → IsSliceInBands before old limit
      (record { count = record { jobs = in_bands + rest; abandons = abandons }; is_quiet = is_quiet }) after new
  slice_in_bands edges_open one_job after new limit rest abandons is_quiet sound count few works quiet =
      let run : IsRunWith before old (in_bands + rest) abandons after new =
      subst (λ n. IsRunWith before old (in_bands + rest) n after new) (sym count)
      (run_from_before after new (in_bands + rest) (run_of_rest after new (limit - in_bands) rest works)) in
      record {
        run = run;
        at_most = omega (arith, works.at_most, few);
        to_the_end = λ fewer. works.to_the_end (omega (arith, fewer, few));
        quiet = quiet;
        bound = run_is_bounded edges_open before after old new (in_bands + rest) abandons sound run;
        each_out = count ∙ one_job before;
      }
