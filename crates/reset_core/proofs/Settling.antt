-- Settling: jobs that are abandoned, hints that are handed over, and tiles that are swept, one after another.
use Rattle.std.proofs.Common.{◌≡◌, ℕ, zero, suc, ◌+◌, ◌-◌, ◌*◌, ◌<◌, ◌≤◌, true, List, [], ◌∷◌, ◌++◌, length, refl, sym}
use Rattle.std.proofs.Common.{ap, ◌∙◌, subst, arith, set, get_or, IsTrue, ◌≢◌, IsSome, Bool, false, Option, option_map}
use Rattle.std.proofs.Common.{option_to_list, Some, None, slice_get, if◌then◌else◌, Contains, ◌↔◌, Result, Ok, Err}
use Rattle.std.proofs.Common.{IfOk, inr, All}
use Rattle.std.proofs.{lemmas.Nat.mul-le, lemmas.List.Edits.length-remove}
use Rattle.std.proofs.lemmas.List.{append-nil, append_assoc, length-append, length-set, map-append}
use Rattle.std.proofs.lemmas.List.Sums.{sum_by-set, sum_by-le}
use Rattle.border_queues.specs.{declared.hint.Hint.Hint, TileWork.TileWork, TileWork.idle, TileWork.IsLeast}
use Rattle.grid_core.specs.Tiles.{tile_of, IsTiled, count_of, columns_of, rows_of}
use Rattle.grid_core.specs.Raster.{IsSized, max_level}
use Rattle.core_rules.specs.{Invariant.IsSound, declared.answers.Handed.Handed, Sweeps.IsAbandoned, Shown.ShowsTheSame}
use Rattle.core_rules.specs.declared.answers.Handed.TheVariants.{Raised, Same, Stale, Nothing}
use Rattle.core_rules.specs.Work.{Core, tiling, IsTile, work_at, with_work, IsQuiet}
use Rattle.core_rules.specs.Hints.{hint_at, without_hint, raised, IsHanded}
use Rattle.core_rules.specs.Events.{Take, GiveBack, Abandon, Hand, OfTake, OfAbandon, OfHand}
use Rattle.core_rules.specs.Runs.{IsSettled, IsCutShort, Entry, IsRun, IsWorkedOff, NoneOut, HasHints, IsDirty}
use Rattle.core_rules.specs.Runs.{IsSettling, IsTakenIn, jobs_of, tiles_taken, abandons_of, abandoned, tickets_out}
use Rattle.core_rules.specs.Counting.{IsWithinWork, Owes}
use Rattle.core_rules.specs.Laws.{SettlingIsWithinWork, SettlingSoFarIsWithinWork, OneJobOutATile}
use Rattle.core_rules.specs.Laws.{SettlingChangesFewTiles, CutShortChangesFewTiles}
use Rattle.core_rules.proofs.{Removals.taken_was_there, Cores.field_kept, Handing.left, Running.run_append}
use Rattle.core_rules.proofs.{InPlaceSweeps.work_goes_on, Leaving.taken_append, Leaving.none_taken_abandoned}
use Rattle.grid_core.proofs.Spans.{spans-le}
use Rattle.tile_generations.specs.declared.ticket.Ticket.{Ticket}
use Rattle.tile_work.specs.{TileSet.Has, TileSet.HasGained, WorkTable.HasJobOut}
use Rattle.tile_work.proofs.TileSetUnions.{HasGained-one, HasGained-none}
use Rattle.reset_core.specs.{Telling.burden, Answers.IsSlice, Answers.IsSliceCutShort}
use Rattle.reset_core.specs.Settling.{waiting_count, AreAbandoned, IsFirstHandedOver, IsOneWorkedOff, AreHanded}
use Rattle.reset_core.specs.Settling.{IsAllWorkedOff, AreWorkedOff, AreWorkedOffWithin}
use Rattle.reset_core.proofs.Sweeping.{let_go}

-- ---- counts of lists of events

-- as many takes gave jobs as tiles were taken
pub jobs_are_taken : (log : List Entry) → jobs_of log ≡ length (tiles_taken log)
jobs_are_taken [] = refl
jobs_are_taken ((Take t, OfTake (Some job)) ∷ log) = omega (arith, jobs_are_taken log)
jobs_are_taken (entry ∷ log) = jobs_are_taken log

pub jobs_append : (first second : List Entry) → jobs_of (first ++ second) ≡ jobs_of first + jobs_of second
jobs_append first second =
    let long = length-append (tiles_taken first) (tiles_taken second) in
    let all = jobs_are_taken (first ++ second) ∙ ap length (taken_append first second) in
    omega (arith, all, long, jobs_are_taken first, jobs_are_taken second)

pub abandons_append : (tickets : List Ticket) (second : List Entry)
    → abandons_of (abandoned tickets ++ second) ≡ length tickets + abandons_of second
abandons_append [] second = omega arith
abandons_append (ticket ∷ tickets) second = omega (arith, abandons_append tickets second)

-- working off abandons nothing
pub none_abandoned : (before after : Core) (log : List Entry) → IsWorkedOff before log after → abandons_of log ≡ 0
none_abandoned before after [] works = refl
none_abandoned before after ((GiveBack swept, answer) ∷ log) (is_next, (next, happens, rest)) =
    none_abandoned next after log rest
none_abandoned before after ((Hand t place, answer) ∷ log) (is_next, (next, happens, rest)) =
    none_abandoned next after log rest
none_abandoned before after ((Take t, answer) ∷ log) (is_next, (next, happens, rest)) =
    none_abandoned next after log rest
none_abandoned before after ((_, answer) ∷ log) (is_next, more) = absurd is_next

-- ---- jobs that are abandoned

-- the first tile that is out has the first ticket, and without it the others are left
pub first_ticket : (k : ℕ) (works : List TileWork) (t serial : ℕ) → t < length works
    → (get_or works t idle).out ≡ Some serial → ((u : ℕ) → u < t → (get_or works u idle).out ≡ None)
    → tickets_out k works ≡ record { tile = k + t; generation = (get_or works t idle).generation; serial = serial }
    ∷ tickets_out k (set works t (let_go (get_or works t idle)))
first_ticket k [] t serial within out first = absurd (omega (arith, within))
first_ticket k (work ∷ works) zero serial within out first =
    let here : k + 0 ≡ k = omega arith in
    let ticket : ℕ → Ticket = λ n. record { tile = n; generation = work.generation; serial = serial } in
    ap (λ o. tickets_out k (record work { out = o } ∷ works)) out
    ∙ ap (λ n. ticket n ∷ tickets_out (k + 1) works) (sym here)
first_ticket k (work ∷ works) (suc t) serial within out first =
    let next : k + 1 + t ≡ k + suc t = omega arith in
    let rest = first_ticket (k + 1) works t serial (omega (arith, within)) out
    (λ u before. first (suc u) (omega (arith, before))) in
    let none : work.out ≡ None = first 0 (omega arith) in
    ap (λ o. tickets_out k (record work { out = o } ∷ works)) none ∙ rest
    ∙ ap (λ n. record { tile = n; generation = (get_or works t idle).generation; serial = serial }
    ∷ tickets_out (k + 1) (set works t (let_go (get_or works t idle)))) next
    ∙ ap (λ o. record { tile = k + suc t; generation = (get_or works t idle).generation; serial = serial }
    ∷ tickets_out k (record work { out = o } ∷ set works t (let_go (get_or works t idle)))) (sym none)

few_with : (make : ℕ → Ticket) (tickets : List Ticket) (n : ℕ) → length tickets ≤ n → (o : Option ℕ)
    → length (option_to_list (option_map make o) ++ tickets) ≤ n + 1
few_with make tickets n few None = omega (arith, few)
few_with make tickets n few (Some serial) = omega (arith, few)

pub few_tickets : (k : ℕ) (works : List TileWork) → length (tickets_out k works) ≤ length works
few_tickets k [] = omega arith
few_tickets k (work ∷ works) =
    let few = few_with (λ serial. record { tile = k; generation = work.generation; serial = serial })
    (tickets_out (k + 1) works) (length works) (few_tickets (k + 1) works) work.out in
    omega (arith, few)

some_out : (serial : ℕ) (o : Option ℕ) → o ≡ Some serial → IsSome o
some_out serial o some = subst IsSome (sym some) refl

-- where no tile is out, there is no ticket; else the first tile that is out has the first
pub none_is_out : (core : Core) → ((t : ℕ) → HasJobOut core.tiles t → ⊥) → NoneOut core
none_is_out core none t within = out_of (work_at core t).out refl where
  out_of : (o : Option ℕ) → (work_at core t).out ≡ o → (work_at core t).out ≡ None
  out_of None same = same
  out_of (Some serial) same = absurd (none t (within, some_out serial (work_at core t).out same))

module _ (core : Core) (t : ℕ) (least : IsLeast (HasJobOut core.tiles) t) where
  before_none : (u : ℕ) → u < t → (work_at core u).out ≡ None
  before_none u before = out_of (work_at core u).out refl where
    out_of : (o : Option ℕ) → (work_at core u).out ≡ o → (work_at core u).out ≡ None
    out_of None same = same
    out_of (Some serial) same =
        let later = least.1 u (omega (arith, before, least.0.0), some_out serial (work_at core u).out same)
        in absurd (omega (arith, before, later))

  pub first_abandoned : (ticket : Ticket)
      × (tickets_out 0 core.tiles ≡ ticket ∷ tickets_out 0 (set core.tiles t (let_go (work_at core t))))
      × IsAbandoned core ticket true (with_work core t (let_go (work_at core t)))
  first_abandoned = of_out (work_at core t).out refl where
    of_out : (o : Option ℕ) → (work_at core t).out ≡ o → (ticket : Ticket)
        × (tickets_out 0 core.tiles ≡ ticket ∷ tickets_out 0 (set core.tiles t (let_go (work_at core t))))
        × IsAbandoned core ticket true (with_work core t (let_go (work_at core t)))
    of_out None same = let no : IsSome {T = ℕ} None = subst IsSome same least.0.1 in absurd cc
    of_out (Some serial) same =
        let none : 0 + t ≡ t = omega arith in (
          record { tile = t; generation = (work_at core t).generation; serial = serial },
          first_ticket 0 core.tiles t serial least.0.0 same before_none
              ∙ ap (λ n. record { tile = n; generation = (work_at core t).generation; serial = serial }
              ∷ tickets_out 0 (set core.tiles t (let_go (work_at core t)))) none,
          (record { is_tile = least.0.0; generation = refl; out = same }, refl),
        )

-- one job more is abandoned
pub one_more_abandoned : (before now next : Core) (abandons : ℕ) (ticket : Ticket) → AreAbandoned before now abandons
    → tickets_out 0 now.tiles ≡ ticket ∷ tickets_out 0 next.tiles → IsAbandoned now ticket true next
    → AreAbandoned before next (abandons + 1)
one_more_abandoned before now next abandons ticket so_far first happens = record {
  done = so_far.done ++ ticket ∷ [];
  clears =
      subst (λ log. IsRun before log next)
      (sym (map-append (λ (x : Ticket). (Abandon x, OfAbandon true)) so_far.done (ticket ∷ [])))
      (run_append before now next (abandoned so_far.done) ((Abandon ticket, OfAbandon true) ∷ []) so_far.clears
      (next, happens, refl));
  parts =
      so_far.parts ∙ ap (λ l. so_far.done ++ l) first
      ∙ sym (append_assoc so_far.done (ticket ∷ []) (tickets_out 0 next.tiles));
  count = omega (arith, length-append so_far.done (ticket ∷ []), so_far.count);
}

-- where no ticket is left, all jobs are abandoned
pub all_abandoned : (before now : Core) (abandons : ℕ) → AreAbandoned before now abandons → tickets_out 0 now.tiles ≡ []
    → IsRun before (abandoned (tickets_out 0 before.tiles)) now × (abandons ≡ length (tickets_out 0 before.tiles))
all_abandoned before now abandons so_far none =
    let all : tickets_out 0 before.tiles ≡ so_far.done =
    so_far.parts ∙ ap (λ l. so_far.done ++ l) none ∙ append-nil so_far.done in (
      subst (λ tickets. IsRun before (abandoned tickets) now) (sym all) so_far.clears,
      so_far.count ∙ ap length (sym all),
    )

-- ---- hints that are handed over

module _ (before : Core) (t : ℕ) (first : IsLeast (HasHints before) t) (none_out : NoneOut before) where
  fewer_without : waiting_count (without_hint before t 0).tiles < waiting_count before.tiles
  fewer_without =
      let some : 0 < length (work_at before t).inbox = some_length (work_at before t).inbox first.0.1 in
      let moved = sum_by-set (λ (w : TileWork). length w.inbox) before.tiles t (left before t 0) idle first.0.0 in
      omega (arith, moved, length-remove (work_at before t).inbox 0 some) where
        some_length : (hints : List Hint) → hints ≢ [] → 0 < length hints
        some_length [] some = absurd (some refl)
        some_length (hint ∷ hints) some = omega arith

  count_without : length (without_hint before t 0).tiles ≡ length before.tiles
  count_without =
      length-set before.tiles t (left before t 0)

  none_out_without : NoneOut (without_hint before t 0)
  none_out_without u within =
      field_kept before t (left before t 0) (λ (w : TileWork). w.out) first.0.0 refl u
      ∙ none_out u (omega (arith, within, count_without))

  from_without : (handed : Handed) (after : Core) → IsHanded before t 0 handed after
      → after ≡ without_hint before t 0 → IsFirstHandedOver before after
  from_without handed after happens same = record {
    t = t;
    handed = handed;
    first = first;
    happens = happens;
    none_out = subst NoneOut (sym same) none_out_without;
    fewer = rw same fewer_without;
    count = ap (λ (core : Core). length core.tiles) same ∙ count_without;
    tiling = ap tiling same;
  }

  module _ (sound : IsSound before) (hint : Hint) (there : hint_at before t 0 ≡ Some hint) where
    home_is_tile : IsTile (without_hint before t 0) (tile_of (tiling before) hint.to_pixel)
    home_is_tile =
        let home = (sound.hints t hint first.0.0 (taken_was_there (work_at before t).inbox 0 hint there)).to.tile in
        omega (arith, count_without, home, first.0.0)

    from_raised : (after : Core) → IsHanded before t 0 Raised after
        → after ≡ raised (without_hint before t 0) hint → IsFirstHandedOver before after
    from_raised after happens same =
        let lost = without_hint before t 0 in
        let home = tile_of (tiling before) hint.to_pixel in
        let work : TileWork = record (work_at lost home) { dirty = true } in
        record {
          t = t;
          handed = Raised;
          first = first;
          happens = happens;
          none_out =
              subst NoneOut (sym same) (λ u within.
              let count = length-set lost.tiles home work in
              field_kept lost home work (λ (w : TileWork). w.out) home_is_tile refl u
              ∙ none_out_without u (omega (arith, within, count)));
          fewer =
              let moved = sum_by-set (λ (w : TileWork). length w.inbox) lost.tiles home work idle home_is_tile in
              rw same (omega (arith, moved, fewer_without));
          count = ap (λ (core : Core). length core.tiles) same ∙ length-set lost.tiles home work ∙ count_without;
          tiling = ap tiling same;
        }

  none_there : hint_at before t 0 ≡ None → ⊥
  none_there none = no_first (work_at before t).inbox first.0.1 none where
    no_first : (hints : List Hint) → hints ≢ [] → slice_get hints 0 ≡ None → ⊥
    no_first [] some none = some refl
    no_first (hint ∷ hints) some none =
        let there : slice_get (hint ∷ hints) 0 ≡ Some hint = refl in
        let same : None ≡ Some hint = sym none ∙ there in
        absurd cc

  pub first_handed : IsSound before → (handed : Handed) (after : Core) → IsHanded before t 0 handed after
      → IsFirstHandedOver before after
  first_handed sound Nothing after (none, same) = absurd (none_there none)
  first_handed sound Stale after (hint, there, absent, same) = from_without Stale after (hint, there, absent, same) same
  first_handed sound Same after (hint, there, present, low, same) =
      from_without Same after (hint, there, present, low, same) same
  first_handed sound Raised after (hint, there, present, above, same) =
      from_raised sound hint there after (hint, there, present, above, same) same

-- one hint more is handed over
pub one_more_handed : (before now next : Core) → AreHanded before now → IsFirstHandedOver now next
    → AreHanded before next
one_more_handed before now next so_far first = record {
  log = so_far.log ++ (Hand first.t 0, OfHand first.handed) ∷ [];
  works =
      work_goes_on before now next so_far.log ((Hand first.t 0, OfHand first.handed) ∷ []) so_far.works
      ((so_far.none_out, first.first, refl), (next, first.happens, refl));
  none_taken =
      taken_append so_far.log ((Hand first.t 0, OfHand first.handed) ∷ []) ∙ append-nil (tiles_taken so_far.log)
      ∙ so_far.none_taken;
  count = first.count ∙ so_far.count;
  none_out = first.none_out;
  tiling = first.tiling ∙ so_far.tiling;
}

-- ---- tiles that are swept

-- one tile more is swept, and put into the set
pub one_more_swept : (before : Core) (old : List Bool) (now : Core) (tiles : List Bool) (jobs t : ℕ) (next : Core)
    → AreWorkedOff before old now tiles jobs → IsOneWorkedOff now t next → tiling next ≡ tiling now → t < length tiles
    → AreWorkedOff before old next (set tiles t true) (jobs + 1)
one_more_swept before old now tiles jobs t next so_far one same within =
    let taken : tiles_taken (so_far.log ++ one.log) ≡ tiles_taken so_far.log ++ t ∷ [] =
    taken_append so_far.log one.log ∙ ap (λ (ts : List ℕ). tiles_taken so_far.log ++ ts) one.one_taken in
    record {
      log = so_far.log ++ one.log;
      works = work_goes_on before now next so_far.log one.log so_far.works one.works;
      jobs_are =
          let count = so_far.jobs_are in
          omega (arith, jobs_append so_far.log one.log, jobs_are_taken one.log ∙ ap length one.one_taken, count);
      swept =
          subst (λ (ts : List ℕ). HasGained old (Contains ts) (set tiles t true)) (sym taken)
          (HasGained-one old tiles (tiles_taken so_far.log) t within so_far.swept);
      count = one.count ∙ so_far.count;
      none_out = one.none_out;
      no_hints = one.no_hints;
      tiling = same ∙ so_far.tiling;
      spent = omega (arith, so_far.spent, one.less);
    }

-- no tile is swept yet
pub none_swept : (core : Core) (set : List Bool) → NoneOut core → ((u : ℕ) → HasHints core u → ⊥)
    → AreWorkedOff core set core set 0
none_swept core set none_out no_hints = record {
  log = [];
  works = refl;
  jobs_are = refl;
  swept = HasGained-none set;
  count = refl;
  none_out = none_out;
  no_hints = no_hints;
  tiling = refl;
  spent = omega arith;
}

-- a core's burden is far below 2^64
pub bounded_burden : (core : Core) → IsSized core.image → IsTiled (tiling core)
    → length core.tiles ≡ count_of (tiling core) → burden core + 1 < 18446744073709551616
bounded_burden core sized tiled count =
    let t = tiling core in
    let cells = sum_by-le (λ v. max_level - v) max_level core.image.cells
    (All-of {P = λ v. max_level - v ≤ max_level} (λ v. omega arith) core.image.cells) in
    let rows = sum_by-le (λ (work : TileWork). if work.dirty then 1 else 0) 1 core.tiles
    (All-of {P = λ work. (if work.dirty then 1 else 0) ≤ 1} (λ (work : TileWork). at_most_one work.dirty) core.tiles) in
    let side = tiled.tile_side.at_least in
    let columns : columns_of t ≤ t.width = spans-le t.width t.side (omega (arith, side)) in
    let lines : rows_of t ≤ t.height = spans-le t.height t.side (omega (arith, side)) in
    let tiles : count_of t ≤ t.width * t.height = mul-le (columns_of t) (rows_of t) t.width t.height columns lines in
    let total : length core.image.cells ≤ 67108864 = omega (arith, sized.filled, sized.size.pixels_within) in
    let all : length core.image.cells * max_level ≤ 67108864 * max_level =
    mul-le (length core.image.cells) max_level 67108864 max_level total (omega arith) in
    omega (arith, cells, rows, all, tiles, tiled.size.pixels_within, count) where
      at_most_one : (b : Bool) → (if b then 1 else 0) ≤ 1
      at_most_one true = omega arith
      at_most_one false = omega arith

      All-of : {X : Type 0} {P : X → Type 0} → ((x : X) → P x) → (xs : List X) → All P xs
      All-of holds xs = λ k d within. holds (get_or xs k d)

-- a core at which no job is out, no hint waits and no tile is dirty is quiet
pub quiet_from : (core : Core) → NoneOut core → ((u : ℕ) → HasHints core u → ⊥) → ((t : ℕ) → IsDirty core t → ⊥)
    → IsQuiet core
quiet_from core none_out no_hints clean t within = record {
  clean = not_dirty (work_at core t).dirty (λ dirty. clean t (within, dirty));
  none_out = none_out t within;
  empty = no_hint (work_at core t).inbox (λ some. no_hints t (within, some));
} where
  not_dirty : (b : Bool) → (IsTrue b → ⊥) → b ≡ false
  not_dirty true never = absurd (never refl)
  not_dirty false never = refl

  no_hint : (hints : List Hint) → (hints ≢ [] → ⊥) → hints ≡ []
  no_hint [] never = refl
  no_hint (hint ∷ hints) never = absurd (never (λ none. let e : hint ∷ hints ≡ [] = none in absurd cc))

-- ---- settling

-- nothing is abandoned at a quiet core
none_abandoned_where_quiet : (core after : Core) (tickets : List Ticket) → IsQuiet core
    → IsRun core (abandoned tickets) after → after ≡ core
none_abandoned_where_quiet core after [] quiet same = same
none_abandoned_where_quiet core after (ticket ∷ tickets) quiet (next, (out, same), rest) =
    let e : Some ticket.serial ≡ None = sym out.out ∙ (quiet ticket.tile out.is_tile).none_out in
    absurd cc

-- and nothing is worked off there
none_worked_where_quiet : (core after : Core) (log : List Entry) → IsQuiet core → IsWorkedOff core log after
    → after ≡ core
none_worked_where_quiet core after [] quiet same = same
none_worked_where_quiet core after ((GiveBack swept, answer) ∷ log) quiet (is_next, rest) =
    let ticket = swept.job.ticket in
    let e : Some ticket.serial ≡ None = sym is_next.out.out ∙ (quiet ticket.tile is_next.out.is_tile).none_out in
    absurd cc
none_worked_where_quiet core after ((Hand t place, answer) ∷ log) quiet ((none_out, least, first), rest) =
    absurd (least.0.1 (quiet t least.0.0).empty)
none_worked_where_quiet core after ((Take t, answer) ∷ log) quiet ((none_out, no_hints, least), rest) =
    let e : true ≡ false = sym least.0.1 ∙ (quiet t least.0.0).clean in
    absurd cc
none_worked_where_quiet core after ((_, answer) ∷ log) quiet (is_next, rest) = absurd is_next

-- logs that take the same tiles take as many jobs
same_jobs : (one other : List Entry) → tiles_taken one ≡ tiles_taken other → jobs_of one ≡ jobs_of other
same_jobs one other same = jobs_are_taken one ∙ ap length same ∙ sym (jobs_are_taken other)

-- where so many jobs may be taken as never are, no work is left
pub all_worked_off : {E : Type 0} (limit : ℕ) (handed after : Core) (old new : List Bool) (result : Result ℕ E)
    → IfOk result (AreWorkedOffWithin limit handed old after new)
    → IfOk result (λ jobs. jobs + 1 < 18446744073709551616)
    → 18446744073709551615 ≤ limit → IfOk result (λ jobs. IsAllWorkedOff handed jobs after)
all_worked_off limit handed after old new (Ok jobs) within few unlimited = record {
  works = (within.off.log, within.off.works, within.off.jobs_are);
  quiet = within.to_the_end (omega (arith, few, unlimited));
}
all_worked_off limit handed after old new (Err e) within few unlimited = tt

-- jobs that are abandoned, and hints that are handed over then
module _ (before cleared handed : Core) (clears : IsRun before (abandoned (tickets_out 0 before.tiles)) cleared)
    (hands : AreHanded cleared handed) where
  abbrev tickets : List Ticket
  tickets = tickets_out 0 before.tiles

  -- where memory is wanted before a tile is swept, they are all that was done
  pub cut_before_sweeps : (after : Core) → ((t : ℕ) × IsDirty handed t) → after ≡ handed
      → (log : List Entry) × IsCutShort before log after × (tiles_taken log ≡ [])
  cut_before_sweeps after dirty same =
      let cut : IsCutShort before (abandoned tickets ++ hands.log) handed = record {
        reached = handed;
        done = abandoned tickets ++ hands.log;
        in_hand = [];
        settling = record { cleared = cleared; work = hands.log; clears = clears; works = hands.works; parts = refl };
        drops = refl;
        at_most_one = omega arith;
        none_out = hands.none_out;
        some_dirty = dirty;
        parts = sym (append-nil (abandoned tickets ++ hands.log));
      } in (
        abandoned tickets ++ hands.log,
        rw same cut,
        taken_append (abandoned tickets) hands.log
            ∙ ap (λ (ts : List ℕ). ts ++ tiles_taken hands.log) (none_taken_abandoned tickets) ∙ hands.none_taken,
      )

  -- and the set of the tiles that were swept is as it was
  pub slice_cut_short : (after : Core) (old new : List Bool) → ((t : ℕ) × IsDirty handed t) → after ≡ handed
      → new ≡ old → IsSliceCutShort before old after new
  slice_cut_short after old new dirty same same_set =
      let (log, cut, taken) = cut_before_sweeps after dirty same in (
        log,
        cut,
        subst (λ (tiles : List Bool). HasGained old (IsTakenIn log) tiles) (sym same_set)
            (subst (λ (ts : List ℕ). HasGained old (Contains ts) old) (sym taken) (HasGained-none old)),
      )

  -- a tile that is dirty once that is done was not one of a quiet core
  pub some_work_before : ((t : ℕ) × IsDirty handed t) → IsQuiet before → ⊥
  some_work_before (t, dirty) quiet =
      let same_cleared = none_abandoned_where_quiet before cleared tickets quiet clears in
      let same : handed ≡ before =
      none_worked_where_quiet cleared handed hands.log (rw same_cleared quiet) hands.works ∙ same_cleared in
      let was : IsDirty before t = rw same at dirty in
      let e : true ≡ false = sym was.1 ∙ (quiet t was.0).clean in
      absurd cc

  -- with tiles that are swept then they are settling; it takes the tiles that are swept
  pub settling_by : (after : Core) (abandons : ℕ) → abandons ≡ length tickets → (sweeps : List Entry)
      → IsWorkedOff handed sweeps after → (log : List Entry) × IsSettling before log after
      × (tiles_taken sweeps ≡ tiles_taken log) × (abandons ≡ abandons_of log)
  settling_by after abandons count sweeps works =
      let work = hands.log ++ sweeps in
      let works_off = work_goes_on cleared handed after hands.log sweeps hands.works works in
      let taken : tiles_taken (abandoned tickets ++ work) ≡ tiles_taken sweeps =
      taken_append (abandoned tickets) work
      ∙ ap (λ (ts : List ℕ). ts ++ tiles_taken work) (none_taken_abandoned tickets) ∙ taken_append hands.log sweeps
      ∙ ap (λ (ts : List ℕ). ts ++ tiles_taken sweeps) hands.none_taken in (
        abandoned tickets ++ work,
        record { cleared = cleared; work = work; clears = clears; works = works_off; parts = refl },
        sym taken,
        omega (arith, abandons_append tickets work, none_abandoned cleared after work works_off, count),
      )

  -- until the core is quiet
  pub settled_by : (after : Core) (jobs abandons : ℕ) → abandons ≡ length tickets
      → ((log : List Entry) × IsWorkedOff handed log after × (jobs_of log ≡ jobs)) → IsQuiet after
      → (log : List Entry) × IsSettled before log after × (jobs ≡ jobs_of log) × (abandons ≡ abandons_of log)
  settled_by after jobs abandons count (sweeps, works, swept) quiet =
      let (log, settling, taken, dropped) = settling_by after abandons count sweeps works in
      (log, record { settling = settling; quiet = quiet }, sym swept ∙ same_jobs sweeps log taken, dropped)

  -- a slice of settling
  pub slice_by : SettlingSoFarIsWithinWork → OneJobOutATile → (after : Core) (old new : List Bool)
      (limit jobs abandons : ℕ) (is_quiet : Bool) → IsSound before → abandons ≡ length tickets
      → AreWorkedOffWithin limit handed old after new jobs → IsTrue is_quiet ↔ IsQuiet after → IsSlice before old limit
      (record { count = record { jobs = jobs; abandons = abandons }; is_quiet = is_quiet }) after new
  slice_by law one_a_tile after old new limit jobs abandons is_quiet sound count within quiet =
      let off = within.off in
      let (log, settling, taken, dropped) = settling_by after abandons count off.log off.works in
      let swept : jobs ≡ jobs_of log = sym off.jobs_are ∙ same_jobs off.log log taken in
      record {
        log = log;
        settling = settling;
        jobs_are = swept;
        abandons_are = dropped;
        swept = subst (λ (ts : List ℕ). HasGained old (Contains ts) new) taken off.swept;
        at_most = within.at_most;
        to_the_end = within.to_the_end;
        quiet = quiet;
        bound =
            subst (λ n. IsWithinWork before after n abandons) (sym swept)
            (subst (λ n. IsWithinWork before after (jobs_of log) n) (sym dropped)
            (law before after log sound settling));
        each_out = count ∙ one_a_tile before;
      }

-- a tile that is neither in the new set nor dirty shows what it showed, and so it does where memory was wanting
pub slice_shows : SettlingChangesFewTiles → (before after : Core) (old new : List Bool) (log : List Entry)
    → IsSound before → IsSettling before log after → HasGained old (IsTakenIn log) new → (t : ℕ) → (Has new t → ⊥)
    → (IsDirty after t → ⊥) → ShowsTheSame before after t
slice_shows law before after old new log sound settling gained t absent clean =
    law before after log sound settling t
    (record { untaken = λ taken. absent ((gained.each t).1 (inr taken)); clean = clean })

pub cut_short_shows : CutShortChangesFewTiles → (before after : Core) (old new : List Bool) → IsSound before
    → IsSliceCutShort before old after new → (t : ℕ) → (Has new t → ⊥) → (IsDirty after t → ⊥)
    → ShowsTheSame before after t
cut_short_shows law before after old new sound (log, cut, gained) t absent clean =
    law before after log sound cut t
    (record { untaken = λ taken. absent ((gained.each t).1 (inr taken)); clean = clean })

-- ---- the bound on the work

pub settled_within_work : SettlingIsWithinWork → (before after : Core) (jobs abandons : ℕ) → IsSound before
    → ((log : List Entry) × IsSettled before log after × (jobs ≡ jobs_of log) × (abandons ≡ abandons_of log))
    → IsWithinWork before after jobs abandons × Owes after 0
settled_within_work law before after jobs abandons sound (log, settled, same_jobs, same_abandons) =
    let (within, nothing_owed) = law before after log sound settled in
    (rw (same_jobs, same_abandons) within, nothing_owed)
