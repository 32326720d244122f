-- What events leave as it was at a tile that they do not take.
use Rattle.std.proofs.Common.{◌≡◌, ◌≢◌, ℕ, zero, suc, ◌+◌, ◌%◌, ◌^◌, ◌<◌, true, false, List, [], ◌∷◌, ◌++◌, length}
use Rattle.std.proofs.Common.{get_or, refl, sym, ◌∙◌, ap, subst, arith, inl, inr, IsTrue, Contains, Option, Some, None}
use Rattle.std.proofs.Common.{remove, option_to_list}
use Rattle.std.proofs.{lemmas.Bool.cases_lt, lemmas.Bool.cases_eq, lemmas.List.append_assoc, lemmas.List.length-set}
use Rattle.std.proofs.{lemmas.List.Elements.Contains-append_left, lemmas.List.Elements.Contains-append_right}
use Rattle.grid_core.specs.Tiles.{Tiles, count_of, tile_of}
use Rattle.grid_core.proofs.Tilings.{each_pixel_in_one_tile}
use Rattle.stroke_lattice.specs.{State.State, Change.Turnover}
use Rattle.border_queues.specs.{declared.hint.Hint.Hint, TileWork.TileWork, TileWork.idle, Laws.EdgesAreOpen}
use Rattle.tile_generations.specs.{declared.ticket.Ticket.Ticket, Jobs.Swept}
use Rattle.core_rules.specs.declared.answers.Back.TheVariants.{Joined, Again, Stale, Stranger}
use Rattle.core_rules.specs.{declared.answers.Handed.Handed, Hits.IsInTile, Merge.IsMerged, Invariant.IsSound}
use Rattle.core_rules.specs.declared.answers.Handed.TheVariants.{Raised, Same, Stale as Old, Nothing}
use Rattle.core_rules.specs.Work.{Core, tiling, image_at, IsTile, work_at, with_work}
use Rattle.core_rules.specs.Hints.{hint_at, IsPresent, without_hint, raised, IsHanded}
use Rattle.core_rules.specs.Sweeps.{IsOut, IsJoined, IsAbandoned}
use Rattle.core_rules.specs.Events.{Event, Answer, Happens, Merge, Take, GiveBack, Abandon, Hand, OfMerge, OfTake}
use Rattle.core_rules.specs.Events.{OfGiveBack, OfAbandon, OfHand}
use Rattle.core_rules.specs.Runs.{Entry, IsRun, IsSettling, IsCutShort, NoneOut, abandoned, tickets_out, tiles_taken}
use Rattle.core_rules.specs.Runs.{IsWorkedOff, IsDirty, IsTakenIn, ticket_out}
use Rattle.core_rules.specs.Shown.{ShowsTheSame, IsPassedOver}
use Rattle.core_rules.proofs.Cores.{work_there, work_elsewhere, inside_image, tile_of_pixel_is_tile}
use Rattle.core_rules.proofs.Handing.{hint_of_tile, home_is_tile, home_dirty, elsewhere}
use Rattle.core_rules.proofs.{InPlaceSweeps.work_goes_on, Removals.taken_was_there}
use Rattle.core_rules.proofs.Ordered.{in_front_or_rest, in_front, none_there}
use Rattle.core_rules.proofs.Running.{event_keeps_sound, run_keeps_sound, worked_is_run, settling_is_run}
use Rattle.core_rules.proofs.Running.{cut_short_is_run}

-- ---- what is left at a tile

-- the second core has as many tiles; the tile is dirty where it was; and where no job of it was out, none is, and if it
-- is not dirty, it shows what it showed
record Leaves (before after : Core) (t : ℕ) : Type 0 where
  count : length after.tiles ≡ length before.tiles
  same_tiling : tiling after ≡ tiling before
  dirty : IsTrue (work_at before t).dirty → IsTrue (work_at after t).dirty
  none_out : (work_at before t).out ≡ None → (work_at after t).out ≡ None
  shows : (work_at before t).out ≡ None → (IsTrue (work_at after t).dirty → ⊥) → ShowsTheSame before after t

leaves_all : (core : Core) (t : ℕ) → Leaves core core t
leaves_all core t = record {
  count = refl;
  same_tiling = refl;
  dirty = λ dirty. dirty;
  none_out = λ none. none;
  shows = λ none clean p in_tile. refl;
}

leaves_on : (a b c : Core) (t : ℕ) → Leaves a b t → Leaves b c t → Leaves a c t
leaves_on a b c t first second = record {
  count = second.count ∙ first.count;
  same_tiling = second.same_tiling ∙ first.same_tiling;
  dirty = λ dirty. second.dirty (first.dirty dirty);
  none_out = λ none. second.none_out (first.none_out none);
  shows = λ none clean p in_tile. second.shows (first.none_out none) clean p
      (subst (λ (tiles : Tiles). IsInTile tiles t p) (sym first.same_tiling) in_tile)
      ∙ first.shows none (λ dirty. clean (second.dirty dirty)) p in_tile;
}

-- ---- one event

-- other work at one tile, which is dirty and has no job out where it was and had none
work_leaves : (core : Core) (u : ℕ) (work : TileWork) (serial t : ℕ) → IsTile core u
    → (t ≡ u → IsTrue (work_at core u).dirty → IsTrue work.dirty)
    → (t ≡ u → (work_at core u).out ≡ None → work.out ≡ None)
    → Leaves core (record (with_work core u work) { serial = serial }) t
work_leaves core u work serial t is_tile dirty none_out =
    let P : (TileWork → Type 0) → Type 0 = λ Q. Q (work_at core t) → Q (work_at (with_work core u work) t) in
    let field : (Q : TileWork → Type 0) → (t ≡ u → Q (work_at core u) → Q work) → P Q = λ Q here_too.
    elim (cases_eq t u) [
      | inl here ↦ λ was.
          rw (here, work_there core u work is_tile) (here_too here (subst (λ v. Q (work_at core v)) here was))
      | inr other ↦ λ was. subst Q (sym (work_elsewhere core u t work other)) was
    ] in
    record {
      count = length-set core.tiles u work;
      same_tiling = refl;
      dirty = field (λ w. IsTrue w.dirty) dirty;
      none_out = field (λ w. w.out ≡ None) none_out;
      shows = λ none clean p in_tile. refl;
    }

abandon_leaves : (before after : Core) (ticket : Ticket) (t : ℕ) → IsAbandoned before ticket true after
    → Leaves before after t
abandon_leaves before after ticket t (out, same) =
    let work : TileWork = record (work_at before ticket.tile) { dirty = true; out = None } in
    rw same (work_leaves before ticket.tile work before.serial t out.is_tile (λ here was. refl) (λ here none. refl))

lost_leaves : (before : Core) (u i t : ℕ) → IsTile before u → Leaves before (without_hint before u i) t
lost_leaves before u i t is_tile =
    let work : TileWork = record (work_at before u) { inbox = remove (work_at before u).inbox i } in
    work_leaves before u work before.serial t is_tile (λ here was. was) (λ here none. none)

raised_leaves : (before : Core) (u i t : ℕ) (hint : Hint) → IsSound before → hint_at before u i ≡ Some hint
    → IsPresent before hint → image_at before hint.to_pixel < hint.value
    → Leaves before (raised (without_hint before u i) hint) t
raised_leaves before u i t hint sound there present above =
    let is_tile = hint_of_tile before u i hint there in
    let valid = sound.hints u hint is_tile (taken_was_there (work_at before u).inbox i hint there) in
    let lost = without_hint before u i in
    let home = tile_of (tiling before) hint.to_pixel in
    let work : TileWork = record (work_at lost home) { dirty = true } in
    let first = lost_leaves before u i t is_tile in
    let marked = work_leaves lost home work lost.serial t (home_is_tile before sound u i hint there valid)
    (λ here was. refl) (λ here none. none) in
    record {
      count = marked.count ∙ first.count;
      same_tiling = refl;
      dirty = λ dirty. marked.dirty (first.dirty dirty);
      none_out = λ none. marked.none_out (first.none_out none);
      shows = λ none clean p in_tile.
          elsewhere before sound u i hint there valid present above p in_tile.inside (λ same.
          let here : home ≡ t = ap (tile_of (tiling before)) (sym same) ∙ in_tile.tile in
          clean (subst (λ v. IsTrue (work_at (raised (without_hint before u i) hint) v).dirty) here
          (home_dirty before sound u i hint there valid present above)));
    }

hand_leaves : (before after : Core) (u i t : ℕ) (handed : Handed) → IsSound before → IsHanded before u i handed after
    → Leaves before after t
hand_leaves before after u i t Nothing sound (none, same) = rw same (leaves_all before t)
hand_leaves before after u i t Old sound (hint, there, old, same) =
    subst (λ c. Leaves before c t) (sym same) (lost_leaves before u i t (hint_of_tile before u i hint there))
hand_leaves before after u i t Same sound (hint, there, present, enough, same) =
    subst (λ c. Leaves before c t) (sym same) (lost_leaves before u i t (hint_of_tile before u i hint there))
hand_leaves before after u i t Raised sound (hint, there, present, above, same) =
    subst (λ c. Leaves before c t) (sym same) (raised_leaves before u i t hint sound there present above)

-- a swept tile that is joined changes pixels of its own tile alone, of which its job was out
joined_leaves : (before after : Core) (swept : Swept) (t : ℕ) → IsSound before → IsTile before t
    → IsOut before swept.job.ticket → IsJoined before swept after → Leaves before after t
joined_leaves before after swept t sound is_tile out joined =
    let own = swept.job.ticket.tile in
    let apart : (work_at before t).out ≡ None → t ≢ own = λ none here.
    let e : None ≡ Some swept.job.ticket.serial = sym none ∙ ap (λ v. (work_at before v).out) here ∙ out.out in
    absurd cc in
    record {
      count = joined.count;
      same_tiling = ap tiling joined.rest;
      dirty = λ was. elim (cases_eq t own) [
        | inl here ↦ rw (here, joined.own, ← here) was
        | inr other ↦ subst (λ (w : TileWork). IsTrue w.dirty) (sym (joined.others t is_tile other)) was
      ];
      none_out = λ none. ap (λ (w : TileWork). w.out) (joined.others t is_tile (apart none)) ∙ none;
      shows = λ none clean p in_tile.
          let in_one = each_pixel_in_one_tile (tiling before) p sound.shape.tiled in_tile.inside in
          let within : own < count_of (tiling before) = omega (arith, out.is_tile, sound.shape.tiles) in
          joined.image.beyond p (inside_image before p sound.shape in_tile.inside)
          (λ found. apart none (sym in_tile.tile ∙ (in_one.1 own within).0 found));
    }

-- a tile that a merge does not leave dirty shows what it showed
clean_shows : (before after : Core) (delta : State) (turnover : Turnover) (t : ℕ)
    → IsMerged before delta turnover after → IsTile before t → (IsTrue (work_at after t).dirty → ⊥)
    → ShowsTheSame before after t
clean_shows before after delta turnover t merged is_tile clean p in_tile = elim (merged.each t is_tile) [
  | inl (hit, reset) ↦ absurd (clean (subst (λ (w : TileWork). IsTrue w.dirty) (sym reset.work) refl))
  | inr (spared, kept) ↦
      let e = kept.image p in_tile in
      elim (cases_lt (image_at before p) (merged.marker p)) [
        | inl less ↦
            let rises : image_at before p < image_at after p = omega (arith, e, less) in
            absurd (clean (kept.dirty.1 (inr (inl (record { p = p; in_tile = in_tile; rose = rises })))))
        | inr enough ↦ omega (arith, e, enough)
      ]
]

merge_leaves : (before after : Core) (delta : State) (turnover : Turnover) (t : ℕ)
    → IsMerged before delta turnover after → IsTile before t → Leaves before after t
merge_leaves before after delta turnover t merged is_tile = record {
  count = merged.count;
  same_tiling = ap tiling merged.rest;
  dirty = λ was. elim (merged.each t is_tile) [
    | inl (hit, reset) ↦ subst (λ (w : TileWork). IsTrue w.dirty) (sym reset.work) refl
    | inr (spared, kept) ↦ kept.dirty.1 (inl was)
  ];
  none_out = λ none. elim (merged.each t is_tile) [
    | inl (hit, reset) ↦ ap (λ (w : TileWork). w.out) reset.work
    | inr (spared, kept) ↦ ap (λ (w : TileWork). w.out) kept.work ∙ none
  ];
  shows = λ none clean. clean_shows before after delta turnover t merged is_tile clean;
}

event_leaves : (before after : Core) (event : Event) (answer : Answer) (t : ℕ) → IsSound before → IsTile before t
    → Happens before event answer after → (IsTakenIn ((event, answer) ∷ []) t → ⊥) → Leaves before after t
event_leaves before after (Merge delta) (OfMerge turnover) t sound is_tile merged untaken =
    merge_leaves before after delta turnover t merged is_tile
event_leaves before after (Take u) (OfTake None) t sound is_tile (none, same) untaken = rw same (leaves_all before t)
event_leaves before after (Take u) (OfTake (Some job)) t sound is_tile (ready, next, same) untaken =
    let work : TileWork = record (work_at before u) { dirty = false; out = Some before.serial } in
    let other : t ≡ u → ⊥ = λ here. untaken (subst (Contains (u ∷ [])) (sym here) (in_front u [])) in
    rw same (work_leaves before u work ((before.serial + 1) % 2 ^ 64) t ready.is_tile (λ here was. absurd (other here))
    (λ here none. absurd (other here)))
event_leaves before after (GiveBack swept) (OfGiveBack Joined) t sound is_tile (is_swept, given) untaken =
    joined_leaves before after swept t sound is_tile given.1 given.3
event_leaves before after (GiveBack swept) (OfGiveBack Again) t sound is_tile (is_swept, given) untaken =
    joined_leaves before after swept t sound is_tile given.1 given.3
event_leaves before after (GiveBack swept) (OfGiveBack Stale) t sound is_tile (is_swept, (known, gone, same)) untaken =
    subst (λ c. Leaves before c t) (sym same) (leaves_all before t)
event_leaves before after (GiveBack swept) (OfGiveBack Stranger) t sound is_tile (is_swept, (why, same)) untaken =
    subst (λ c. Leaves before c t) (sym same) (leaves_all before t)
event_leaves before after (Abandon ticket) (OfAbandon true) t sound is_tile was_out untaken =
    abandon_leaves before after ticket t was_out
event_leaves before after (Abandon ticket) (OfAbandon false) t sound is_tile (gone, same) untaken =
    subst (λ c. Leaves before c t) (sym same) (leaves_all before t)
event_leaves before after (Hand u place) (OfHand handed) t sound is_tile is_handed untaken =
    hand_leaves before after u place t handed sound is_handed
event_leaves before after _ _ t sound is_tile happens untaken = absurd happens

-- ---- lists of events

pub taken_append : (first second : List Entry) → tiles_taken (first ++ second) ≡ tiles_taken first ++ tiles_taken second
taken_append [] second = refl
taken_append ((Take t, OfTake (Some job)) ∷ log) second = ap (λ (ts : List ℕ). t ∷ ts) (taken_append log second)
taken_append (entry ∷ log) second = taken_append log second

pub none_taken_abandoned : (tickets : List Ticket) → tiles_taken (abandoned tickets) ≡ []
none_taken_abandoned [] = refl
none_taken_abandoned (ticket ∷ tickets) = none_taken_abandoned tickets

-- what one part of a list of events takes, the whole takes
pub taken_first : (first second : List Entry) (t : ℕ) → IsTakenIn first t → IsTakenIn (first ++ second) t
taken_first first second t taken =
    rw (taken_append first second) (Contains-append_left (tiles_taken first) (tiles_taken second) t taken)

pub taken_second : (first second : List Entry) (t : ℕ) → IsTakenIn second t → IsTakenIn (first ++ second) t
taken_second first second t taken =
    rw (taken_append first second) (Contains-append_right (tiles_taken first) (tiles_taken second) t taken)

run_leaves : EdgesAreOpen → (before after : Core) (log : List Entry) (t : ℕ) → IsSound before → IsTile before t
    → IsRun before log after → (IsTakenIn log t → ⊥) → Leaves before after t
run_leaves edges_open before after [] t sound is_tile same untaken = rw same (leaves_all before t)
run_leaves edges_open before after ((event, answer) ∷ log) t sound is_tile (next, happens, run) untaken =
    let entry : List Entry = (event, answer) ∷ [] in
    let first = event_leaves before next event answer t sound is_tile happens
    (λ taken. untaken (taken_first entry log t taken)) in
    let next_sound = event_keeps_sound edges_open before next event answer sound happens in
    let rest = run_leaves edges_open next after log t next_sound (omega (arith, is_tile, first.count)) run
    (λ taken. untaken (taken_second entry log t taken)) in
    leaves_on before next after t first rest

pub run_shows : EdgesAreOpen → (before after : Core) (log : List Entry) → IsSound before → IsRun before log after
    → (t : ℕ) → (work_at before t).out ≡ None → IsPassedOver log after t → ShowsTheSame before after t
run_shows edges_open before after log sound run t none passed p in_tile =
    let is_tile = tile_of_pixel_is_tile before t p sound.shape in_tile in
    let left = run_leaves edges_open before after log t sound is_tile run passed.untaken in
    left.shows none (λ dirty. passed.clean (omega (arith, is_tile, left.count), dirty)) p in_tile

pub merge_shows : (before after : Core) (delta : State) (turnover : Turnover) → IsMerged before delta turnover after
    → (t : ℕ) → IsTile before t → (IsDirty after t → ⊥) → ShowsTheSame before after t
merge_shows before after delta turnover merged t is_tile clean =
    clean_shows before after delta turnover t merged is_tile
    (λ dirty. clean (omega (arith, is_tile, merged.count), dirty))

-- ---- settling

-- a tile of which a job is out has its ticket
out_is_listed : (k : ℕ) (works : List TileWork) (t serial : ℕ) → t < length works
    → (get_or works t idle).out ≡ Some serial → Contains (tickets_out k works)
    (record { tile = k + t; generation = (get_or works t idle).generation; serial = serial })
out_is_listed k [] t serial within out = absurd (omega (arith, within))
out_is_listed k (work ∷ works) zero serial within out =
    let here : k ≡ k + 0 = omega arith in
    let ticket : ℕ → Ticket = λ n. record { tile = n; generation = work.generation; serial = serial } in
    rw (out, ← here) (in_front (ticket k) (tickets_out (k + 1) works))
out_is_listed k (work ∷ works) (suc t) serial within out =
    let next : k + 1 + t ≡ k + suc t = omega arith in
    let ticket : ℕ → Ticket = λ n.
    record { tile = n; generation = (get_or works t idle).generation; serial = serial } in
    let rest = out_is_listed (k + 1) works t serial (omega (arith, within)) out in
    Contains-append_right (option_to_list (ticket_out k work)) (tickets_out (k + 1) works) (ticket (k + suc t))
    (subst (λ n. Contains (tickets_out (k + 1) works) (ticket n)) next rest)

abandoned_leaves : (before after : Core) (tickets : List Ticket) (t : ℕ) → IsRun before (abandoned tickets) after
    → Leaves before after t
abandoned_leaves before after [] t same = subst (λ c. Leaves before c t) (sym same) (leaves_all before t)
abandoned_leaves before after (ticket ∷ tickets) t (next, was_out, run) =
    leaves_on before next after t (abandon_leaves before next ticket t was_out)
    (abandoned_leaves next after tickets t run)

pub abandoned_count : (before after : Core) (tickets : List Ticket) → IsRun before (abandoned tickets) after
    → length after.tiles ≡ length before.tiles
abandoned_count before after tickets run = (abandoned_leaves before after tickets 0 run).count

-- a tile whose job is abandoned is dirty then
abandoned_is_dirty : (before after : Core) (tickets : List Ticket) (ticket : Ticket)
    → IsRun before (abandoned tickets) after → Contains tickets ticket → IsTrue (work_at after ticket.tile).dirty
abandoned_is_dirty before after [] ticket run there = absurd (none_there ticket there)
abandoned_is_dirty before after (first ∷ tickets) ticket (next, (out, same), run) there =
    elim (in_front_or_rest first tickets ticket there) [
      | inl here ↦
          let work : TileWork = record (work_at before first.tile) { dirty = true; out = None } in
          let dirty : IsTrue (work_at next first.tile).dirty =
          rw (same, work_there before first.tile work out.is_tile) refl in
          rw here at ((abandoned_leaves next after tickets first.tile run).dirty dirty)
      | inr later ↦ abandoned_is_dirty next after tickets ticket run later
    ]

-- a tile that settling does not take, and of which a job was out, is dirty
out_is_dirty : EdgesAreOpen → (before after : Core) (log : List Entry) (t serial : ℕ) → IsSound before
    → IsTile before t → IsSettling before log after → (IsTakenIn log t → ⊥) → (work_at before t).out ≡ Some serial
    → IsTrue (work_at after t).dirty
out_is_dirty edges_open before after log t serial sound is_tile settling untaken out =
    let tickets = tickets_out 0 before.tiles in
    let ticket : Ticket = record { tile = 0 + t; generation = (work_at before t).generation; serial = serial } in
    let zero_more : 0 + t ≡ t = omega arith in
    let cleared : IsTrue (work_at settling.cleared t).dirty =
    rw zero_more at (abandoned_is_dirty before settling.cleared tickets ticket settling.clears
    (out_is_listed 0 before.tiles t serial is_tile out)) in
    let clears = abandoned_leaves before settling.cleared tickets t settling.clears in
    (run_leaves edges_open settling.cleared after settling.work t
    (run_keeps_sound edges_open before settling.cleared (abandoned tickets) sound settling.clears)
    (omega (arith, is_tile, clears.count)) (worked_is_run settling.cleared after settling.work settling.works)
    (λ taken. untaken (rw settling.parts (taken_second (abandoned tickets) settling.work t taken)))).dirty cleared

-- so a tile that is passed over shows what it showed, if it is dirty afterwards where a job of it was out
shows_by_out : EdgesAreOpen → (before after : Core) (log : List Entry) → IsSound before → IsRun before log after
    → (t : ℕ) → IsPassedOver log after t
    → ((serial : ℕ) → IsTile before t → (work_at before t).out ≡ Some serial → IsTrue (work_at after t).dirty)
    → ShowsTheSame before after t
shows_by_out edges_open before after log sound run t passed dirty p in_tile = by_out (work_at before t).out refl where
  by_out : (out : Option ℕ) → (work_at before t).out ≡ out → image_at after p ≡ image_at before p
  by_out None none = run_shows edges_open before after log sound run t none passed p in_tile
  by_out (Some serial) out =
      let is_tile = tile_of_pixel_is_tile before t p sound.shape in_tile in
      let count = (run_leaves edges_open before after log t sound is_tile run passed.untaken).count in
      absurd (passed.clean (omega (arith, is_tile, count), dirty serial is_tile out))

pub settling_shows : EdgesAreOpen → (before after : Core) (log : List Entry) → IsSound before
    → IsSettling before log after → (t : ℕ) → IsPassedOver log after t → ShowsTheSame before after t
settling_shows edges_open before after log sound settling t passed =
    shows_by_out edges_open before after log sound (settling_is_run before after log settling) t passed
    (λ serial is_tile out. out_is_dirty edges_open before after log t serial sound is_tile settling passed.untaken out)

pub cut_short_shows : EdgesAreOpen → (before after : Core) (log : List Entry) → IsSound before
    → IsCutShort before log after → (t : ℕ) → IsPassedOver log after t → ShowsTheSame before after t
cut_short_shows edges_open before after log sound cut t passed =
    let untaken : IsTakenIn cut.done t → ⊥ = λ taken.
    passed.untaken (rw cut.parts (taken_first cut.done (abandoned cut.in_hand) t taken)) in
    shows_by_out edges_open before after log sound (cut_short_is_run before after log cut) t passed
    (λ serial is_tile out. (abandoned_leaves cut.reached after cut.in_hand t cut.drops).dirty
    (out_is_dirty edges_open before cut.reached cut.done t serial sound is_tile cut.settling untaken out))

-- where no job is out there is no ticket
pub no_tickets : (k : ℕ) (works : List TileWork) → ((t : ℕ) → t < length works → (get_or works t idle).out ≡ None)
    → tickets_out k works ≡ []
no_tickets k [] none = refl
no_tickets k (work ∷ works) none =
    ap (λ o. tickets_out k (record work { out = o } ∷ works)) (none 0 (omega arith))
    ∙ no_tickets (k + 1) works (λ t within. none (suc t) (omega (arith, within)))

pub settling_goes_on : (a b c : Core) (first second : List Entry) → IsSettling a first b → NoneOut b
    → IsSettling b second c → IsSettling a (first ++ second) c
settling_goes_on a b c first second one none_out other =
    let tickets = abandoned (tickets_out 0 a.tiles) in
    let none : tickets_out 0 b.tiles ≡ [] = no_tickets 0 b.tiles none_out in
    let same : other.cleared ≡ b = subst (λ ts. IsRun b (abandoned ts) other.cleared) none other.clears in
    let work : second ≡ other.work = other.parts ∙ ap (λ ts. abandoned ts ++ other.work) none in
    record {
      cleared = one.cleared;
      work = one.work ++ other.work;
      clears = one.clears;
      works = work_goes_on one.cleared b c one.work other.work one.works
          (subst (λ m. IsWorkedOff m other.work c) same other.works);
      parts = ap (λ (es : List Entry). es ++ second) one.parts
          ∙ ap (λ (es : List Entry). (tickets ++ one.work) ++ es) work ∙ append_assoc tickets one.work other.work;
    }
