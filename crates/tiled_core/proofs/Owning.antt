-- Jobs stay a core's own, whatever happens to it.
use Rattle.std.proofs.Common.{◌≡◌, ◌≢◌, ℕ, zero, suc, ◌+◌, ◌-◌, ◌%◌, ◌^◌, ◌<◌, ◌≤◌, true, false, List, [], ◌∷◌, length}
use Rattle.std.proofs.Common.{refl, sym, ◌∙◌, ap, subst, arith, inl, inr, ◌⊎◌, IsTrue, Option, Some, None, remove}
use Rattle.std.proofs.Common.{unwrap_or}
use Rattle.std.proofs.lemmas.Bool.{cases_eq, cases_Bool, false≢true}
use Rattle.std.proofs.lemmas.{List.length-set}
use Rattle.grid_core.specs.{declared.pixel.Pixel.Pixel, declared.rect.Rect.Rect, Raster.IsInside}
use Rattle.grid_core.specs.{Rects.in_image, Rects.IsPart, Rects.IsAtMostPart}
use Rattle.grid_core.specs.Tiles.{Tiles, count_of, tile_of, rect_of}
use Rattle.grid_core.proofs.{Tilings.each_pixel_in_one_tile, Tilings.tile_pixels, Pixels.same_pixel_or_not}
use Rattle.stroke_lattice.specs.{State.State, Change.Turnover}
use Rattle.border_queues.specs.{declared.hint.Hint.Hint, TileWork.TileWork, Laws.EdgesAreOpen}
use Rattle.tile_generations.specs.{declared.ticket.Ticket.Ticket, Jobs.Job, Jobs.Swept}
use Rattle.core_rules.specs.declared.answers.Back.TheVariants.{Joined, Again, Stale, Stranger}
use Rattle.core_rules.specs.{declared.answers.Handed.Handed, Hits.IsInTile, Merge.IsMerged, Invariant.IsSound}
use Rattle.core_rules.specs.declared.answers.Handed.TheVariants.{Raised, Same, Stale as Old, Nothing}
use Rattle.core_rules.specs.Work.{Core, tiling, image_at, IsTile, work_at, with_work}
use Rattle.core_rules.specs.Hints.{hint_at, IsPresent, without_hint, raised, IsHanded}
use Rattle.core_rules.specs.Sweeps.{tile_rect, IsReady, taken, IsTaken, IsOut, IsKnown, IsUnchanged, HasOnlyRisen}
use Rattle.core_rules.specs.Sweeps.{IsJoined, IsSkipped}
use Rattle.core_rules.specs.Events.{Event, Answer, Happens, Merge, Take, GiveBack, Abandon, Hand, OfMerge, OfTake}
use Rattle.core_rules.specs.Events.{OfGiveBack, OfAbandon, OfHand}
use Rattle.core_rules.specs.{Runs.Entry, Runs.IsRun, Runs.NoneOut, Runs.jobs_of, Shown.ShowsTheSame}
use Rattle.core_rules.proofs.Cores.{work_there, work_elsewhere, inside_image}
use Rattle.core_rules.proofs.Handing.{hint_of_tile, home_is_tile, home_dirty, at_home, elsewhere}
use Rattle.core_rules.proofs.{Leaving.merge_shows, Removals.taken_was_there, Running.event_keeps_sound}
use Rattle.core_rules.proofs.PassingOver.{work_back, work_is_back, same_work, pass_keeps_sound}
use Rattle.reset_core.specs.Answers.{IsJoinable}
use Rattle.tiled_core.specs.{Owning.IsOwn, Passing.ArePassed, Passing.ArePassedUntil}

-- ---- what stays at the tile of a job that is out

-- mask, connectivity and tiles stay, and at the tile the generation and the job that is out; the tile is dirty where it
-- was; no pixel of it falls; and if it is not dirty, it shows what it showed
record Stays (before after : Core) (t : ℕ) : Type 0 where
  mask : after.mask ≡ before.mask
  conn : after.conn ≡ before.conn
  same_tiling : tiling after ≡ tiling before
  count : length after.tiles ≡ length before.tiles
  generation : (work_at after t).generation ≡ (work_at before t).generation
  out : (work_at after t).out ≡ (work_at before t).out
  dirty : IsTrue (work_at before t).dirty → IsTrue (work_at after t).dirty
  rises : (p : Pixel) → IsInTile (tiling before) t p → image_at before p ≤ image_at after p
  shows : (IsTrue (work_at after t).dirty → ⊥) → ShowsTheSame before after t

all_stays : (core : Core) (t : ℕ) → Stays core core t
all_stays core t = record {
  mask = refl;
  conn = refl;
  same_tiling = refl;
  count = refl;
  generation = refl;
  out = refl;
  dirty = λ dirty. dirty;
  rises = λ p in_tile. omega arith;
  shows = λ clean p in_tile. refl;
}

-- a job that is out afterwards was out before
was_out : (before after : Core) (ticket : Ticket) → Stays before after ticket.tile → IsOut after ticket
    → IsOut before ticket
was_out before after ticket stays out = record {
  is_tile = omega (arith, out.is_tile, stays.count);
  generation = sym stays.generation ∙ out.generation;
  out = sym stays.out ∙ out.out;
}

-- a pixel of the tile's rectangle is one of the tile
in_its_tile : (core : Core) (t : ℕ) (p : Pixel) → IsSound core → IsTile core t
    → IsInside (tile_rect core t).w (tile_rect core t).h p → IsInTile (tiling core) t (in_image (tile_rect core t) p)
in_its_tile core t p sound is_tile inside =
    let within : t < count_of (tiling core) = omega (arith, is_tile, sound.shape.tiles) in
    let place = in_image (tile_rect core t) p in
    let found = (tile_pixels (tiling core) t place sound.shape.tiled within).1 (p, inside, refl) in
    record { inside = found.0; tile = found.1 }

module _ (before after : Core) (job : Job) (sound : IsSound before) (stays : Stays before after job.ticket.tile)
    (known : IsKnown before job) where
  -- what holds in the tile's rectangle as it was holds in it as it is
  in_rect : (P : Rect → Type 0) → P (tile_rect before job.ticket.tile) → P (tile_rect after job.ticket.tile)
  in_rect P was = subst (λ (tiles : Tiles). P (rect_of tiles job.ticket.tile)) (sym stays.same_tiling) was

  known_after : IsKnown after job
  known_after = record {
    is_tile = omega (arith, known.is_tile, stays.count);
    mask = in_rect (λ rect. IsPart rect after.mask job.mask)
        (subst (λ mask. IsPart (tile_rect before job.ticket.tile) mask job.mask) (sym stays.mask) known.mask);
    conn = known.conn ∙ sym stays.conn;
    generation = omega (arith, known.generation, stays.generation);
  }

  -- a tile whose pixels were nowhere below the base is so still
  risen_after : IsTrue (work_at after job.ticket.tile).dirty
      → IsAtMostPart (tile_rect before job.ticket.tile) before.image job.base → HasOnlyRisen after job
  risen_after dirty base = record {
    dirty = dirty;
    base = in_rect (λ rect. IsAtMostPart rect after.image job.base) (record {
      width = base.width;
      height = base.height;
      filled = base.filled;
      values = λ p inside.
          let in_tile = in_its_tile before job.ticket.tile p sound known.is_tile inside in
          let place = in_image (tile_rect before job.ticket.tile) p in
          omega (arith, base.values p inside, stays.rises place in_tile);
    });
  }

  at_most : IsPart (tile_rect before job.ticket.tile) before.image job.base
      → IsAtMostPart (tile_rect before job.ticket.tile) before.image job.base
  at_most base = record {
    width = base.width;
    height = base.height;
    filled = base.filled;
    values = λ p inside. omega (arith, base.values p inside);
  }

  -- a tile that shows its base, and is not dirty, shows it still
  unchanged_after : (work_at after job.ticket.tile).dirty ≡ false
      → IsPart (tile_rect before job.ticket.tile) before.image job.base → IsUnchanged after job
  unchanged_after clean base = record {
    clean = clean;
    base = in_rect (λ rect. IsPart rect after.image job.base) (record {
      width = base.width;
      height = base.height;
      filled = base.filled;
      values = λ p inside.
          let in_tile = in_its_tile before job.ticket.tile p sound known.is_tile inside in
          let place = in_image (tile_rect before job.ticket.tile) p in
          base.values p inside ∙ sym (stays.shows (λ dirty. false≢true (sym clean ∙ dirty)) place in_tile);
    });
  }

  base_after : IsUnchanged before job ⊎ HasOnlyRisen before job → IsUnchanged after job ⊎ HasOnlyRisen after job
  base_after (inl unchanged) = elim (cases_Bool (work_at after job.ticket.tile).dirty) [
    | inl dirty ↦ inr (risen_after dirty (at_most unchanged.base))
    | inr clean ↦ inl (unchanged_after clean unchanged.base)
  ]
  base_after (inr risen) = inr (risen_after (stays.dirty risen.dirty) risen.base)

-- so a job that could be joined and is still out can be joined still
joinable_after : (before after : Core) (job : Job) → IsSound before → Stays before after job.ticket.tile
    → IsOut after job.ticket → IsJoinable before job → IsJoinable after job
joinable_after before after job sound stays out joinable = record {
  known = known_after before after job sound stays joinable.known;
  out = out;
  base = base_after before after job sound stays joinable.known joinable.base;
}

-- the jobs of the first event, and those of the others
jobs_apart : (entry : Entry) (log : List Entry) → jobs_of (entry ∷ log) ≡ jobs_of (entry ∷ []) + jobs_of log
jobs_apart (Take t, OfTake (Some job)) log = omega arith
jobs_apart (event, answer) log = omega arith

-- ---- one event

-- a part of the work at a tile stays where it stays at the tile that gets other work
part_same : {X : Type 0} (core : Core) (u : ℕ) (work : TileWork) (t : ℕ) (f : TileWork → X) → IsTile core u
    → (t ≡ u → f work ≡ f (work_at core u)) → f (work_at (with_work core u work) t) ≡ f (work_at core t)
part_same core u work t f is_tile same = elim (cases_eq t u) [
  | inl here ↦ rw here (ap f (work_there core u work is_tile) ∙ same here)
  | inr other ↦ ap f (work_elsewhere core u t work other)
]

work_stays : (core : Core) (u : ℕ) (work : TileWork) (serial t : ℕ) → IsTile core u
    → (t ≡ u → work.generation ≡ (work_at core u).generation) → (t ≡ u → work.out ≡ (work_at core u).out)
    → (t ≡ u → IsTrue (work_at core u).dirty → IsTrue work.dirty)
    → Stays core (record (with_work core u work) { serial = serial }) t
work_stays core u work serial t is_tile generation out dirty = record {
  mask = refl;
  conn = refl;
  same_tiling = refl;
  count = length-set core.tiles u work;
  generation = part_same core u work t (λ (w : TileWork). w.generation) is_tile generation;
  out = part_same core u work t (λ (w : TileWork). w.out) is_tile out;
  dirty = λ was. elim (cases_eq t u) [
    | inl here ↦
        rw (here, work_there core u work is_tile)
        (dirty here (subst (λ v. IsTrue (work_at core v).dirty) here was))
    | inr other ↦ subst (λ (w : TileWork). IsTrue w.dirty) (sym (work_elsewhere core u t work other)) was
  ];
  rises = λ p in_tile. omega arith;
  shows = λ clean p in_tile. refl;
}

-- a job that is out after a take, and has another serial than the one that was taken, is of another tile
take_stays : (before : Core) (u : ℕ) (ticket : Ticket) → IsReady before u → ticket.serial ≢ before.serial
    → IsOut (taken before u) ticket → Stays before (taken before u) ticket.tile
take_stays before u ticket ready other_serial out =
    let work : TileWork = record (work_at before u) { dirty = false; out = Some before.serial } in
    let other : ticket.tile ≡ u → ⊥ = λ here.
    let there = work_there before u work ready.is_tile in
    let its : Some before.serial ≡ Some ticket.serial =
    ap (λ (w : TileWork). w.out) (sym there) ∙ ap (λ v. (work_at (with_work before u work) v).out) (sym here)
    ∙ out.out in
    let same : before.serial ≡ ticket.serial = ap (λ (serial : Option ℕ). unwrap_or serial 0) its in
    other_serial (sym same) in
    work_stays before u work ((before.serial + 1) % 2 ^ 64) ticket.tile ready.is_tile (λ here. absurd (other here))
    (λ here. absurd (other here)) (λ here was. absurd (other here))

-- the core once the job of a tile is abandoned
abbrev without_job : Core → ℕ → Core
without_job core u = with_work core u (record (work_at core u) { dirty = true; out = None })

abandon_stays : (before : Core) (u : ℕ) (ticket : Ticket) → IsTile before u → IsOut (without_job before u) ticket
    → Stays before (without_job before u) ticket.tile
abandon_stays before u ticket is_tile out =
    let work : TileWork = record (work_at before u) { dirty = true; out = None } in
    let other : ticket.tile ≡ u → ⊥ = λ here.
    let there = work_there before u work is_tile in
    let its : None ≡ Some ticket.serial =
    ap (λ (w : TileWork). w.out) (sym there) ∙ ap (λ v. (work_at (without_job before u) v).out) (sym here)
    ∙ out.out in
    absurd cc in
    work_stays before u work before.serial ticket.tile is_tile (λ here. absurd (other here))
    (λ here. absurd (other here)) (λ here was. refl)

lost_stays : (before : Core) (u i t : ℕ) → IsTile before u → Stays before (without_hint before u i) t
lost_stays before u i t is_tile =
    let work : TileWork = record (work_at before u) { inbox = remove (work_at before u).inbox i } in
    work_stays before u work before.serial t is_tile (λ here. refl) (λ here. refl) (λ here was. was)

raised_stays : (before : Core) (u i t : ℕ) (hint : Hint) → IsSound before → hint_at before u i ≡ Some hint
    → IsPresent before hint → image_at before hint.to_pixel < hint.value
    → Stays before (raised (without_hint before u i) hint) t
raised_stays before u i t hint sound there present above =
    let is_tile = hint_of_tile before u i hint there in
    let valid = sound.hints u hint is_tile (taken_was_there (work_at before u).inbox i hint there) in
    let lost = without_hint before u i in
    let home = tile_of (tiling before) hint.to_pixel in
    let after = raised lost hint in
    let work : TileWork = record (work_at lost home) { dirty = true } in
    let first = lost_stays before u i t is_tile in
    let marked = work_stays lost home work lost.serial t (home_is_tile before sound u i hint there valid)
    (λ here. refl) (λ here. refl) (λ here was. refl) in
    record {
      mask = refl;
      conn = refl;
      same_tiling = refl;
      count = marked.count ∙ first.count;
      generation = marked.generation ∙ first.generation;
      out = marked.out ∙ first.out;
      dirty = λ dirty. marked.dirty (first.dirty dirty);
      rises = λ p in_tile. elim (same_pixel_or_not p hint.to_pixel) [
        | inl same ↦
            let e = at_home before sound u i hint there valid present above in
            let rose : image_at before hint.to_pixel ≤ image_at after hint.to_pixel = omega (arith, e, above) in
            subst (λ (q : Pixel). image_at before q ≤ image_at after q) (sym same) rose
        | inr other ↦
            let e = elsewhere before sound u i hint there valid present above p in_tile.inside other in
            omega (arith, e)
      ];
      shows = λ clean p in_tile.
          elsewhere before sound u i hint there valid present above p in_tile.inside (λ same.
          let here : home ≡ t = ap (tile_of (tiling before)) (sym same) ∙ in_tile.tile in
          clean (subst (λ v. IsTrue (work_at (raised (without_hint before u i) hint) v).dirty) here
          (home_dirty before sound u i hint there valid present above)));
    }

hand_stays : (before after : Core) (u i t : ℕ) (handed : Handed) → IsSound before → IsHanded before u i handed after
    → Stays before after t
hand_stays before after u i t Nothing sound (none, same) =
    subst (λ c. Stays before c t) (sym same) (all_stays before t)
hand_stays before after u i t Old sound (hint, there, old, same) =
    subst (λ c. Stays before c t) (sym same) (lost_stays before u i t (hint_of_tile before u i hint there))
hand_stays before after u i t Same sound (hint, there, present, enough, same) =
    subst (λ c. Stays before c t) (sym same) (lost_stays before u i t (hint_of_tile before u i hint there))
hand_stays before after u i t Raised sound (hint, there, present, above, same) =
    subst (λ c. Stays before c t) (sym same) (raised_stays before u i t hint sound there present above)

-- a job that is out after a swept tile is joined is of another tile, whose pixels stay
joined_stays : (before after : Core) (swept : Swept) (ticket : Ticket) → IsSound before
    → IsTile before swept.job.ticket.tile → IsJoined before swept after → IsOut after ticket
    → Stays before after ticket.tile
joined_stays before after swept ticket sound own_is_tile joined out =
    let own = swept.job.ticket.tile in
    let t = ticket.tile in
    let is_tile : IsTile before t = omega (arith, out.is_tile, joined.count) in
    let other : t ≢ own = λ here.
    let its : None ≡ Some ticket.serial =
    ap (λ (w : TileWork). w.out) (sym joined.own) ∙ ap (λ v. (work_at after v).out) (sym here) ∙ out.out in
    absurd cc in
    let work = joined.others t is_tile other in
    let within : own < count_of (tiling before) = omega (arith, own_is_tile, sound.shape.tiles) in
    let same : ShowsTheSame before after t = λ p in_tile.
    let in_one = each_pixel_in_one_tile (tiling before) p sound.shape.tiled in_tile.inside in
    joined.image.beyond p (inside_image before p sound.shape in_tile.inside)
    (λ found. other (sym in_tile.tile ∙ (in_one.1 own within).0 found)) in
    record {
      mask = ap (λ (core : Core). core.mask) joined.rest;
      conn = ap (λ (core : Core). core.conn) joined.rest;
      same_tiling = ap tiling joined.rest;
      count = joined.count;
      generation = ap (λ (w : TileWork). w.generation) work;
      out = ap (λ (w : TileWork). w.out) work;
      dirty = λ was. subst (λ (w : TileWork). IsTrue w.dirty) (sym work) was;
      rises = λ p in_tile. let e = same p in_tile in omega (arith, e);
      shows = λ clean. same;
    }

-- a job that is out after a merge is of a tile that is kept, since no job of a tile that is reset is out
merge_stays : (before after : Core) (delta : State) (turnover : Turnover) (ticket : Ticket)
    → IsMerged before delta turnover after → IsOut after ticket → Stays before after ticket.tile
merge_stays before after delta turnover ticket merged out =
    let t = ticket.tile in
    let is_tile : IsTile before t = omega (arith, out.is_tile, merged.count) in
    elim (merged.each t is_tile) [
      | inl (hit, reset) ↦
          let its : None ≡ Some ticket.serial = ap (λ (w : TileWork). w.out) (sym reset.work) ∙ out.out in
          absurd cc
      | inr (spared, kept) ↦ record {
        mask = ap (λ (core : Core). core.mask) merged.rest;
        conn = ap (λ (core : Core). core.conn) merged.rest;
        same_tiling = ap tiling merged.rest;
        count = merged.count;
        generation = ap (λ (w : TileWork). w.generation) kept.work;
        out = ap (λ (w : TileWork). w.out) kept.work;
        dirty = λ was. kept.dirty.1 (inl was);
        rises = λ p in_tile. let e = kept.image p in_tile in omega (arith, e);
        shows = λ clean.
            merge_shows before after delta turnover merged t is_tile (λ is_dirty. clean is_dirty.1);
      }
    ]

-- an event that takes no job
event_stays : (before after : Core) (event : Event) (answer : Answer) (ticket : Ticket) → IsSound before
    → Happens before event answer after → jobs_of ((event, answer) ∷ []) ≡ 0 → IsOut after ticket
    → Stays before after ticket.tile
event_stays before after (Merge delta) (OfMerge turnover) ticket sound merged none_taken out =
    merge_stays before after delta turnover ticket merged out
event_stays before after (Take u) (OfTake None) ticket sound (unready, same) none out =
    subst (λ c. Stays before c ticket.tile) (sym same) (all_stays before ticket.tile)
event_stays before after (Take u) (OfTake (Some job)) ticket sound taking none out = absurd (omega (arith, none))
event_stays before after (GiveBack swept) (OfGiveBack Joined) ticket sound (is_swept, given) none_taken out =
    joined_stays before after swept ticket sound given.0.is_tile given.3 out
event_stays before after (GiveBack swept) (OfGiveBack Again) ticket sound (is_swept, given) none_taken out =
    joined_stays before after swept ticket sound given.0.is_tile given.3 out
event_stays before after (GiveBack swept) (OfGiveBack Stale) ticket sound (is_swept, (known, gone, same)) none_taken
    out =
    subst (λ c. Stays before c ticket.tile) (sym same) (all_stays before ticket.tile)
event_stays before after (GiveBack swept) (OfGiveBack Stranger) ticket sound (is_swept, (why, same)) none_taken out =
    subst (λ c. Stays before c ticket.tile) (sym same) (all_stays before ticket.tile)
event_stays before after (Abandon other) (OfAbandon true) ticket sound (there, same) none_taken out =
    subst (λ c. Stays before c ticket.tile) (sym same)
    (abandon_stays before other.tile ticket there.is_tile (subst (λ c. IsOut c ticket) same out))
event_stays before after (Abandon other) (OfAbandon false) ticket sound (gone, same) none_taken out =
    subst (λ c. Stays before c ticket.tile) (sym same) (all_stays before ticket.tile)
event_stays before after (Hand u place) (OfHand handed) ticket sound is_handed none_taken out =
    hand_stays before after u place ticket.tile handed sound is_handed
event_stays before after _ _ ticket sound happens none_taken out = absurd happens

-- ---- own jobs

-- a job stays the core's own where what is at its tile stays, if it is out
own_stays : (before after : Core) (job : Job) → IsSound before
    → (IsOut after job.ticket → Stays before after job.ticket.tile) → IsOwn before job → IsOwn after job
own_stays before after job sound stays own out =
    joinable_after before after job sound (stays out) out (own (was_out before after job.ticket (stays out) out))

-- the events take no job
pub run_keeps_own : EdgesAreOpen → (before after : Core) (log : List Entry) (job : Job) → IsSound before
    → IsRun before log after → jobs_of log ≡ 0 → IsOwn before job → IsOwn after job
run_keeps_own edges_open before after [] job sound same none own = subst (λ core. IsOwn core job) (sym same) own
run_keeps_own edges_open before after ((event, answer) ∷ log) job sound (next, happens, run) none own =
    let apart = jobs_apart (event, answer) log in
    run_keeps_own edges_open next after log job (event_keeps_sound edges_open before next event answer sound happens)
    run (omega (arith, none, apart))
    (own_stays before next job sound
    (event_stays before next event answer job.ticket sound happens (omega (arith, none, apart))) own)

-- another job is taken
pub take_keeps_own : (before after : Core) (t : ℕ) (new job : Job) → IsSound before
    → IsTaken before t (Some new) after → job.ticket.serial ≢ new.ticket.serial → IsOwn before job → IsOwn after job
take_keeps_own before after t new job sound (ready, next, same) other own =
    let serial : new.ticket.serial ≡ before.serial = ap (λ (ticket : Ticket). ticket.serial) next.ticket in
    own_stays before after job sound
    (λ out. subst (λ c. Stays before c job.ticket.tile) (sym same)
    (take_stays before t job.ticket ready (λ e. other (e ∙ sym serial)) (subst (λ c. IsOut c job.ticket) same out)))
    own

-- the job that is taken is the core's own
pub taken_is_own : (before after : Core) (t : ℕ) (job : Job) → IsTaken before t (Some job) after → IsOwn after job
taken_is_own before after t job (ready, next, same) =
    let work : TileWork = record (work_at before t) { dirty = false; out = Some before.serial } in
    let tile : job.ticket.tile ≡ t = ap (λ (ticket : Ticket). ticket.tile) next.ticket in
    let serial : job.ticket.serial ≡ before.serial = ap (λ (ticket : Ticket). ticket.serial) next.ticket in
    let generation : job.ticket.generation ≡ (work_at before t).generation =
    ap (λ (ticket : Ticket). ticket.generation) next.ticket in
    let there : work_at (taken before t) t ≡ work = work_there before t work ready.is_tile in
    let is_tile : IsTile (taken before t) t = omega (arith, ready.is_tile, length-set before.tiles t work) in
    let At : ℕ → Type 0 = λ u.
    IsTile (taken before t) u × (work_at (taken before t) u ≡ work)
    × IsPart (tile_rect before u) before.image job.base × IsPart (tile_rect before u) before.mask job.mask in
    let at : At job.ticket.tile = subst At (sym tile) (is_tile, there, next.base, next.mask) in
    let same_generation : (work_at (taken before t) job.ticket.tile).generation ≡ job.ticket.generation =
    ap (λ (w : TileWork). w.generation) at.1 ∙ sym generation in
    let joinable : IsJoinable (taken before t) job = record {
      known = record {
        is_tile = at.0;
        mask = at.3;
        conn = next.conn;
        generation = omega (arith, same_generation);
      };
      out = record {
        is_tile = at.0;
        generation = same_generation;
        out = ap (λ (w : TileWork). w.out) at.1 ∙ ap (λ n. Some n) (sym serial);
      };
      base = inl (record { clean = ap (λ (w : TileWork). w.dirty) at.1; base = at.2 });
    } in
    subst (λ core. IsOwn core job) (sym same) (λ out. joinable)

-- no job is out
pub none_out_is_own : (core : Core) (job : Job) → NoneOut core → IsOwn core job
none_out_is_own core job none out =
    let its : None ≡ Some job.ticket.serial = sym (none job.ticket.tile out.is_tile) ∙ out.out in absurd cc

-- ---- tiles that are passed over

serial_stays : (core : Core) (serial t : ℕ) → Stays core (record core { serial = serial }) t
serial_stays core serial t = record {
  mask = refl;
  conn = refl;
  same_tiling = refl;
  count = refl;
  generation = refl;
  out = refl;
  dirty = λ dirty. dirty;
  rises = λ p in_tile. omega arith;
  shows = λ clean p in_tile. refl;
}

-- a serial is spent, and nothing else happens
skip_is : (before after : Core) (t : ℕ) → IsSkipped before t after
    → after ≡ record before { serial = (taken before t).serial }
skip_is before after t skipped =
    let (ready, next, taking) = skipped.is_taken in
    let (there, leaving) = skipped.is_abandoned in
    let tile : skipped.job.ticket.tile ≡ t = ap (λ (ticket : Ticket). ticket.tile) next.ticket in
    leaving ∙ ap (λ u. without_job skipped.between u) tile ∙ ap (λ (core : Core). without_job core t) taking
    ∙ same_work before t (work_back (work_at (taken before t) t)) (work_is_back before t ready)

pub skip_keeps_own : (before after : Core) (t : ℕ) (job : Job) → IsSound before → IsSkipped before t after
    → IsOwn before job → IsOwn after job
skip_keeps_own before after t job sound skipped own =
    let serial = (taken before t).serial in
    let stays = serial_stays before serial job.ticket.tile in
    subst (λ core. IsOwn core job) (sym (skip_is before after t skipped))
    (own_stays before (record before { serial = serial }) job sound (λ out. stays) own)

passes_keep_own : (n from : ℕ) (before after : Core) (job : Job) → IsSound before → ArePassed from n before after
    → IsOwn before job → IsOwn after job
passes_keep_own zero from before after job sound same own = subst (λ core. IsOwn core job) (sym same) own
passes_keep_own (suc n) from before after job sound (between, first, rest) own = elim first [
  | inl skipped ↦
      passes_keep_own n (from + 1) between after job (pass_keeps_sound before between from sound skipped) rest
      (skip_keeps_own before between from job sound skipped own)
  | inr (none, same) ↦
      passes_keep_own n (from + 1) between after job (subst IsSound (sym same) sound) rest
      (subst (λ core. IsOwn core job) (sym same) own)
]

pub passing_keeps_own : (from : ℕ) (answer : Option ℕ) (before after : Core) (job : Job) → IsSound before
    → ArePassedUntil from answer before after → IsOwn before job → IsOwn after job
passing_keeps_own from (Some t) before after job sound (rises, ready, passed) own =
    passes_keep_own (t - from) from before after job sound passed own
passing_keeps_own from None before after job sound passed own =
    passes_keep_own (length before.tiles - from) from before after job sound passed own
