-- A board that settled for a slice is later, and whole.
use Rattle.std.proofs.Common.{◌≡◌, ℕ, ◌≤◌, ◌⊎◌, inl, inr, sym, ◌∙◌, ap, subst, List, Bool, length, arith, Contains}
use Rattle.std.proofs.Common.{◌↔◌, replicate, false, Result, Ok, Err, IfOk, OnOk, OnErr, IsTrue}
use Rattle.std.proofs.lemmas.List.{length-replicate}
use Rattle.byte_devices.specs.Device.{count_after}
use Rattle.grid_core.specs.Tiles.{count_of}
use Rattle.stroke_lattice.specs.State.{State, IsBelow, IsLiveTag}
use Rattle.stroke_lattice.proofs.Joins.{below_itself}
use Rattle.tile_work.specs.TileSet.{Has, HasGained}
use Rattle.core_rules.specs.{Shown.ShowsTheSame, Runs.IsDirty, Runs.IsTakenIn, Runs.NoneOut}
use Rattle.core_rules.specs.Work.{Core, IsQuiet, IsTile, tiling}
use Rattle.reset_core.specs.{Answers.IsSliceInBands, Answers.IsRunCutShort, declared.replica.settling.Slice.Slice}
use Rattle.view_session.specs.Kept.{print_of}
use Rattle.core_rules.proofs.KeptRuns.{Keeps}
use Rattle.page_board.specs.{declared.news.News.News, Marking.AreMarked, Stored.board_of, Stored.IsStored}
use Rattle.page_board.specs.declared.board.PageBoard.TheInside.{Inside as Parts}
use Rattle.page_board.specs.Board.{PageBoard, last_step, HasTurned, HasTurnedIn}
use Rattle.page_board.specs.Growing.{IsSettledFor, IsWorkedOn, IsMoving, IsGrown, quiet_of}
use Rattle.page_board.specs.Later.{HasSameGround, HasSameStroke, IsNewsSince, IsLater}
use Rattle.page_board.proofs.{Grounds.worked_on_keeps, Marked.none_in, Marked.set_decides}
use Rattle.page_board.proofs.{Steps.next_is_later}
use Rattle.page_board.proofs.Wholeness.{same_mask, rises, still_whole}

-- a slice that came to its end, or ended for want of memory, worked on the core, and the set gained the tiles that were
-- swept
worked_on : {E : Type 0} (before after : Core) (jobs : ℕ) (marks swept : List Bool) (answer : Result Slice E)
    → IfOk answer (λ slice. IsSliceInBands before marks jobs slice after swept)
    → OnErr answer (IsRunCutShort before marks after swept) → NoneOut after
    → (worked : IsWorkedOn before jobs after) × HasGained marks (IsTakenIn worked.log) swept
worked_on before after jobs marks swept (Ok slice) done cut none_out = (
  record {
    log = done.run.log;
    run = done.run.run;
    none_merged = done.run.none_merged;
    none_out = none_out;
    ends = inl (omega (arith, done.at_most, done.run.jobs_are));
  },
  done.run.swept,
)
worked_on before after jobs marks swept (Err e) done cut none_out = (
  record {
    log = cut.run.log;
    run = cut.run.run;
    none_merged = cut.run.none_merged;
    none_out = none_out;
    ends = inr cut.some_dirty;
  },
  cut.run.swept,
)

-- the tiles of a set that gained some and then others, where it was empty before
gained_both : (marks swept tiles : List Bool) (P Q : ℕ → Type 0) → ((t : ℕ) → Has marks t → ⊥)
    → HasGained marks P swept → HasGained swept Q tiles → (t : ℕ) → Has tiles t ↔ (P t ⊎ Q t)
gained_both marks swept tiles P Q none first second t = (
  λ has. elim ((second.each t).0 has) [
    | inl there ↦ elim ((first.each t).0 there) [
      | inl marked ↦ absurd (none t marked)
      | inr here ↦ inl here
    ]
    | inr here ↦ inr here
  ],
  λ either. elim either [
    | inl here ↦ (second.each t).1 (inl ((first.each t).1 (inr here)))
    | inr here ↦ (second.each t).1 (inr here)
  ],
)

-- the slice of settling that led from the parts of a board to a core, and to the set of tiles that were swept
pub record IsSliceOf {E : Type 0} (old : Parts) (jobs : ℕ) (core : Core) (swept : List Bool) (answer : Result Slice E)
    : Type 0 where
  pub stored : IsStored old
  pub slice : IfOk answer (λ slice. IsSliceInBands old.core old.marks jobs slice core swept)
  pub cut_short : OnErr answer (IsRunCutShort old.core old.marks core swept)
  pub none_out : NoneOut core
  pub unchanged : (t : ℕ) → (Has swept t → ⊥) → (IsDirty core t → ⊥) → ShowsTheSame old.core core t
  pub count : length core.tiles ≡ count_of (tiling core)

module _ {E : Type 0} (old : Parts) (jobs : ℕ) (core : Core) (swept : List Bool) (answer : Result Slice E)
    (done : IsSliceOf old jobs core swept answer) where
  all_worked_on : (worked : IsWorkedOn old.core jobs core) × HasGained old.marks (IsTakenIn worked.log) swept
  all_worked_on = worked_on old.core core jobs old.marks swept answer done.slice done.cut_short done.none_out

  keeps_parts : Keeps old.core core
  keeps_parts = worked_on_keeps old.core core jobs all_worked_on.0

  same_tiles : tiling core ≡ tiling old.core
  same_tiles = λ i. record {
    width = (keeps_parts.mask i).width;
    height = (keeps_parts.mask i).height;
    side = keeps_parts.side i;
  }

  ground : HasSameGround old.core core
  ground = record {
    mask = keeps_parts.mask;
    conn = keeps_parts.conn;
    side = keeps_parts.side;
    count = done.count ∙ ap count_of same_tiles ∙ sym done.stored.whole.tiles;
  }

  -- the set is over the tiles
  pub swept_room : length swept ≡ length core.tiles
  swept_room =
      all_worked_on.1.count ∙ ap length done.stored.no_marks ∙ length-replicate (length old.core.tiles) false
      ∙ sym ground.count

  -- and over the steps of tiles
  pub marks_room : (tiles : List Bool) (shown : List ℕ) → HasGained swept (IsDirty core) tiles
      → shown ≡ old.shown.items → length tiles ≡ length shown
  marks_room tiles shown gained same =
      gained.count ∙ swept_room ∙ ground.count ∙ sym done.stored.whole.count ∙ ap length (sym same)

-- what a board became that settled for a slice: the set of tiles that were swept gained the dirty ones; these have the
-- step, which is a new one where there are any; and the set was emptied again
pub record HasGrown {E : Type 0} (old : Parts) (jobs : ℕ) (swept tiles : List Bool) (answer : Result Slice E)
    (new : Parts) : Type 0 where
  pub slice : IsSliceOf old jobs new.core swept answer
  pub gained : HasGained swept (IsDirty new.core) tiles
  pub next : (t : ℕ) → Has tiles t → new.step ≡ count_after old.step 1
  pub still : ((t : ℕ) → Has tiles t → ⊥) → new.step ≡ old.step
  pub risen : old.step ≤ new.step
  pub bounded : new.step ≤ last_step
  pub marked : AreMarked tiles new.step old.shown.items new.shown.items
  pub rest : board_of new ≡ record (board_of old) { core = new.core; step = new.step; shown = new.shown.items }
  pub print : new.print ≡ old.print
  pub emptied : new.marks ≡ replicate (length tiles) false

module _ {E : Type 0} {old : Parts} {jobs : ℕ} {swept tiles : List Bool} {answer : Result Slice E} {new : Parts}
    (done : HasGrown old jobs swept tiles answer new) where
  worked : (by : IsWorkedOn old.core jobs new.core) × HasGained old.marks (IsTakenIn by.log) swept
  worked = all_worked_on old jobs new.core swept answer done.slice

  moving : (t : ℕ) → Has tiles t ↔ IsMoving worked.0.log new.core t
  moving =
      gained_both old.marks swept tiles (IsTakenIn worked.0.log) (IsDirty new.core)
      (λ t has. none_in (length old.core.tiles) t (subst (λ (set : List Bool). Has set t) done.slice.stored.no_marks
      has)) worked.1 done.gained

  pub parts_are_grown : IsGrown (board_of old) jobs (board_of new)
  parts_are_grown = record {
    worked = worked.0;
    marked = record {
      count = done.marked.count;
      marked = λ t moves. done.marked.marked t ((moving t).1 moves);
      others = λ t not. done.marked.others t (λ has. not ((moving t).0 has));
    };
    next = λ t moves. done.next t ((moving t).1 moves);
    still = λ none. done.still (λ t has. none t ((moving t).0 has));
    rest = done.rest;
  }

  kept : Keeps old.core new.core
  kept = keeps_parts old jobs new.core swept answer done.slice

  same_ground : HasSameGround old.core new.core
  same_ground = ground old jobs new.core swept answer done.slice

  news_same : new.news.items ≡ old.news.items
  news_same = ap (λ (b : PageBoard). b.news) done.rest

  tiles_later : (t : ℕ) → IsTile old.core t → ShowsTheSame old.core new.core t ⊎ IsNewsSince (board_of new) old.step t
  tiles_later t is_tile = elim (set_decides tiles t) [
    | inl has ↦ inr (rw (done.marked.marked t has)
        (next_is_later old.step new.step last_step (done.next t has) (omega arith)))
    | inr not ↦ inl (done.slice.unchanged t (λ has. not ((done.gained.each t).1 (inl has)))
        (λ dirty. not ((done.gained.each t).1 (inr dirty))))
  ]

  -- the board is later
  pub parts_are_later : IsLater (board_of old) (board_of new)
  parts_are_later = record {
    run = ap (λ (b : PageBoard). b.run) done.rest;
    maxval = ap (λ (b : PageBoard). b.maxval) done.rest;
    ground = same_ground;
    version = omega (arith, ap (λ (b : PageBoard). b.version) done.rest);
    step = done.risen;
    state = subst (λ (s : State). IsBelow old.core.state s) (sym kept.state) (below_itself old.core.state);
    tiles = tiles_later;
    strokes = λ tag. inl (subst (λ (s : State). HasSameStroke old.core.state s tag) (sym kept.state)
        (λ seed. (λ live. live, λ live. live)));
    rises = rises (board_of old) (board_of new) done.slice.stored.whole tiles done.marked done.risen;
    keeps = λ news told. subst (λ (all : List News). Contains all news) (sym news_same) told;
  }

  told : (tag : ℕ) → IsLiveTag new.core.state tag → HasTurned (board_of new) 0 tag
  told tag live =
      subst (λ (all : List News). HasTurnedIn all 0 tag) (sym news_same)
      (done.slice.stored.whole.told tag (subst (λ (s : State). IsLiveTag s tag) kept.state live))

  -- and stored
  pub parts_are_stored : IsStored new
  parts_are_stored = record {
    whole = still_whole (board_of old) (board_of new) done.slice.stored.whole tiles done.marked done.risen same_ground
        parts_are_later.maxval
        (omega (arith, ap (λ (b : PageBoard). b.version) done.rest, done.slice.stored.whole.version)) done.bounded told;
    print = done.print ∙ done.slice.stored.print ∙ ap print_of
        (sym (same_mask (board_of old) (board_of new) same_ground parts_are_later.maxval));
    no_marks = done.emptied ∙ ap (λ (n : ℕ). replicate n false)
        (done.gained.count ∙ swept_room old jobs new.core swept answer done.slice);
  }

-- ---- what is told of a slice

-- where it came to its end, the core settled for so many jobs
pub settled_when : {E : Type 0} (before after : Core) (jobs : ℕ) (marks swept : List Bool) (answer : Result Slice E)
    → IfOk answer (λ slice. IsSliceInBands before marks jobs slice after swept) → NoneOut after
    → OnOk (quiet_of answer) (IsSettledFor before jobs after)
settled_when before after jobs marks swept (Ok slice) done none_out = record {
  log = done.run.log;
  run = done.run.run;
  none_merged = done.run.none_merged;
  each_out = omega (arith, done.each_out, done.run.abandons_are);
  none_out = none_out;
  at_most = omega (arith, done.at_most, done.run.jobs_are);
  to_the_end = λ fewer. done.to_the_end (omega (arith, fewer, done.run.jobs_are));
}
settled_when before after jobs marks swept (Err e) done none_out = done

-- and it tells whether no work is left
pub quiet_told : {E : Type 0} (before after : Core) (jobs : ℕ) (marks swept : List Bool) (answer : Result Slice E)
    → IfOk answer (λ slice. IsSliceInBands before marks jobs slice after swept)
    → IfOk (quiet_of answer) (λ quiet. IsTrue quiet ↔ IsQuiet after)
quiet_told before after jobs marks swept (Ok slice) done = done.quiet
quiet_told before after jobs marks swept (Err e) done = done

-- where it ended for want of memory, something holds of it that holds there
pub where_cut : {E : Type 0} (P : Type 0) (answer : Result Slice E) → OnErr answer P → OnErr (quiet_of answer) P
where_cut P (Ok slice) holds = holds
where_cut P (Err e) holds = holds
