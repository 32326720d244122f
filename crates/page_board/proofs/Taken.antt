-- A board that took a delta is later, and whole.
use Rattle.std.proofs.Common.{◌≡◌, ℕ, ◌<◌, ◌≤◌, ◌⊎◌, inl, inr, sym, ◌∙◌, ap, subst, List, [], ◌∷◌, ◌++◌, length, Bool}
use Rattle.std.proofs.Common.{arith, false, replicate, Contains}
use Rattle.std.proofs.lemmas.List.{length-replicate}
use Rattle.std.proofs.lemmas.List.Elements.{Contains-push, Contains-append_left}
use Rattle.byte_devices.specs.Device.{count_after}
use Rattle.stroke_lattice.specs.{State.State, State.IsLiveTag, Change.Turnover}
use Rattle.tile_work.specs.TileSet.{Has, HasGained}
use Rattle.core_rules.specs.{declared.error.CoreError.CoreError, declared.error.CoreError.TheVariants.Memory}
use Rattle.core_rules.specs.{Laws.MergeChangesDirtyTiles, Merge.IsMerged, Merge.IsRefused, Runs.IsDirty}
use Rattle.core_rules.specs.{Shown.ShowsTheSame, Work.IsTile}
use Rattle.reset_core.specs.Answers.{IsNotMerged}
use Rattle.view_session.specs.Kept.{print_of}
use Rattle.page_board.specs.{declared.board.PageBoard.TheInside.Inside as Parts, declared.news.News.News}
use Rattle.page_board.specs.Board.{PageBoard, last_step, since_in, HasTurned, HasTurnedIn}
use Rattle.page_board.specs.Later.{HasSameGround, HasSameStroke, IsNewsSince, IsLater}
use Rattle.page_board.specs.{Marking.AreMarked, Stored.board_of, Stored.IsStored, Taking.IsTaken}
use Rattle.page_board.proofs.{Grounds.merged_ground, Lives.turned_or_same, Lives.born_or_old, Marked.none_in}
use Rattle.page_board.proofs.{Marked.set_decides, Steps.next_is_later, Wholeness.same_mask, Wholeness.rises}
use Rattle.page_board.proofs.{Wholeness.still_whole}

-- between calls the set of tiles is over those of the core
pub marks_count : (parts : Parts) → IsStored parts → length parts.marks ≡ length parts.core.tiles
marks_count parts stored = ap length stored.no_marks ∙ length-replicate (length parts.core.tiles) false

-- the core took the delta; the set gained the dirty tiles, which were given the new step, and was emptied again
pub record HasTaken (before : Parts) (delta : State) (tiles : List Bool) (after : Parts) : Type 0 where
  pub turnover : Turnover
  pub merged : IsMerged before.core delta turnover after.core
  pub gained : HasGained before.marks (IsDirty after.core) tiles
  pub marked : AreMarked tiles after.step before.shown.items after.shown.items
  pub version : after.version ≡ count_after before.version 1
  pub step : after.step ≡ count_after before.step 1
  pub news : after.news.items ≡ before.news.items ++ record { step = after.step; change = turnover } ∷ []
  pub run : after.run ≡ before.run
  pub maxval : after.maxval ≡ before.maxval
  pub print : after.print ≡ before.print
  pub emptied : after.marks ≡ replicate (length tiles) false

module _ (changes : MergeChangesDirtyTiles) {before : Parts} {delta : State} {tiles : List Bool} {after : Parts}
    (stored : IsStored before) (done : HasTaken before delta tiles after) where
  pub parts_are_taken : IsTaken (board_of before) delta (board_of after)
  parts_are_taken = record {
    turnover = done.turnover;
    merged = done.merged;
    version = done.version;
    step = done.step;
    marked = record {
      count = done.marked.count;
      marked = λ t dirty. done.marked.marked t ((done.gained.each t).1 (inr dirty));
      others = λ t clean. done.marked.others t (λ has. elim ((done.gained.each t).0 has) [
        | inl was ↦ none_in (length before.core.tiles) t (subst (λ (set : List Bool). Has set t) stored.no_marks was)
        | inr dirty ↦ clean dirty
      ]);
    };
    news = done.news;
    rest = λ i. record {
      core = after.core;
      maxval = done.maxval i;
      run = done.run i;
      version = after.version;
      step = after.step;
      shown = after.shown.items;
      news = after.news.items;
    };
  }

  ground : HasSameGround before.core after.core
  ground = merged_ground before.core after.core delta done.turnover done.merged

  later_now : since_in (board_of after) before.step < after.step
  later_now = next_is_later before.step after.step last_step done.step (omega arith)

  risen : before.step ≤ after.step
  risen = omega (arith, done.step, stored.whole.step)

  tiles_later : (t : ℕ) → IsTile before.core t
      → ShowsTheSame before.core after.core t ⊎ IsNewsSince (board_of after) before.step t
  tiles_later t is_tile = elim (set_decides tiles t) [
    | inl has ↦ inr (rw (done.marked.marked t has) later_now)
    | inr not ↦ inl (changes before.core after.core delta done.turnover done.merged t is_tile
        (λ dirty. not ((done.gained.each t).1 (inr dirty))))
  ]

  -- what turned now is told
  told_now : (since tag : ℕ) → since < after.step
      → Contains done.turnover.born tag ⊎ Contains done.turnover.dead tag → HasTurned (board_of after) since tag
  told_now since tag later turned =
      subst (λ (all : List News). HasTurnedIn all since tag) (sym done.news) (record {
        news = record { step = after.step; change = done.turnover };
        told = Contains-push before.news.items (record { step = after.step; change = done.turnover });
        later = later;
        turned = turned;
      })

  strokes_later : (tag : ℕ) → HasSameStroke before.core.state after.core.state tag
      ⊎ HasTurned (board_of after) (since_in (board_of after) before.step) tag
  strokes_later tag = elim (turned_or_same before.core.state delta after.core.state done.turnover done.merged.join
      done.merged.change tag) [
        | inl turned ↦ inr (told_now (since_in (board_of after) before.step) tag later_now turned)
        | inr same ↦ inl same
      ]

  keeps : (news : News) → Contains before.news.items news → Contains after.news.items news
  keeps news told =
      subst (λ (all : List News). Contains all news) (sym done.news)
      (Contains-append_left before.news.items (record { step = after.step; change = done.turnover } ∷ []) news told)

  pub parts_are_later : IsLater (board_of before) (board_of after)
  parts_are_later = record {
    run = done.run;
    maxval = done.maxval;
    ground = ground;
    version = omega (arith, done.version, stored.whole.version);
    step = risen;
    state = done.merged.join.first;
    tiles = tiles_later;
    strokes = strokes_later;
    rises = rises (board_of before) (board_of after) stored.whole tiles done.marked risen;
    keeps = keeps;
  }

  told : (tag : ℕ) → IsLiveTag after.core.state tag → HasTurned (board_of after) 0 tag
  told tag live = elim (born_or_old before.core.state delta after.core.state done.turnover done.merged.join
      done.merged.change tag live) [
        | inl born ↦ told_now 0 tag (omega (arith, done.step)) (inl born)
        | inr was ↦
            let old = stored.whole.told tag was in
            record { news = old.news; told = keeps old.news old.told; later = old.later; turned = old.turned }
      ]

  pub parts_are_stored : IsStored after
  parts_are_stored = record {
    whole = still_whole (board_of before) (board_of after) stored.whole tiles done.marked risen ground done.maxval
        (omega (arith, done.version)) (omega (arith, done.step)) told;
    print = done.print ∙ stored.print
        ∙ ap print_of (sym (same_mask (board_of before) (board_of after) ground done.maxval));
    no_marks = done.emptied
        ∙ ap (λ (n : ℕ). replicate n false) (done.gained.count ∙ marks_count before stored ∙ sym done.merged.count);
  }

-- why its core did not take the delta, want of memory aside, is why the board's core refuses it
pub not_merged_is_told : (parts : Parts) (board : PageBoard) (delta : State) (why : CoreError) → board_of parts ≡ board
    → IsNotMerged parts.core delta why → (why ≡ Memory) ⊎ IsRefused board.core delta why
not_merged_is_told parts board delta why same (inl refused) =
    inr (subst (λ (b : PageBoard). IsRefused b.core delta why) same refused)
not_merged_is_told parts board delta why same (inr wanting) = inl wanting.0
