-- A board that begins with what a state file keeps is whole, and stored as one; and why there is none.
use Rattle.std.proofs.Common.{◌≡◌, ℕ, ◌⊎◌, inl, inr, sym, ◌∙◌, ap, subst, List, [], length, false, arith, replicate}
use Rattle.std.proofs.Common.{Contains}
use Rattle.std.proofs.lemmas.List.Elements.{Contains-push}
use Rattle.grid_core.specs.{declared.conn.Conn.Conn, Raster.Raster, Tiles.IsTileSide}
use Rattle.pgm_codec.specs.Graymap.{Graymap, IsGraymap}
use Rattle.stroke_lattice.specs.State.{State, IsLiveTag}
use Rattle.stroke_lattice.proofs.Joins.{nothing_has_no_stroke}
use Rattle.spd_codec.specs.{StateFile.IsFileFault, declared.error.SpdError.SpdError}
use Rattle.core_rules.specs.{Opening.opened, Work.Core}
use Rattle.reset_core.specs.Starting.{IsBegunWith}
use Rattle.view_session.specs.Kept.{print_of, FileIsOfAnother, OldIsRefused}
use Rattle.run_faults.specs.{RunError.IsMemory, declared.run_error.RunError.RunError}
use Rattle.page_board.specs.{declared.board.PageBoard.TheInside.Inside as Parts, declared.news.News.News}
use Rattle.page_board.specs.{Board.PageBoard, Board.mask_of, Board.IsWhole, Board.HasTurned, Opening.opened_board}
use Rattle.page_board.specs.{Opening.AreFirstNews, Opening.IsBegunBoard, Stored.board_of, Stored.IsStored}
use Rattle.page_board.proofs.Opened.{opened_is_whole}
use Rattle.spd_codec.specs.declared.error.SpdError.TheVariants as spd
use Rattle.run_faults.specs.declared.run_error.RunError.TheVariants as errors

-- ---- the board

-- each live stroke of the state is told
each_is_told : (board : PageBoard) (state : State) → AreFirstNews state board.news → (tag : ℕ) → IsLiveTag state tag
    → HasTurned board 0 tag
each_is_told board state (turnover, change, only) tag live = record {
  news = record { step = 1; change = turnover };
  told =
      subst (λ (all : List News). Contains all (record { step = 1; change = turnover })) (sym only)
      (Contains-push [] (record { step = 1; change = turnover }));
  later = omega arith;
  turned = inl ((change.born tag).1 (live, λ was. nothing_has_no_stroke tag was.0 was.1.0));
}

module _ (mask : Graymap) (conn : Conn) (side run : ℕ) (state : State) where
  -- the board that is one as it is opened but for strokes, image and news
  abbrev pub begun_board : Raster → List News → PageBoard
  begun_board image news =
      record (opened_board mask conn side run) {
        core = record (opened mask.raster conn side 0) { state = state; image = image };
        version = 1;
        news = news;
      }

  begun_board_is_whole : (image : Raster) (news : List News) → IsGraymap mask → IsTileSide side
      → AreFirstNews state news → IsWhole (begun_board image news)
  begun_board_is_whole image news graymap tile_side first =
      let whole = opened_is_whole mask conn side run graymap tile_side in
      record {
        graymap = graymap;
        tiled = whole.tiled;
        tiles = whole.tiles;
        count = whole.count;
        begun = whole.begun;
        past = whole.past;
        version = omega arith;
        step = omega arith;
        told = each_is_told (begun_board image news) state first;
      }

  pub same_board : (board : PageBoard) → IsBegunBoard mask conn side run state board
      → board ≡ begun_board board.core.image board.news
  same_board board begun =
      begun.rest
      ∙ ap (λ (core : Core). record (opened_board mask conn side run) {
        core = core;
        version = 1;
        news = board.news;
      }) begun.core.core_is

  begun_is_whole : (board : PageBoard) → IsGraymap mask → IsBegunBoard mask conn side run state board → IsWhole board
  begun_is_whole board graymap begun =
      subst IsWhole (sym (same_board board begun))
      (begun_board_is_whole board.core.image board.news graymap begun.core.tile_side begun.news)

  -- the parts of such a board make it
  pub begun_is : (raster : Raster) (core : Core) (maxval tiles : ℕ) (shown : List ℕ) (news : List News)
      → raster ≡ mask.raster → IsBegunWith raster conn side 0 state core → maxval ≡ mask.maxval
      → tiles ≡ length core.tiles → shown ≡ replicate tiles 1 → AreFirstNews state news
      → IsBegunBoard mask conn side run state (record {
        core = core;
        maxval = maxval;
        run = run;
        version = 1;
        step = 1;
        shown = shown;
        news = news;
      })
  begun_is raster core maxval tiles shown news raster_is begins maxval_is tiles_is shown_is first =
      let begun : IsBegunWith mask.raster conn side 0 state core =
      subst (λ (r : Raster). IsBegunWith r conn side 0 state core) raster_is begins in
      let count : tiles ≡ length (opened mask.raster conn side 0).tiles =
      tiles_is ∙ ap (λ (c : Core). length c.tiles) begun.core_is in
      let ones = shown_is ∙ ap (λ (n : ℕ). replicate n 1) count in
      record {
        core = begun;
        news = first;
        rest = λ i. record {
          core = core;
          maxval = maxval_is i;
          run = run;
          version = 1;
          step = 1;
          shown = ones i;
          news = news;
        };
      }

  -- so they may be stored
  pub begun_is_stored : (parts : Parts) → IsBegunBoard mask conn side run state (board_of parts) → IsGraymap mask
      → parts.print ≡ print_of mask → parts.marks ≡ replicate (length parts.core.tiles) false → IsStored parts
  begun_is_stored parts begun graymap print marks = record {
    whole = begun_is_whole (board_of parts) graymap begun;
    print = print ∙ ap print_of (sym (ap mask_of (same_board (board_of parts) begun)));
    no_marks = marks;
  }

-- ---- what is refused

-- why the frames of a mask's fingerprint were not read is why no board is opened over them
pub bytes_refused : (conn : Conn) (print old : List ℕ) (mask : Graymap) (e : RunError) → print ≡ print_of mask
    → (e ≡ errors.Spd spd.Memory) ⊎ ((why : SpdError) × (e ≡ errors.Spd why) × IsFileFault old why)
    ⊎ ((e ≡ errors.OtherMask) × FileIsOfAnother conn print old) → IsMemory e ⊎ OldIsRefused conn old [] mask e
bytes_refused conn print old mask e same (inl memory) = inl (inr (inr (inr (inr memory))))
bytes_refused conn print old mask e same (inr (inl fault)) = inr (inl fault)
bytes_refused conn print old mask e same (inr (inr (is, another))) =
    inr (inr (inl (is, subst (λ (p : List ℕ). FileIsOfAnother conn p old) same another)))
