-- A board as it is opened is whole, and stored as one.
use Rattle.std.proofs.Common.{◌≡◌, ℕ, suc, ◌≤◌, inl, inr, sym, ◌∙◌, ap, subst, List, [], length, false, arith}
use Rattle.std.proofs.Common.{replicate, slice_index}
use Rattle.std.proofs.{lemmas.Bool.Decides.leb_tells, Math.ListN.get_or-eq_default}
use Rattle.std.proofs.lemmas.List.{length-replicate, get_or-replicate}
use Rattle.grid_core.specs.{declared.conn.Conn.Conn, Tiles.IsTileSide, Tiles.count_of}
use Rattle.pgm_codec.specs.Graymap.{Graymap, IsGraymap}
use Rattle.stroke_lattice.proofs.Joins.{nothing_has_no_stroke}
use Rattle.border_queues.specs.TileWork.{fresh}
use Rattle.core_rules.specs.{Opening.opened, Work.Core, Work.tiling}
use Rattle.view_session.specs.Kept.{print_of}
use Rattle.page_board.specs.{declared.board.PageBoard.TheInside.Inside as Parts, declared.news.News.News, Board.mask_of}
use Rattle.page_board.specs.{Board.IsWhole, Opening.opened_board, Stored.board_of, Stored.IsStored}

-- each number of the list is at most 1
ones_at_most : (n t : ℕ) → slice_index (replicate n 1) t ≤ 1
ones_at_most n t = elim (leb_tells (suc t) n) [
  | inl within ↦ rw (get_or-replicate {A = ℕ} n t 1 0 (omega (arith, within.1))) (omega arith)
  | inr beyond ↦
      rw (get_or-eq_default {A = ℕ} (replicate n 1) 0 {n = t}
      (omega (arith, beyond.1, length-replicate {A = ℕ} n 1))) (omega arith)
]

pub opened_is_whole : (mask : Graymap) (conn : Conn) (side run : ℕ) → IsGraymap mask → IsTileSide side
    → IsWhole (opened_board mask conn side run)
opened_is_whole mask conn side run graymap tile_side =
    let core = opened mask.raster conn side 0 in
    record {
      graymap = graymap;
      tiled = record { size = graymap.sized.size; tile_side = tile_side };
      tiles = length-replicate (count_of (tiling core)) (fresh 0);
      count = length-replicate (length core.tiles) 1;
      begun = λ t within. rw (get_or-replicate {A = ℕ} (length core.tiles) t 1 0 within) (omega arith);
      past = ones_at_most (length core.tiles);
      version = omega arith;
      step = omega arith;
      told = λ tag live. absurd (nothing_has_no_stroke tag live.0 live.1.0);
    }

-- the parts of a board that is opened make it
pub opened_is : (mask : Graymap) (conn : Conn) (side run : ℕ) (core : Core) (maxval tiles : ℕ) (shown : List ℕ)
    (news : List News)
    → core ≡ opened mask.raster conn side 0 → maxval ≡ mask.maxval → tiles ≡ count_of (tiling core)
    → length core.tiles ≡ count_of (tiling core) → shown ≡ replicate tiles 1 → news ≡ []
    → (record {
      core = core;
      maxval = maxval;
      run = run;
      version = 0;
      step = 1;
      shown = shown;
      news = news;
    }) ≡ opened_board mask conn side run
opened_is mask conn side run core maxval tiles shown news core_is maxval_is tiles_is count_is shown_is news_is =
    let all : tiles ≡ length (opened mask.raster conn side 0).tiles = tiles_is ∙ sym count_is
    ∙ ap (λ (c : Core). length c.tiles) core_is in
    let ones = shown_is ∙ ap (λ (n : ℕ). replicate n 1) all in
    λ i. record {
      core = core_is i;
      maxval = maxval_is i;
      run = run;
      version = 0;
      step = 1;
      shown = ones i;
      news = news_is i;
    }

-- so they may be stored
pub opened_is_stored : (parts : Parts) (mask : Graymap) (conn : Conn) (side run : ℕ)
    → board_of parts ≡ opened_board mask conn side run → IsGraymap mask → IsTileSide side
    → parts.print ≡ print_of mask → parts.marks ≡ replicate (length parts.core.tiles) false → IsStored parts
opened_is_stored parts mask conn side run same graymap tile_side print marks = record {
  whole = subst IsWhole (sym same) (opened_is_whole mask conn side run graymap tile_side);
  print = print ∙ ap print_of (sym (ap mask_of same));
  no_marks = marks;
}
