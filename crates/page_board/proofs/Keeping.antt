-- What bytes of state files keep of boards, and what boards have of them.
use Rattle.std.proofs.Common.{◌≡◌, ℕ, List, [], ◌∷◌, sym, subst}
use Rattle.std.specs.List.{AllByRecursion}
use Rattle.grid_core.specs.declared.conn.Conn.{Conn}
use Rattle.pgm_codec.specs.Graymap.{Graymap}
use Rattle.stroke_lattice.specs.{State.State, State.IsBelow, State.IsJoinOf, Pieces.pieces_of}
use Rattle.stroke_lattice.proofs.Joins.{below_itself, below_through, list_join_is_least}
use Rattle.spd_codec.specs.StateFile.{SpellsFile, frames_of}
use Rattle.view_session.specs.Kept.{print_of, FileSpells}
use Rattle.view_session.proofs.KeptViews.{spells_pieces}
use Rattle.page_board.specs.{Board.PageBoard, Board.mask_of, Later.IsLater, Opening.IsOpenedOver, Taking.FileIsTaken}
use Rattle.page_board.specs.Keeping.{KeepsAtLeast, HasAllOf, KeepsAllOf, KeepsBoard, HasAllIn}
use Rattle.page_board.proofs.{OpenedKept.begun_board, OpenedKept.same_board, Wholeness.same_mask}

-- states below one that is below another are below this
all_below : (deltas : List State) (a b : State) → AllByRecursion (λ delta. IsBelow delta a) deltas → IsBelow a b
    → AllByRecursion (λ delta. IsBelow delta b) deltas
all_below [] a b all below = tt
all_below (delta ∷ deltas) a b all below = (below_through delta a b all.0 below, all_below deltas a b all.1 below)

module _ (conn : Conn) (mask : Graymap) where
  -- bytes whose frames have the join of a state keep it, and it has all of them
  pub join_is_kept : (file : List ℕ) (deltas : List State) (state : State) → FileSpells conn (print_of mask) file deltas
      → IsJoinOf deltas state → KeepsAtLeast conn mask state file
  join_is_kept file deltas state spelled join = record {
    deltas = deltas;
    spelled = spelled;
    join = state;
    joined = join;
    below = below_itself state;
  }

  pub join_has_all : (file : List ℕ) (deltas : List State) (join state : State)
      → FileSpells conn (print_of mask) file deltas → IsJoinOf deltas join → IsBelow join state
      → HasAllOf conn mask state file
  join_has_all file deltas join state spelled is_join below = record {
    deltas = deltas;
    spelled = spelled;
    below = all_below deltas join state (list_join_is_least deltas join is_join).above below;
  }

-- ---- the file of a board

module _ (b : PageBoard) (conn : Conn) (print : List ℕ) (state : State) (file : List ℕ) (same_conn : conn ≡ b.core.conn)
    (same_print : print ≡ print_of (mask_of b)) (same_state : state ≡ b.core.state)
    (spelled : SpellsFile file (frames_of conn print (pieces_of 1400 state)))
    (join : IsJoinOf (pieces_of 1400 b.core.state) b.core.state) where
  pieces_spelled : FileSpells b.core.conn (print_of (mask_of b)) file (pieces_of 1400 b.core.state)
  pieces_spelled =
      subst (λ (c : Conn). FileSpells c (print_of (mask_of b)) file (pieces_of 1400 b.core.state)) same_conn
      (subst (λ (p : List ℕ). FileSpells conn p file (pieces_of 1400 b.core.state)) same_print
      (subst (λ (s : State). FileSpells conn print file (pieces_of 1400 s)) same_state
      (spells_pieces conn print file (pieces_of 1400 state) spelled)))

  pub file_keeps : KeepsBoard b file
  file_keeps = join_is_kept b.core.conn (mask_of b) file (pieces_of 1400 b.core.state) b.core.state pieces_spelled join

  pub file_has_no_more : HasAllIn b file
  file_has_no_more =
      join_has_all b.core.conn (mask_of b) file (pieces_of 1400 b.core.state) b.core.state b.core.state pieces_spelled
      join (below_itself b.core.state)

-- ---- later boards

pub later_has_all : (old new : PageBoard) (file : List ℕ) → IsLater old new → HasAllIn old file → HasAllIn new file
later_has_all old new file later has =
    rw (later.ground.conn, same_mask old new later.ground later.maxval) (record {
      deltas = has.deltas;
      spelled = has.spelled;
      below = all_below has.deltas old.core.state new.core.state has.below later.state;
    })

pub same_state_is_kept : (old new : PageBoard) (file : List ℕ) → IsLater old new → new.core.state ≡ old.core.state
    → KeepsBoard old file → KeepsBoard new file
same_state_is_kept old new file later same kept =
    rw (later.ground.conn, same_mask old new later.ground later.maxval, same) kept

pub all_is_kept : (b : PageBoard) (found made : List ℕ) → HasAllIn b found → KeepsBoard b made
    → KeepsAllOf b.core.conn (mask_of b) found made
all_is_kept b found made has kept = record {
  deltas = kept.deltas;
  spelled = kept.spelled;
  join = kept.join;
  joined = kept.joined;
  all = record {
    deltas = has.deltas;
    spelled = has.spelled;
    below = all_below has.deltas b.core.state kept.join has.below kept.below;
  };
}

-- ---- files that are taken

-- the board took the join of the frames
pub taken_has_all : (old new : PageBoard) (file : List ℕ) → FileIsTaken old file new → IsLater old new
    → HasAllIn new file
taken_has_all old new file (deltas, spelled, (delta, merged, taken)) later =
    rw (later.ground.conn, same_mask old new later.ground later.maxval)
    (join_has_all old.core.conn (mask_of old) file deltas delta new.core.state spelled merged.join
    taken.merged.join.second)

-- ---- boards that are opened over files

module _ (mask : Graymap) (conn : Conn) (side run : ℕ) (old : List ℕ) (b : PageBoard)
    (opened : IsOpenedOver mask conn side run old b) where
  same : b ≡ begun_board mask conn side run opened.0 b.core.image b.news
  same = same_board mask conn side run opened.0 b opened.2

  pub opened_is_kept : KeepsBoard b old
  opened_is_kept =
      subst (λ (board : PageBoard). KeepsBoard board old) (sym same)
      (join_is_kept conn mask old opened.1.deltas opened.0 opened.1.spelled opened.1.merged.join)

  pub opened_has_all : HasAllIn b old
  opened_has_all =
      subst (λ (board : PageBoard). HasAllIn board old) (sym same)
      (join_has_all conn mask old opened.1.deltas opened.0 opened.0 opened.1.spelled opened.1.merged.join
      (below_itself opened.0))
