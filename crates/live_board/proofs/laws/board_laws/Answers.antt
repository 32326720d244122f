use Rattle.live_board.proofs.{Reached.found_is_kept, Reached.known_is_kept, Reached.known_is_reached}
use Rattle.live_board.proofs.{Reached.live_is_reached, Touching.one_count, Touching.round_counts}
use Rattle.live_board.proofs.laws.board_laws.Goals as goal

pub returns : goal.returns
returns c = record {
  known_is_kept = known_is_kept;
  found_is_kept = found_is_kept;
  known_is_reached = known_is_reached;
  live_is_reached = live_is_reached;
  round_counts = round_counts;
  one_count = one_count;
}
