use Rattle.std.proofs.Common.{◌<◌, List, ap, arith, length, min, set, slice_index, ℕ, ◌∙◌, ◌≡◌}
use Rattle.live_board.proofs.Flooding.{low_set, take_more}
use Rattle.live_board.specs.{Seats.ground_of, Seats.hand_view, Words.mask_of}
use Rattle.live_board.proofs.hand.HandSeat.take_in.Goals as goal

pub loop-cell-preserved : goal.loop-cell-preserved
loop-cell-preserved c =
    let base = ground_of c.args.board.now in
    let kept = c.loop-cell.invariant in
    let cells : List ℕ = c.loop-cell.cells in
    let k : ℕ = c.loop-cell.cell in
    let level : ℕ = c.level-level.result in
    let value : c.min.result ≡ min level (slice_index (mask_of base).cells k) =
    c.min.ensures ∙ ap (λ (l : List ℕ). min level (slice_index l k)) c.samples-mask.ensures.value in
    let is : set cells k c.min.result ≡ set cells k (min level (slice_index (mask_of base).cells k)) =
    ap (λ (n : ℕ). set cells k n) value in
    let inside : k < length cells =
    omega (
      arith,
      c.loop-cell-test.true,
      c.requires.cells.1,
      kept.1.0,
      c.samples-mask.ensures.is_graymap.sized.filled,
    ) in (
      c.level-level.ensures.hand,
      low_set base cells (set cells k c.min.result) k level kept.1 inside is,
      take_more base c.args.from k level cells (set cells k c.min.result) (hand_view c.args.self.now)
          (hand_view c.loop-cell.self) (hand_view c.level-level.new.self) c.loop-cell.auto.cell inside kept.2
          c.level-level.ensures.level is,
    )
