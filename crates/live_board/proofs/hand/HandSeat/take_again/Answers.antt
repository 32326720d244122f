use Rattle.std.proofs.Common.{◌*◌, ◌<◌, List, ap, arith, length, max, min, set, slice_index, ℕ, ◌∙◌, ◌≡◌}
use Rattle.live_board.proofs.Bands.{again_founded, again_low}
use Rattle.live_board.proofs.Flooding.{cell_on}
use Rattle.live_board.specs.{Rounds.pixel_after, Seats.ground_of, Seats.hand_view, Words.IsOn, Words.mask_of}
use Rattle.live_board.proofs.hand.HandSeat.take_again.Goals as goal

pub loop-cell-preserved : goal.loop-cell-preserved
loop-cell-preserved c =
    let base = ground_of c.args.board.now in
    let kept = c.loop-cell.invariant in
    let cells : List ℕ = c.loop-cell.cells in
    let k : ℕ = c.loop-cell.cell in
    let level : ℕ = c.level.result in
    let w : ℕ = (mask_of base).width in
    let most : c.min-level.result ≡ min level (slice_index (mask_of base).cells k) =
    c.min-level.ensures ∙ ap (λ (l : List ℕ). min level (slice_index l k)) c.samples-mask.ensures.value in
    let is : set cells k c.max.result ≡ set cells k (max (slice_index cells k) c.min-level.result) =
    ap (λ (n : ℕ). set cells k n) c.max.ensures in
    let inside : k < length cells =
    omega (
      arith,
      c.loop-cell-test.true,
      c.requires.cells,
      kept.1.0,
      c.samples-mask.ensures.is_graymap.sized.filled,
    ) in
    let on : IsOn base (pixel_after base k) =
    cell_on base k c.samples-mask.ensures.is_graymap.sized.filled
    (omega (arith, c.loop-cell-test.true, c.requires.cells)) in (
      c.level.ensures.hand,
      again_low base cells (set cells k c.max.result) k level c.min-level.result kept.1 inside most is,
      again_founded base (w * c.args.band.first) (w * c.args.band.end) cells (set cells k c.max.result) k level
          c.min-level.result (hand_view c.loop-cell.self) (hand_view c.level.new.self) kept.2 on inside
          c.level.ensures.level most is,
    )
