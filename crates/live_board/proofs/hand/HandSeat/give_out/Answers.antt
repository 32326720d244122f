use Rattle.std.proofs.Common.{◌+◌, Bool, List, add-zero, ap, arith, slice_index, subst, sym, ℕ, ◌∙◌, ◌≡◌}
use Rattle.live_board.proofs.Flooding.{founded_later, give_more, later_adds}
use Rattle.live_board.proofs.Rounds.{one_if_small}
use Rattle.live_board.specs.{Flooding.HasGivenOut, Rounds.one_if, Rounds.pixel_after, Seats.ground_of, Seats.hand_view}
use Rattle.live_board.specs.Words.{fact}
use Rattle.live_board.proofs.hand.HandSeat.give_out.Goals.{else-lift_to, then-lift_to}
use Rattle.live_board.proofs.hand.HandSeat.give_out.Goals as goal

pub loop-cell-preserved : goal.loop-cell-preserved
loop-cell-preserved c =
    let base = ground_of c.args.board.now in
    let kept = c.loop-cell.invariant in
    let cells : List ℕ = c.args.cells.now in
    let k : ℕ = c.loop-cell.cell in
    let count : ℕ = c.loop-cell.rose in
    let old = hand_view c.loop-cell.self in
    let new = hand_view c.lift_to.new.self in
    let lifted = c.lift_to.ensures.lifted in
    let is : c.if-lift_to.rose ≡ count + one_if c.lift_to.result = elim c.if-lift_to.branch [
      | then-lift_to w ↦ w.rose-is ∙ ap (λ (b : Bool). count + one_if b) (sym w.if-lift_to.true)
      | else-lift_to w ↦ w.rose-is ∙ sym (add-zero count) ∙ ap (λ (b : Bool). count + one_if b) (sym w.if-lift_to.false)
    ] in (
      c.lift_to.ensures.hand,
      omega (arith, is, kept.1, one_if_small c.lift_to.result),
      λ i after before. founded_later base old new (pixel_after base i) (slice_index cells i)
          (later_adds base (fact (pixel_after base k) old.generation (slice_index cells k)) old new lifted.adds)
          (kept.2 i after before),
      subst (λ (n : ℕ). HasGivenOut base c.args.from (k + 1) cells n (hand_view c.args.self.now) new) (sym is)
          (give_more base c.args.from k count cells c.lift_to.result (hand_view c.args.self.now) old new
          c.loop-cell.auto.cell kept.3 lifted),
    )
