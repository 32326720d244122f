use Rattle.std.proofs.Common.{get_or, subst, sym, take}
use Rattle.std.proofs.lemmas.List.{take_more}
use Rattle.grid_core.specs.declared.pixel.Pixel.{Pixel}
use Rattle.live_board.proofs.Following.{growing_more}
use Rattle.live_board.specs.{Following.IsGrowing, Seats.ground_of, Seats.hand_view, Words.origin}
use Rattle.live_board.proofs.hand.HandSeat.read_all.Goals as goal

pub loop-place-preserved : goal.loop-place-preserved
loop-place-preserved c =
    let base = ground_of c.args.board.now in
    let pixels = c.args.pixels.now in
    let k = c.loop-place.place in
    let p : Pixel = get_or pixels k origin in
    let u = hand_view c.args.self.now in
    let v = hand_view c.loop-place.self in
    let w = hand_view c.read_in.new.self in (
      c.read_in.ensures.hand,
      c.read_in.ensures.trail,
      subst (λ l. IsGrowing base l 0 u w c.read_in.new.trail) (sym (take_more pixels k origin c.loop-place-test.true))
          (growing_more base (take k pixels) p u v w c.loop-place.trail c.read_in.new.trail c.loop-place.invariant.2
          c.read_in.ensures.read),
    )
