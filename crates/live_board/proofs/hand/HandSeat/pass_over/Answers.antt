use Rattle.std.proofs.Common.{◌<◌, Contains, ap₂, arith, subst, sym, ℕ, ◌≡◌}
use Rattle.grid_core.specs.declared.pixel.Pixel.{Pixel}
use Rattle.live_board.proofs.Bands.{as_much_later, later_of}
use Rattle.live_board.proofs.{Flooded.row_still_known, Flooding.later_by}
use Rattle.live_board.specs.{Flooding.drawn_fact, Seats.ground_of, Seats.hand_view, Words.fact, Words.mask_of}
use Rattle.live_board.specs.declared.fact.Fact.{Fact}
use Rattle.live_board.proofs.hand.HandSeat.pass_over.Goals as goal

pub trail_row-rose-requires-clause-fact : goal.trail_row-rose-requires-clause-fact
trail_row-rose-requires-clause-fact c =
    let base = ground_of c.args.board.now in
    let image = c.args.image.now in
    let old = hand_view c.args.self.now in
    let v = hand_view c.loop-x.self in
    let p : Pixel = record { x = c.loop-x.x; y = c.args.edge } in
    let low : c.loop-x.x < (mask_of base).width = omega (arith, c.loop-x-test.true, c.width-x-end.ensures.value) in
    let is : fact p c.loop-x.self.generation c.get.result ≡ drawn_fact v.generation image p =
    ap₂ (λ (g n : ℕ). fact p g n) (sym c.loop-x.self.same) c.get.ensures in
    record {
      known = subst (λ (f : Fact). Contains v.facts f) (sym is)
          (row_still_known base c.args.edge image old v (later_of old v c.loop-x.invariant.3) c.requires.known
          c.loop-x.x low);
      current = sym c.loop-x.self.same;
    }

pub loop-x-preserved : goal.loop-x-preserved
loop-x-preserved c =
    let base = ground_of c.args.board.now in
    let kept = c.loop-x.invariant in
    let old = hand_view c.args.self.now in
    let v = hand_view c.loop-x.self in
    let w = hand_view c.trail_row-rose.new.self in
    let trails = c.trail_row-rose.ensures.trails in (
      c.trail_row-rose.ensures.hand,
      omega (arith, kept.1, c.trail_row-rose.ensures.few),
      c.trail_row-rose.ensures.trail,
      as_much_later old v w kept.3 (later_by base trails.touches v w trails.touched),
    )
