use Rattle.std.proofs.Common.{◌<◌, Contains, ap₂, arith, subst, sym, ℕ, ◌≡◌}
use Rattle.grid_core.specs.declared.pixel.Pixel.{Pixel}
use Rattle.live_board.proofs.Flooded.{row_still_known}
use Rattle.live_board.proofs.Flooding.{later_spread, pass_more}
use Rattle.live_board.specs.{Flooding.drawn_fact, Seats.ground_of, Seats.hand_view, Words.fact, Words.mask_of}
use Rattle.live_board.specs.declared.fact.Fact.{Fact}
use Rattle.live_board.proofs.hand.HandSeat.pass_on.Goals as goal

pub spread-rose-requires-clause-fact : goal.spread-rose-requires-clause-fact
spread-rose-requires-clause-fact c =
    let v = hand_view c.loop-x.self in
    let p : Pixel = record { x = c.loop-x.x; y = c.args.y } in
    let low : c.loop-x.x < (mask_of (ground_of c.args.board.now)).width =
    omega (arith, c.loop-x-test.true, c.width-x-end.ensures.value) in
    let is : fact p c.loop-x.self.generation c.get.result ≡ drawn_fact v.generation c.args.image.now p =
    ap₂ (λ (g n : ℕ). fact p g n) (sym c.loop-x.self.same) c.get.ensures in
    record {
      known = subst (λ (f : Fact). Contains v.facts f) (sym is) (c.loop-x.invariant.2 c.loop-x.x low);
      current = sym c.loop-x.self.same;
    }

pub loop-x-preserved : goal.loop-x-preserved
loop-x-preserved c =
    let base = ground_of c.args.board.now in
    let image = c.args.image.now in
    let kept = c.loop-x.invariant in
    let v = hand_view c.loop-x.self in
    let w = hand_view c.spread-rose.new.self in
    let p : Pixel = record { x = c.loop-x.x; y = c.args.y } in
    let f : Fact = fact p c.loop-x.self.generation c.get.result in
    let is : f ≡ drawn_fact v.generation image p =
    ap₂ (λ (g n : ℕ). fact p g n) (sym c.loop-x.self.same) c.get.ensures in (
      c.spread-rose.ensures.hand,
      omega (arith, kept.1, c.spread-rose.ensures.few),
      row_still_known base c.args.y image v w
          (later_spread base f c.spread-rose.result v w c.spread-rose.ensures.spreads) kept.2,
      pass_more base c.args.y c.loop-x.x c.loop-x.rose c.spread-rose.result image f (hand_view c.args.self.now) v w
          kept.3 is c.spread-rose.ensures.spreads,
    )
