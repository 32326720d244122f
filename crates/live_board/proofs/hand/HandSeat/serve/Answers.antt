use Rattle.std.proofs.Common.{arith}
use Rattle.live_board.proofs.Following.{grows_more, grows_one, grows_same, none_left, trail_next}
use Rattle.live_board.specs.{Seats.ground_of, Seats.hand_view}
use Rattle.live_board.proofs.hand.HandSeat.serve.Goals as goal

pub trail_all-rose-requires-clause-fact : goal.trail_all-rose-requires-clause-fact
trail_all-rose-requires-clause-fact c = c.loop-turn.invariant.2.facts c.in-Some.fact c.in-Some.ensures.taken

pub trail_all-rose-requires-clause-trail : goal.trail_all-rose-requires-clause-trail
trail_all-rose-requires-clause-trail c =
    trail_next (ground_of c.args.board.now) (hand_view c.loop-turn.self) c.loop-turn.trail c.next.new.self
    c.loop-turn.invariant.2 c.in-Some.ensures.only c.in-Some.ensures.end

pub loop-turn-preserved : goal.loop-turn-preserved
loop-turn-preserved c =
    let base = ground_of c.args.board.now in
    let kept = c.loop-turn.invariant in
    let u = hand_view c.args.self.now in
    let v = hand_view c.loop-turn.self in
    let w = hand_view c.trail_all-rose.new.self in (
      c.trail_all-rose.ensures.hand,
      omega (arith, kept.1, c.trail_all-rose.ensures.few),
      c.trail_all-rose.ensures.trail,
      grows_more base c.loop-turn.rose c.trail_all-rose.result u v w c.args.trail.now c.loop-turn.trail
          c.trail_all-rose.new.trail kept.3
          (grows_one base c.in-Some.fact c.trail_all-rose.result v w c.loop-turn.trail c.next.new.self
          c.trail_all-rose.new.trail (kept.2.facts c.in-Some.fact c.in-Some.ensures.taken) c.in-Some.ensures.left
          c.trail_all-rose.ensures.trails),
    )

pub returns-in-None-clause-trail : goal.returns-in-None-clause-trail
returns-in-None-clause-trail c =
    trail_next (ground_of c.args.board.now) (hand_view c.loop-turn.self) c.loop-turn.trail c.next.new.self
    c.loop-turn.invariant.2 c.in-None.ensures.only c.in-None.ensures.end

pub returns-in-None-clause-grows : goal.returns-in-None-clause-grows
returns-in-None-clause-grows c =
    grows_same (ground_of c.args.board.now) c.loop-turn.rose (hand_view c.args.self.now) (hand_view c.loop-turn.self)
    c.args.trail.now c.loop-turn.trail c.next.new.self
    (none_left c.loop-turn.trail c.next.new.self c.in-None.ensures.left) c.loop-turn.invariant.3
