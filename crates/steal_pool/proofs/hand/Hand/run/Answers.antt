use Rattle.std.proofs.Common.{◌∙◌}
use Rattle.steal_pool.proofs.Turns.{one_step_more}
use Rattle.steal_pool.proofs.hand.Hand.run.Goals as goal

pub loop-preserved : goal.loop-preserved
loop-preserved g c =
    let so_far = c.loop.invariant in
    let step = c.ends.ensures in
    record {
      next = tt;
      finite = tt;
      turns = one_step_more c.args.self.now c.loop.self c.ends.new.self c.ends.result so_far.turns c.if-ends.false
          step.step;
      reported = step.reported;
      same = record {
        deque = step.same.deque ∙ so_far.same.deque;
        ring = step.same.ring ∙ so_far.same.ring;
      };
    }
