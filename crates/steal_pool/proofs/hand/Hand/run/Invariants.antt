use Rattle.steal_pool.specs.{Reports.AreReported, Views.reports, Views.IsSameHand}
use Rattle.steal_pool.proofs.Turns.{HaveTurned}
use Rattle.steal_pool.proofs.hand.Hand.run.Given as goal

abbrev pub invariant-loop : goal.invariant-loop
invariant-loop g l = record {
  next : (goal.iterator-loop g).can_next l.iterator';
  finite : (goal.iterator-loop g).is_finite l.iterator';
  turns : HaveTurned l.fn.self l.self;
  reported : AreReported l.self.got (reports l.self);
  same : IsSameHand l.fn.self l.self;
}
