use Rattle.core_dispatch.proofs.{Handing.more_handed, Steady.rest_kept}
use Rattle.core_dispatch.proofs.books.Books.hand_all.Goals as goal

pub loop-handed-preserved : goal.loop-handed-preserved
loop-handed-preserved c = record {
  handed =
      more_handed c.args.self.now.core c.loop-handed.self.core c.hand_next.new.self.core c.loop-handed.hands
      c.in-Some.handed c.sum-hands.result c.loop-handed.invariant.handed c.in-Some.ensures.next.1 c.sum-hands.ensures;
  rest =
      rest_kept c.args.self.now c.loop-handed.self c.hand_next.new.self c.loop-handed.invariant.rest
      c.hand_next.ensures.rest;
}
