use Rattle.core_dispatch.specs.{Books.KeepsRest, Handing.HaveHanded, Handing.waiting_count}
use Rattle.core_dispatch.proofs.books.Books.hand_all.Given as goal

abbrev pub invariant-loop-handed : goal.invariant-loop-handed
invariant-loop-handed l = record {
  handed : HaveHanded l.fn.self.core l.hands l.self.core;
  rest : KeepsRest l.fn.self l.self;
}

abbrev pub decreases-loop-handed : goal.decreases-loop-handed
decreases-loop-handed l = waiting_count l.self.core.tiles
