use Rattle.core_dispatch.specs.Closing.{HaveEach}
use Rattle.core_dispatch.proofs.dispatcher.closing.have_each.Given as goal

abbrev pub invariant-loop-number : goal.invariant-loop-number
invariant-loop-number l = HaveEach l.number l.ends.items
