use Rattle.core_dispatch.specs.Pens.{AreRings}
use Rattle.core_dispatch.proofs.books.Rings.new.Given as goal

abbrev pub invariant-loop-number : goal.invariant-loop-number
invariant-loop-number l = AreRings l.number l.rings.desks.items l.rings.pens.items
