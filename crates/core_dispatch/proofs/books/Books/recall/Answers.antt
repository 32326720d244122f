use Rattle.core_rules.specs.Runs.{tickets_out}
use Rattle.core_dispatch.specs.contracts.books.Books.{the_view}
use Rattle.core_dispatch.proofs.Steady.{steady_books, abandons_are_steady}
use Rattle.core_dispatch.proofs.books.Books.recall.Goals as goal

pub invariant_of-self : goal.invariant_of-self
invariant_of-self c =
    let lent = c.deref_mut.result.now in
    steady_books (the_view c.self.inside) lent c.abandon_all.new.self c.deref_mut.ensures.value c.self.invariant
    (abandons_are_steady lent (tickets_out 0 lent.tiles) c.abandon_all.new.self c.abandon_all.ensures.clears)
