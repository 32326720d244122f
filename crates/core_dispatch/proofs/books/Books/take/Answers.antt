use Rattle.core_dispatch.specs.contracts.books.Books.{the_view}
use Rattle.core_dispatch.proofs.Steady.{steady_books, take_is_steady}
use Rattle.core_dispatch.proofs.books.Books.take.Goals as goal

pub invariant_of-self : goal.invariant_of-self
invariant_of-self c =
    let lent = c.deref_mut.result.now in
    steady_books (the_view c.self.inside) lent c.take.new.self c.deref_mut.ensures.value c.self.invariant
    (take_is_steady lent c.take.new.self c.args.tile c.take.result c.take.ensures.taken c.take.ensures.err)
