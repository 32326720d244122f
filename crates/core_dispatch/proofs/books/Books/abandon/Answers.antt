use Rattle.core_dispatch.specs.contracts.books.Books.{the_view}
use Rattle.core_dispatch.proofs.Steady.{steady_books, abandoned_is_steady}
use Rattle.core_dispatch.proofs.books.Books.abandon.Goals as goal

pub invariant_of-self : goal.invariant_of-self
invariant_of-self c =
    let lent = c.deref_mut.result.now in
    steady_books (the_view c.self.inside) lent c.abandon.new.self c.deref_mut.ensures.value c.self.invariant
    (abandoned_is_steady lent c.abandon.new.self c.args.ticket c.abandon.result c.abandon.ensures)
