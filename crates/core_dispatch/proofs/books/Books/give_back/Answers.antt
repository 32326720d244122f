use Rattle.core_dispatch.specs.contracts.books.Books.{the_view}
use Rattle.core_dispatch.proofs.Steady.{steady_books, give_back_is_steady}
use Rattle.core_dispatch.proofs.books.Books.give_back.Goals as goal

pub invariant_of-self : goal.invariant_of-self
invariant_of-self c =
    let lent = c.deref_mut.result.now in
    steady_books (the_view c.self.inside) lent c.give_back_to.new.core c.deref_mut.ensures.value c.self.invariant
    (give_back_is_steady lent c.give_back_to.new.core c.args.swept c.give_back_to.result
    c.give_back_to.ensures.given c.give_back_to.ensures.err)
