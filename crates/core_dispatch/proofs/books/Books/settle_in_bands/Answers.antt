-- What the tactics leave open of `settle_in_bands`.
use Rattle.core_dispatch.specs.contracts.books.Books.{the_view}
use Rattle.core_dispatch.proofs.{Growing.worked_is_steady, Steady.steady_books}
use Rattle.core_dispatch.proofs.books.Books.settle_in_bands.Goals as goal

pub invariant_of-self : goal.invariant_of-self
invariant_of-self g c =
    let lent = c.deref_mut.result.now in
    steady_books (the_view c.self.inside) lent c.settle_in_bands.new.self c.deref_mut.ensures.value c.self.invariant
    (worked_is_steady lent c.settle_in_bands.new.self c.settle_in_bands.ensures.settled.worked_on)
