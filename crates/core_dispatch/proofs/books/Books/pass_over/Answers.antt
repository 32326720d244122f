use Rattle.std.proofs.Common.{ap, subst, ◌∙◌}
use Rattle.core_rules.specs.Work.{Core}
use Rattle.tiled_core.specs.Passing.{ArePassedUntil}
use Rattle.core_dispatch.specs.{contracts.books.Books.the_view, Books.BooksView}
use Rattle.core_dispatch.proofs.Steady.{passed_until_is_steady, steady_books}
use Rattle.core_dispatch.proofs.books.Books.pass_over.Goals as goal

pub invariant_of-self : goal.invariant_of-self
invariant_of-self c =
    let lent = c.deref_mut.result.now in
    steady_books (the_view c.self.inside) lent c.pass_over.new.self c.deref_mut.ensures.value c.self.invariant
    (passed_until_is_steady c.args.from c.pass_over.result lent c.pass_over.new.self c.pass_over.ensures)

pub returns-clause-passed : goal.returns-clause-passed
returns-clause-passed c =
    subst (λ (k : Core). ArePassedUntil c.args.from c.pass_over.result k c.pass_over.new.self)
    (c.deref_mut.ensures.value ∙ ap (λ (b : BooksView). b.core) c.self.view_is) c.pass_over.ensures
