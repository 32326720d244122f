use Rattle.std.proofs.Common.{subst, sym}
use Rattle.core_dispatch.specs.{Books.BooksView, Genuine.AreGenuine}
use Rattle.core_dispatch.proofs.dispatcher.Dispatcher.shared_image.Goals as goal

pub invariant_of-self : goal.invariant_of-self
invariant_of-self c rise =
    let d = c.self.inside in
    subst (λ (books : BooksView). AreGenuine books.core d.serials.bound d.owner.pushed) (sym c.shared_image.ensures.same)
    (c.self.invariant rise)
