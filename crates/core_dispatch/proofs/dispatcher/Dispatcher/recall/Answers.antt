use Rattle.core_dispatch.proofs.Genuine.{by_none_out}
use Rattle.core_dispatch.proofs.dispatcher.Dispatcher.recall.Goals as goal

pub invariant_of-self : goal.invariant_of-self
invariant_of-self c rise =
    let d = c.self.inside in
    by_none_out d.books.core c.recall.new.self.core d.serials.bound d.owner.pushed (c.self.invariant rise)
    c.recall.ensures.none_out
