use Rattle.core_dispatch.proofs.Genuine.{by_settling}
use Rattle.core_dispatch.proofs.dispatcher.Dispatcher.settle_in_bands.Goals as goal

pub invariant_of-self : goal.invariant_of-self
invariant_of-self g c rise =
    let d = c.self.inside in
    by_settling d.books.core c.settle_in_bands.new.self.core d.serials.bound d.owner.pushed (c.self.invariant rise)
    c.args.jobs c.settle_in_bands.result c.settle_in_bands.ensures.settled
