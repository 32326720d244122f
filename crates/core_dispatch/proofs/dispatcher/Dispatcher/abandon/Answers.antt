use Rattle.std.proofs.Common.{subst}
use Rattle.core_rules.specs.Invariant.{IsSound}
use Rattle.core_dispatch.proofs.Genuine.{by_abandon}
use Rattle.core_dispatch.proofs.dispatcher.Dispatcher.abandon.Goals as goal

pub invariant_of-self : goal.invariant_of-self
invariant_of-self c rise =
    let d = c.self.inside in
    by_abandon d.books.core c.abandon.new.self.core d.serials.bound d.owner.pushed (c.self.invariant rise)
    c.edges_are_open.ensures (subst IsSound c.core.ensures.value c.is_sound.ensures) c.args.ticket c.abandon.result
    c.abandon.ensures.abandoned
