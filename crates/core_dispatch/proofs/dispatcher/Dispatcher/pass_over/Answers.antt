use Rattle.std.proofs.Common.{subst}
use Rattle.core_rules.specs.Invariant.{IsSound}
use Rattle.core_dispatch.proofs.Genuine.{by_passing}
use Rattle.core_dispatch.proofs.dispatcher.Dispatcher.pass_over.Goals as goal

pub invariant_of-self : goal.invariant_of-self
invariant_of-self c rise =
    let d = c.self.inside in
    by_passing d.books.core c.pass_over.new.self.core d.serials.bound d.owner.pushed (c.self.invariant rise)
    (subst IsSound c.core.ensures.value c.is_sound.ensures) c.args.from c.pass_over.result c.pass_over.ensures.passed
