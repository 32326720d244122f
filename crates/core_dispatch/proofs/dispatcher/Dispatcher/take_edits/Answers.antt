use Rattle.std.proofs.Common.{subst}
use Rattle.core_rules.specs.Invariant.{IsSound}
use Rattle.core_dispatch.proofs.Genuine.{by_edits}
use Rattle.core_dispatch.proofs.dispatcher.Dispatcher.take_edits.Goals as goal

pub invariant_of-self : goal.invariant_of-self
invariant_of-self c rise =
    let d = c.self.inside in
    by_edits c.edges_are_open.ensures d.books c.take_edits.new.self d.serials.bound d.owner.pushed
    c.take_edits.result.edits (subst IsSound c.core.ensures.value c.is_sound.ensures) c.take_edits.ensures.taken
    (c.self.invariant rise)
