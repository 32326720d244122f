use Rattle.std.proofs.Common.{subst, sym}
use Rattle.core_rules.specs.Invariant.{IsSound}
use Rattle.core_dispatch.specs.{Dispatching.Dispatcher, Pens.IsEndOf}
use Rattle.core_dispatch.proofs.Genuine.{by_edits}
use Rattle.core_dispatch.proofs.dispatcher.Dispatcher.take_rest_of.Goals as goal

pub take_rest-requires : goal.take_rest-requires
take_rest-requires c =
    subst (λ (d : Dispatcher). IsEndOf c.args.end.now d.books) (sym c.self.view_is) c.requires

pub invariant_of-self : goal.invariant_of-self
invariant_of-self c rise =
    let d = c.self.inside in
    let (edits, taken) = c.take_rest.ensures.taken in
    by_edits c.edges_are_open.ensures d.books c.take_rest.new.self d.serials.bound d.owner.pushed edits
    (subst IsSound c.core.ensures.value c.is_sound.ensures) taken (c.self.invariant rise)
