use Rattle.std.proofs.Common.{List, ap, subst, sym}
use Rattle.tile_generations.specs.Jobs.{Job}
use Rattle.core_rules.specs.Invariant.{IsSound}
use Rattle.steal_pool.specs.Views.{OwnerView}
use Rattle.core_dispatch.specs.Genuine.{AreGenuine}
use Rattle.core_dispatch.proofs.Genuine.{by_report, own_report}
use Rattle.core_dispatch.proofs.dispatcher.Dispatcher.take_report.Goals as goal

-- no report was collected
pub invariant_of-self : goal.invariant_of-self
invariant_of-self c rise =
    let d = c.self.inside in
    subst (λ (owner : OwnerView). AreGenuine d.books.core d.serials.bound owner.pushed)
    (sym c.in_err-report.ensures.none) (c.self.invariant rise)

pub judge-requires : goal.judge-requires
judge-requires c rise =
    let d = c.self.inside in
    own_report d.books.core d.serials.bound d.owner c.in_ok-report.report (c.self.invariant rise)
    c.in_ok-report.ensures.of_pushed

pub invariant_of-self-2 : goal.invariant_of-self-2
invariant_of-self-2 c rise =
    let d = c.self.inside in
    let same = ap (λ (owner : OwnerView). owner.pushed) c.in_ok-report.ensures.collected.new_is in
    subst (λ (jobs : List Job). AreGenuine c.judge.new.books.core d.serials.bound jobs) (sym same)
    (by_report c.edges_are_open.ensures d.books c.judge.new.books d.serials.bound d.owner.pushed
    c.in_ok-report.report c.judge.result (subst IsSound c.core.ensures.value c.is_sound.ensures) c.judge.ensures
    (c.self.invariant rise))
