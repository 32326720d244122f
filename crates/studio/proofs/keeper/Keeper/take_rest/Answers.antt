use Rattle.std.proofs.Common.{sym, ◌∙◌}
use Rattle.core_dispatch.specs.Dispatching.{core_by}
use Rattle.core_dispatch.proofs.GoingOn.{went_on}
use Rattle.studio.specs.Words.{last_by}
use Rattle.studio.proofs.Following.{grows_on}
use Rattle.studio.proofs.keeper.Keeper.take_rest.Goals as goal

pub invariant_of-self : goal.invariant_of-self
invariant_of-self c =
    let old = c.args.self.now in
    let new = c.take_rest-taken.new.self in
    let taken = c.take_rest-taken in
    let grows = (went_on _ _ _ taken.result taken.ensures.all taken.ensures.not_all).grows in
    record {
      mask_is = old.mask_is ∙ sym grows.mask;
      follows =
          grows_on (last_by old.publisher) (core_by old.dispatcher) (core_by new)
          old.has_state old.has_image old.follows
          grows;
    }
