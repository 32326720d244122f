-- What the tactics leave open of `settle_in_bands`.
use Rattle.std.proofs.Common.{sym, subst, ◌∙◌}
use Rattle.core_rules.specs.Work.{IsQuiet}
use Rattle.core_rules.proofs.KeptRuns.{run_keeps}
use Rattle.core_dispatch.specs.Dispatching.{core_by}
use Rattle.studio.specs.{Following.Follows, Words.last_by}
use Rattle.studio.proofs.Following.{works_on}
use Rattle.studio.proofs.keeper.Keeper.settle_in_bands.Goals as goal

pub invariant_of-self : goal.invariant_of-self
invariant_of-self g c =
    let keeper = c.args.self.now in
    let (log, run, none) = c.settle_in_bands.ensures.settled.settled.worked_on in
    let core = core_by keeper.dispatcher in
    let after = c.settle_in_bands.new.self.books.core in
    record {
      mask_is = keeper.mask_is ∙ sym (run_keeps core after log none run).mask;
      follows = subst (Follows (last_by keeper.publisher) after keeper.has_state) (sym c.both-self.ensures)
          (works_on (last_by keeper.publisher) core after keeper.has_state keeper.has_image c.is_quiet-is_quiet.result
          keeper.follows (log, run, none) (λ yes.
          c.settle_in_bands.ensures.settled.quiet
          (subst IsQuiet c.core.ensures.value (c.is_quiet-is_quiet.ensures.0 yes))));
    }
