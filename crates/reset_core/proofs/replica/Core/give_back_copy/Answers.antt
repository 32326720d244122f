use Rattle.std.proofs.Common.{◌≡◌, List, subst, Some, None, slice_get}
use Rattle.tile_generations.specs.Jobs.{Swept}
use Rattle.reset_core.specs.Scheduling.{kept_of}
use Rattle.reset_core.proofs.Scheduling.{no_item, item_there, no_result_to_return, result_returned}
use Rattle.reset_core.proofs.replica.Core.give_back_copy.Goals as goal

pub returns-in_default-clause-step : goal.returns-in_default-clause-step
returns-in_default-clause-step c = λ n. no_result_to_return n c.args.place c.args.self.now (kept_of c.args.tally.now)
    (subst (λ (results : List Swept). slice_get results c.args.place ≡ None) c.deref.ensures.value
    (no_item c.deref.result.now c.args.place c.get.result c.get.ensures.lookup c.in_default.not-Some))

pub returns-in-Ok-clause-step : goal.returns-in-Ok-clause-step
returns-in-Ok-clause-step c = λ n.
    let swept = c.in-Some.swept.now in
    let there =
    subst (λ (results : List Swept). slice_get results c.args.place ≡ Some swept) c.deref.ensures.value
    (item_there c.deref.result.now c.args.place c.get.result c.in-Some.swept c.get.ensures.lookup c.in-Some.is) in
    result_returned n c.args.place c.args.self.now c.give_back.new.self (kept_of c.args.tally.now) swept
    c.in-Ok._back there c.pixels.ensures.swept (rw c.in_ok-copy.ensures at c.in-Ok.ensures.given)
