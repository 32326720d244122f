use Rattle.std.proofs.Common.{ap}
use Rattle.core_dispatch.proofs.Taking.{same_pens}
use Rattle.studio.specs.{declared.keeper.Keeper.Keeper, Keeping.books_of, Keeping.studio_of}
use Rattle.thread_tests.proofs.Companies.{keeper_stays}
use Rattle.thread_tests.proofs.refusals.mirrors.Goals as goal

pub returns : goal.returns
returns c = keeper_stays _ _ c.requires (same_pens _ _ (ap (λ (k : Keeper). books_of k) c.follows-outcome.ensures))
    (ap (λ (k : Keeper). studio_of k) c.follows-outcome.ensures)
