-- What the tactics leave open of `mark_losses`.
use Rattle.tile_work.proofs.HittingSpans.{losing_begins, losing_goes_on, losing_ends}
use Rattle.tile_work.proofs.hits.losses.mark_losses.Goals as goal

pub loop-tag-init : goal.loop-tag-init
loop-tag-init c =
    losing_begins c.into_iter-tag-iterator.ensures.into_iter_gives c.tombstones-tag-items.ensures.tombstones

pub loop-tag-preserved : goal.loop-tag-preserved
loop-tag-preserved c = losing_goes_on c.in-Some.ensures.steps c.loop-tag.invariant c.mark_lost.ensures

pub returns : goal.returns
returns c = losing_ends c.in-None.ensures.steps.0 c.loop-tag.invariant
