-- What the tactics leave open of `spread`.
use Rattle.std.proofs.Common.{sym, ◌∙◌, arith}
use Rattle.tile_work.proofs.HittingWalk.{walk_goes_on, walk_shortens, walk_ends}
use Rattle.std.proofs.lemmas.Grind.{common_steps}
use Rattle.tile_work.proofs.hits.spread.spread.Goals as goal

pub loop-tile-smaller : goal.loop-tile-smaller
loop-tile-smaller c =
    walk_shortens c.in-Some.tile c.loop-tile.invariant c.in-Some.ensures.has
    (rw c.remove.ensures at c.mark_linked.ensures)

pub loop-tile-preserved : goal.loop-tile-preserved
loop-tile-preserved c =
    walk_goes_on c.in-Some.tile c.loop-tile.invariant c.in-Some.ensures.has
    (rw c.remove.ensures at c.mark_linked.ensures)

pub returns : goal.returns
returns c = record {
  marks = walk_ends c.loop-tile.invariant (λ t has. c.in_default.ensures t (omega arith) has);
  count = c.loop-tile.invariant.count;
  queue_count = c.loop-tile.invariant.queue_count ∙ sym c.requires.parts.each_tile.queue_count;
  none = λ t has. c.in_default.ensures t (omega arith) has;
}

pub loop-tile-init : goal.loop-tile-init
loop-tile-init c = grind (arith, common_steps)
