-- What the tactics leave open of `mark_hits`.
use Rattle.std.proofs.{Common.ap, Common.false, Common.sym, Common.◌∙◌, Common.length, lemmas.List.length-replicate}
use Rattle.grid_core.specs.Tiles.{count_of}
use Rattle.tile_work.proofs.{TileSets.none_is_replicate, HittingCores.reached_is_hit}
use Rattle.tile_work.proofs.hits.mark_hits.Goals as goal

pub mark_losses-requires : goal.mark_losses-requires
mark_losses-requires c =
    let count = ap length c.requires.marks ∙ length-replicate (count_of c.args.tiling.now) false in
    record {
      count = count;
      queue_count = ap length c.requires.queue ∙ length-replicate (count_of c.args.tiling.now) false ∙ sym count;
    }

pub returns-clause-marks : goal.returns-clause-marks
returns-clause-marks c =
    reached_is_hit c.args.tiling.now c.args.image.now c.args.conn c.args.state.now c.args.delta.now
    (count_of c.args.tiling.now) c.args.marks.now c.args.queue.now c.mark_losses.new.marks c.mark_losses.new.queue
    c.spread.new.marks c.requires.marks c.mark_losses.ensures c.spread.ensures.marks

pub returns-clause-queue : goal.returns-clause-queue
returns-clause-queue c =
    none_is_replicate c.spread.new.queue (count_of c.args.tiling.now)
    (c.spread.ensures.queue_count ∙ c.mark_losses.ensures.grows.queue_count
    ∙ (λ i. length (c.requires.queue i)) ∙ length-replicate (count_of c.args.tiling.now) false)
    c.spread.ensures.none ∙ sym c.requires.queue
