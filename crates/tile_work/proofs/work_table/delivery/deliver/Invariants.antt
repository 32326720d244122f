-- What the loop of `deliver` keeps.
use Rattle.tile_work.proofs.WorkTableHints.{IsDelivery}
use Rattle.tile_work.proofs.work_table.delivery.deliver.Given as goal

abbrev pub invariant-loop-hint : goal.invariant-loop-hint
invariant-loop-hint l = IsDelivery l.beside.tiling l.hints l.hint-index l.fn.rows l.rows l.waiting
