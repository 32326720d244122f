-- What the loop of `count_hints` keeps.
use Rattle.tile_work.proofs.Coming.{IsCounting}
use Rattle.tile_work.proofs.work_table.delivery.count_hints.Given as goal

abbrev pub invariant-loop-hint : goal.invariant-loop-hint
invariant-loop-hint l = IsCounting l.beside.tiling l.beside.tile l.hints l.hint-index l.tiles l.counts
