-- What the tactics leave open of `dirty_tiles`.
use Rattle.std.proofs.Common.{◌≡◌, ◌-◌, false, length, replicate, ap, ◌∙◌, arith}
use Rattle.std.proofs.lemmas.Result.{IfOk-from_err}
use Rattle.tile_work.proofs.CuttingWork.{all_marked, bits_count, one_more_dirty, one_more_clean}
use Rattle.tile_work.proofs.work_table.cutting.dirty_tiles.Goals.{then-row, else-row}
use Rattle.tile_work.proofs.work_table.cutting.dirty_tiles.Goals as goal

pub returns-in_err-set : goal.returns-in_err-set
returns-in_err-set c = IfOk-from_err _ _ c.from_residual.ensures.0

pub loop-tile-init : goal.loop-tile-init
loop-tile-init c =
    let all : length c.args.rows.now ≡ length c.args.rows.now - 0 = omega arith in
    c.in_ok-set.ensures ∙ ap (λ n. replicate n false) all

pub insert-requires : goal.insert-requires
insert-requires c =
    let count = bits_count c.args.rows.now c.loop-tile.tile c.index-rows-tile.result c.loop-tile-test.true
    c.index-rows-tile.is c.loop-tile.set c.loop-tile.invariant in
    omega (arith, count, c.loop-tile-test.true)

pub loop-tile-preserved : goal.loop-tile-preserved
loop-tile-preserved c = elim c.if-row.branch [
  | then-row w ↦
      w.set-is ∙ w.insert.ensures
      ∙ one_more_dirty c.args.rows.now c.loop-tile.tile c.index-rows-tile.result c.loop-tile-test.true
      c.index-rows-tile.is c.loop-tile.set c.loop-tile.invariant w.if-row.true
  | else-row w ↦
      w.set-is
      ∙ one_more_clean c.args.rows.now c.loop-tile.tile c.index-rows-tile.result c.loop-tile-test.true
      c.index-rows-tile.is c.loop-tile.set c.loop-tile.invariant w.if-row.false
]

pub returns : goal.returns
returns c = all_marked c.args.rows.now c.loop-tile.tile c.loop-tile.set c.loop-tile-test.false c.loop-tile.invariant
