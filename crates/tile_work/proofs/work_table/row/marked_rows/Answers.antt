-- What the tactics leave open of `marked_rows`.
use Rattle.std.proofs.Common.{None, ap, ◌∙◌}
use Rattle.std.proofs.lemmas.{List.take_all, Result.IfOk-from_err}
use Rattle.tile_work.specs.WorkTable.{as_work, works_of}
use Rattle.tile_work.proofs.CuttingWork.{one_more_copied}
use Rattle.tile_work.proofs.work_table.row.marked_rows.Goals as goal

pub returns-in_err-copies : goal.returns-in_err-copies
returns-in_err-copies c = IfOk-from_err _ _ c.from_residual.ensures.0

pub loop-row-init : goal.loop-row-init
loop-row-init c = ap works_of c.in_ok-copies.ensures.items

pub returns-in_err-push : goal.returns-in_err-push
returns-in_err-push c = IfOk-from_err _ _ c.from_residual-in_err-push.ensures.0

pub loop-row-preserved : goal.loop-row-preserved
loop-row-preserved c =
    ap works_of c.in_ok-push.ensures.items
    ∙ one_more_copied c.args.rows.now c.loop-row.row-index c.row-item.result c.loop-row-test.true c.row-item.is
    c.requires c.loop-row.copies.items _
    (ap (λ hints. record (as_work c.row-item.result) { out = None; inbox = hints }) c.new.ensures)
    c.loop-row.invariant

pub returns : goal.returns
returns c =
    c.loop-row.invariant ∙ ap works_of (take_all c.loop-row.row-index c.args.rows.now c.loop-row-test.false)
