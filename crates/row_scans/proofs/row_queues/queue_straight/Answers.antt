use Rattle.std.proofs.Common.{arith}
use Rattle.row_scans.specs.Rows.{AreRows}
use Rattle.row_scans.proofs.Joining.{strip_checked, strip_stopped}
use Rattle.row_scans.proofs.row_queues.queue_straight.Goals as goal

pub returns-then-not-queue_strip : goal.returns-then-not-queue_strip
returns-then-not-queue_strip c =
    let rows : AreRows c.args.from.now c.args.mask.now c.args.to.now = assumption c.requires in
    strip_stopped c.min-end.result c.loop-start.invariant.checked (omega arith) (omega arith) rows
    c.if-not-queue_strip.ensures

pub loop-start-preserved : goal.loop-start-preserved
loop-start-preserved c =
    let rows : AreRows c.args.from.now c.args.mask.now c.args.to.now = assumption c.requires in
    record {
      within = omega arith;
      checked =
          strip_checked c.min-end.result c.loop-start.invariant.checked (omega arith) (omega arith) rows
          c.if-not-queue_strip.ensures;
    }
