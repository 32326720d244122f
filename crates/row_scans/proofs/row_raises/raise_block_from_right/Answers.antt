use Rattle.std.proofs.Common.{◌<◌, ◌≤◌, length, arith}
use Rattle.row_scans.proofs.Strips.{next_from_right}
use Rattle.row_scans.proofs.row_raises.raise_block_from_right.Goals as goal

pub loop-end-preserved : goal.loop-end-preserved
loop-end-preserved c =
    let start = c.saturating_sub-start.result in
    let end = c.loop-end.end in
    let sofar = c.loop-end.invariant.sofar in
    let grows : start < end = omega (arith, c.saturating_sub-start.ensures, c.loop-end-test.true) in
    let within : end ≤ length c.args.block.now = omega (arith, c.loop-end.invariant.within, sofar.long) in
    let next = next_from_right start c.requires.1 grows within sofar c.raise_strip_from_right.ensures in
    record {
      sofar = next;
      within = omega (arith, next.long, sofar.long, c.loop-end.invariant.within, grows);
    }
