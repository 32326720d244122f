use Rattle.std.proofs.Common.{◌<◌, ◌≤◌, length, arith}
use Rattle.row_scans.proofs.Strips.{next_from_left}
use Rattle.row_scans.proofs.row_raises.raise_block_from_left.Goals as goal

pub loop-end-preserved : goal.loop-end-preserved
loop-end-preserved c =
    let next = c.min-end.result in
    let sofar = c.loop-end.invariant.sofar in
    let grows : c.loop-end.end < next = omega (arith, c.min-end.ensures, c.loop-end-test.true, sofar.long) in
    let within : next ≤ length c.args.block.now = omega (arith, c.min-end.ensures, sofar.long) in
    record {
      sofar =
          next_from_left next c.requires.1 c.loop-end.invariant.some grows within sofar c.raise_strip_from_left.ensures;
      some = omega (arith, grows);
    }
