use Rattle.std.proofs.Common.{◌<◌, ◌≤◌, length, arith}
use Rattle.row_scans.proofs.RowPairs.{closed_further}
use Rattle.row_scans.proofs.rows.is_closed_along.Goals as goal

pub loop-end-preserved : goal.loop-end-preserved
loop-end-preserved c =
    let row = c.args.row.now in
    let end = c.loop-end.end in
    let next = c.min-end.result in
    let grows : end < next = omega (arith, c.min-end.ensures, c.loop-end-test.true) in
    let within : next ≤ length row = omega (arith, c.min-end.ensures) in
    record {
      sofar = closed_further row c.args.mask.now end next c.loop-end.invariant.some grows within c.requires
          c.loop-end.invariant.sofar (c.is_section_closed.ensures.0 c.if-not-is_section_closed.false);
      some = omega (arith, grows);
    }
