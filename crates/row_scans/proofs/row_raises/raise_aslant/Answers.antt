use Rattle.std.proofs.Common.{◌-◌, length, arith}
use Rattle.row_scans.proofs.RowRaises.{raised_aside}
use Rattle.row_scans.proofs.row_raises.raise_aslant.Goals as goal

pub returns : goal.returns
returns c =
    let n = length c.args.row.now - 1 in
    let both =
    raised_aside n c.requires.rows (omega arith) c.raise_straight.new.row c.raise_straight-2.new.row
    c.raise_straight.ensures c.raise_straight-2.ensures in
    record { raised = both.0; closed = both.1 }
