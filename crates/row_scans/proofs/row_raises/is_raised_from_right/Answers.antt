use Rattle.std.proofs.Common.{◌≡◌, ◌+◌, ◌-◌, length, sym, refl, arith, zero-add}
use Rattle.std.proofs.Math.Nat.{max-eq_left}
use Rattle.row_scans.specs.Rows.{AreRows}
use Rattle.row_scans.proofs.RowPairs.{left_parts, straight_parts}
use Rattle.row_scans.proofs.row_raises.is_raised_from_right.Goals as goal

pub returns : goal.returns
returns c closed =
    let rows : AreRows c.args.row.now c.args.mask.now c.args.row.now = record { from = refl; mask = c.requires.1 } in
    let parts = left_parts (length c.args.row.now - 1) rows (omega arith) in
    record {
      long = refl;
      last = λ k end. refl;
      raised = λ k less.
          let next : k + 1 ≡ 1 + k = omega arith in
          let lower = (straight_parts parts).0 (c.is_closed_straight.ensures.0 closed) k (omega arith) in
          rw next (sym (max-eq_left (simp zero-add at lower)));
    }
