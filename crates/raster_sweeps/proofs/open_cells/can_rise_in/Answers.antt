use Rattle.std.proofs.Common.{◌≡◌, ◌≤◌, min, get_or, sym, subst, arith, inl, inr}
use Rattle.std.proofs.lemmas.Bool.{cases_lt}
use Rattle.raster_sweeps.proofs.open_cells.can_rise_in.Goals as goal

pub loop-cell-init : goal.loop-cell-init
loop-cell-init c k from before = absurd (omega (arith, from, before))

pub loop-cell-preserved : goal.loop-cell-preserved
loop-cell-preserved c k from before = elim (cases_lt k c.loop-cell.cell) [
  | inl less ↦ c.loop-cell.invariant k from less
  | inr more ↦
      let same : k ≡ c.loop-cell.cell = omega (arith, more, before) in
      subst (λ i. min c.args.level (get_or c.args.mask.now i 0) ≤ get_or c.args.cells.now i 0) (sym same)
      (omega (arith, c.if-cells-at.false, c.min.ensures))
]

pub returns : goal.returns
returns c k here lower =
    absurd (omega (arith, lower, c.loop-cell.invariant k here.0 (omega (arith, here.1, c.loop-cell-test.false))))
