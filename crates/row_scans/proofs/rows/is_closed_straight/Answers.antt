use Rattle.std.proofs.{Common.◌≤◌, Common.min, Common.get_or, lemmas.Bool.ltb-false, lemmas.Bool.le-ltb}
use Rattle.row_scans.proofs.RowPairs.{flag_more}
use Rattle.row_scans.proofs.rows.is_closed_straight.Goals as goal

pub loop-i-preserved : goal.loop-i-preserved
loop-i-preserved c =
    flag_more
    (λ k. min (get_or c.args.from.now k 0) (get_or c.args.mask.now k 0) ≤ get_or c.args.to.now k 0)
    c.loop-i.i c.loop-i.open _ c.loop-i.invariant
    (rw (← c.min.ensures) (ltb-false _ _, le-ltb _ _))
