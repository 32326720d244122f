use Rattle.band_growth.specs.Steps.{ClosedApart, HaveGrown}
use Rattle.band_growth.proofs.seam.run_down.Given as goal

abbrev pub invariant-loop-y : goal.invariant-loop-y
invariant-loop-y l = record {
  grown : HaveGrown l.limits l.fn.image l.image;
  closed : ClosedApart l.limits l.fn.image l.cut l.cut → ClosedApart l.limits l.image l.cut l.y;
}
