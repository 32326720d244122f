use Rattle.row_scans.specs.Waiting.{AreEmptyWithin, HaveCapacity}
use Rattle.row_scans.proofs.lists.Lists.clear.Given as goal

abbrev pub invariant-loop-list : goal.invariant-loop-list
invariant-loop-list l = record {
  empty : AreEmptyWithin l.list-items 0 l.list-index;
  capacity : HaveCapacity l.list-items;
}
