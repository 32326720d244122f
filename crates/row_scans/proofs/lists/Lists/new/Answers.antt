use Rattle.std.proofs.Common.{arith}
use Rattle.row_scans.proofs.Bags.{no_cells}
use Rattle.row_scans.proofs.lists.Lists.new.Goals as goal

pub invariant_of-result : goal.invariant_of-result
invariant_of-result c = record {
  capacity = c.in_ok-empty_lists.ensures.capacity;
  within = omega (arith, c.in_ok-empty_lists.ensures.long, c.requires.strips);
}

pub returns : goal.returns
returns c = no_cells c.in_ok-empty_lists.field-0.items c.in_ok-empty_lists.ensures.empty
