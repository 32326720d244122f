use Rattle.std.proofs.Common.{◌≤◌, ◌≡◌, vec_capacity, vec_len}
use Rattle.row_scans.specs.Waiting.{AreEmptyLists}
use Rattle.row_scans.proofs.lists.empty_lists.Given as goal

abbrev pub invariant-loop : goal.invariant-loop
invariant-loop l = record {
  lists : AreEmptyLists l.lists.items l.counter;
  capacity : l.count ≤ vec_capacity l.lists;
  long : vec_len l.lists ≡ l.counter;
}
