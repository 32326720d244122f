use Rattle.row_scans.specs.Waiting.{AreEmptyWithin}
use Rattle.row_scans.proofs.lists.first_from.Given as goal

abbrev pub invariant-loop-at : goal.invariant-loop-at
invariant-loop-at l = AreEmptyWithin l.lists l.start l.at
