use Rattle.std.proofs.Common.{length, ◌-◌, ℕ, ◌≤◌, List, take}
use Rattle.view_session.specs.Input.{AreWholeLines, HasImageLine}
use Rattle.view_session.proofs.input.split.Given as goal

-- whole lines so far, and no `image` line among them
abbrev pub invariant-loop-start : goal.invariant-loop-start
invariant-loop-start l = record {
  within : l.start ≤ length l.input;
  whole_lines : AreWholeLines (take l.start l.input);
  none_before : (edits file : List ℕ) → HasImageLine l.input edits file → l.start ≤ length edits;
}

abbrev pub decreases-loop-start : goal.decreases-loop-start
decreases-loop-start l = length l.input - l.start
