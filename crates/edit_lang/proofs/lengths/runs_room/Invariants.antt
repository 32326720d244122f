use Rattle.std.proofs.Common.{◌≡◌, ◌+◌, ◌*◌, ◌≤◌, length, take, sum_by}
use Rattle.edit_lang.specs.Writing.{run_text}
use Rattle.edit_lang.proofs.lengths.runs_room.Given as goal

abbrev pub invariant-loop-run : goal.invariant-loop-run
invariant-loop-run l = record {
  sum : l.length ≡ sum_by (λ run. length (run_text run) + 1) (take l.run-index l.runs);
  bound : l.length ≤ l.run-index * 18;
}
