use Rattle.std.proofs.Common.{◌≡◌, ◌+◌, ◌≤◌, ◌++◌, length, vec_capacity}
use Rattle.border_queues.specs.Runs.{entries_along}
use Rattle.border_queues.proofs.runs.HintRuns.push_along.Given as goal

-- the entries of the places so far came behind the others, and no run since
abbrev pub invariant-loop-place : goal.invariant-loop-place
invariant-loop-place l =
    let before = l.initial.self-inside in
    let now = l.self-inside in
    record {
      runs : now.runs ≡ before.runs;
      entries : now.entries.items ≡ before.entries.items ++ entries_along l.run l.side l.place;
      len : length now.entries.items ≤ length before.entries.items + l.place;
      capacity : vec_capacity before.entries ≤ vec_capacity now.entries;
    }
