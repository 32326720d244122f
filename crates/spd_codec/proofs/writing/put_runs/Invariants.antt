use Rattle.std.proofs.Common.{◌≡◌, ◌++◌, drop, flat_map}
use Rattle.std.specs.List.{AllByRecursion}
use Rattle.spd_codec.specs.Spelling.{run_text, RunFits}
use Rattle.spd_codec.proofs.writing.put_runs.Given as goal

abbrev pub invariant-loop-run : goal.invariant-loop-run
invariant-loop-run l = record {
  text : l.out.items ++ flat_map run_text (drop l.run-index l.runs) ≡ l.initial.out.items ++ flat_map run_text l.runs;
  fit : AllByRecursion RunFits (drop l.run-index l.runs) → AllByRecursion RunFits l.runs;
}
