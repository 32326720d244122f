use Rattle.std.proofs.Common.{◌≡◌, ◌∷◌, ◌++◌, drop, flat_map}
use Rattle.std.specs.List.{AllByRecursion}
use Rattle.edit_lang.specs.{Shapes.comma, Writing.run_text, Writing.HasCoordinates}
use Rattle.edit_lang.proofs.writing.put_runs_behind.Given as goal

abbrev pub invariant-loop-run : goal.invariant-loop-run
invariant-loop-run l = record {
  text : l.out.items ++ flat_map (λ run. comma ∷ run_text run) (drop l.run-index l.runs)
      ≡ l.initial.out.items ++ flat_map (λ run. comma ∷ run_text run) l.runs;
  fit : AllByRecursion HasCoordinates (drop l.run-index l.runs) → AllByRecursion HasCoordinates l.runs;
}
