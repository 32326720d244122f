use Rattle.std.proofs.Common.{◌≡◌, length}
use Rattle.edit_lang.specs.Shapes.{runs_of}
use Rattle.edit_lang.proofs.Runs.{with_front}
use Rattle.edit_lang.proofs.shape.parse_runs.Given as goal

abbrev pub invariant-loop-piece : goal.invariant-loop-piece
invariant-loop-piece l = with_front l.runs.items (runs_of l.rest) ≡ runs_of l.word

abbrev pub decreases-loop-piece : goal.decreases-loop-piece
decreases-loop-piece l = length l.rest
