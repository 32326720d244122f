use Rattle.std.proofs.Common.{◌<◌, get_or, length, inl, inr, arith}
use Rattle.std.proofs.lemmas.List.{get_or_default}
use Rattle.stroke_core.specs.{declared.run.Run.Run, Seed.run_covers}
use Rattle.marker_tiles.proofs.Enclosing.{any_of_more}
use Rattle.marker_tiles.proofs.window.Window.round_runs.Goals as goal

pub loop-run-preserved : goal.loop-run-preserved
loop-run-preserved c p has =
    let runs = c.args.runs.now in
    let i = c.loop-run.run-index in
    let none : Run = record { y = 0; x0 = 0; x1 = 0 } in
    let run : Run = get_or runs i none in
    let within : i < length runs = omega (arith, c.loop-run-test.true) in
    elim (any_of_more (λ r. run_covers r p) runs i run within (get_or_default runs i none run within) has) [
      | inl earlier ↦ c.joined-window.ensures.first p (c.loop-run.invariant p earlier)
      | inr here ↦ c.joined-window.ensures.second p (c.round_run.ensures p here)
    ]
