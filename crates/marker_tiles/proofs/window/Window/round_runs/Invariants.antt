use Rattle.std.proofs.Common.{take, IsTrue}
use Rattle.std.specs.List.{list_any}
use Rattle.grid_core.specs.declared.pixel.Pixel.{Pixel}
use Rattle.stroke_core.specs.Seed.{run_covers}
use Rattle.marker_tiles.specs.Painting.{in_window}
use Rattle.marker_tiles.proofs.window.Window.round_runs.Given as goal

-- the window has the pixels of the runs so far
abbrev pub invariant-loop-run : goal.invariant-loop-run
invariant-loop-run l =
    (p : Pixel) → IsTrue (list_any (λ run. run_covers run p) (take l.run-index l.runs)) → IsTrue (in_window l.window p)
