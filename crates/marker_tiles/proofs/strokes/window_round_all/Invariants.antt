use Rattle.std.proofs.Common.{take, IsTrue}
use Rattle.grid_core.specs.declared.pixel.Pixel.{Pixel}
use Rattle.marker_tiles.specs.{Painting.in_window, UnderTags.some_covers}
use Rattle.marker_tiles.proofs.strokes.window_round_all.Given as goal

-- the window has the pixels of the strokes under the tags so far
abbrev pub invariant-loop-tag : goal.invariant-loop-tag
invariant-loop-tag l =
    (p : Pixel) → IsTrue (some_covers l.state (take l.tag-index l.tags) p) → IsTrue (in_window l.window p)
