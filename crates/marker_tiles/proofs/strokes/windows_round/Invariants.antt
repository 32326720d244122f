use Rattle.std.proofs.Common.{◌≡◌, length, take, IsTrue}
use Rattle.grid_core.specs.{declared.pixel.Pixel.Pixel, Raster.IsInside}
use Rattle.marker_tiles.specs.{Painting.WindowsFit, Painting.in_some, UnderTags.some_covers}
use Rattle.marker_tiles.proofs.strokes.windows_round.Given as goal

-- a window for each tag so far, with the pixels of their strokes
abbrev pub invariant-loop-tag : goal.invariant-loop-tag
invariant-loop-tag l =
    (length l.windows ≡ l.tag-index)
    × WindowsFit l.mask.width l.mask.height l.windows
    × ((p : Pixel) → IsInside l.mask.width l.mask.height p
    → IsTrue (some_covers l.state (take l.tag-index l.tags) p) → IsTrue (in_some l.windows p))
