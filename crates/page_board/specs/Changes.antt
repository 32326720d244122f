-- What a page is told that asks what changed: numbers, rectangles, strokes and pixels of one moment.
use Rattle.std.specs.Prelude.{◌≡◌, ℕ, ◌+◌, ◌<◌, ◌≤◌, List, [], ◌∷◌, ◌++◌}
use Rattle.std.specs.Prelude.{◌↔◌, ◌⊎◌, if◌then◌else◌, decimal, Contains, Option}
use Rattle.std.specs.Prelude.{Some, None, flat_map}
use Rattle.grid_core.specs.{declared.pixel.Pixel.Pixel, declared.rect.Rect.Rect, Raster.Raster, Raster.IsInside}
use Rattle.grid_core.specs.{Rects.IsInRect, Rects.IsPart, Rects.RectFits, Tiles.tile_of}
use Rattle.stroke_core.specs.Seed.{Seed}
use Rattle.stroke_lattice.specs.{State.State, Growth.AreTags}
use Rattle.pgm_codec.specs.{Graymap.Graymap, Writing.sample_bytes, Spelling.line_feed, Spelling.blank}
use Rattle.edit_lang.specs.Writing.{placement_text, withdrawal_text}
use Rattle.core_rules.specs.{Counting.dirty_tiles, Work.Core, Work.tiling, Work.IsQuiet}
use Rattle.page_board.specs.Board.{PageBoard, image_of, shown_at, since_of, HasTurned}
use Rattle.std.specs.FinMap as map
use Rattle.std.specs.FinSet as set

-- each rectangle has a pixel, and lies in an image of this width and height
abbrev pub AllFit : ℕ → ℕ → List Rect → Type 0
AllFit width height rects = (rect : Rect) → Contains rects rect → RectFits width height rect

-- the pixel lies in one of the rectangles
abbrev pub IsCovered : List Rect → Pixel → Type 0
IsCovered rects p = (rect : Rect) × Contains rects rect × IsInRect rect p

-- the second rectangle lies below the first, or right of it, with the same rows and a gap between them
abbrev pub IsBehind : Rect → Rect → Type 0
IsBehind left right =
    (left.y + left.h ≤ right.y) ⊎ (left.y ≡ right.y) × (left.h ≡ right.h) × (left.x + left.w < right.x)

-- each rectangle lies behind the one before it: they come from the top, each row from the left, none of them has a
-- pixel of another one, and tiles beside one another are one rectangle
abbrev pub AreApart : List Rect → Type 0
AreApart [] = Unit {0}
AreApart (rect ∷ []) = Unit {0}
AreApart (left ∷ (right ∷ rects)) = IsBehind left right × AreApart (right ∷ rects)

-- the rectangles hold the pixels of the tiles that changed after this step, and no other pixel; and each of them lies
-- behind the one before it
pub record AreRectsSince (b : PageBoard) (since : ℕ) (rects : List Rect) : Type 0 where
  pub fit : AllFit b.core.mask.width b.core.mask.height rects
  pub cover : (p : Pixel) → IsInside b.core.mask.width b.core.mask.height p
      → IsCovered rects p ↔ (since < shown_at b (tile_of (tiling b.core) p))
  pub apart : AreApart rects

-- the samples of the rectangles one after another, each row by row
abbrev pub AreSamplesIn : Graymap → List Rect → List ℕ → Type 0
AreSamplesIn g [] bytes = bytes ≡ []
AreSamplesIn g (rect ∷ rects) bytes =
    (piece : Raster) × (others : List ℕ) × IsPart rect g.raster piece × AreSamplesIn g rects others
    × (bytes ≡ flat_map (sample_bytes g.maxval) piece.cells ++ others)

-- ---- the lines

-- 1 where no work is left, else 0
abbrev pub IsQuietDigit : Core → ℕ → Type 0
IsQuietDigit core digit = ((digit ≡ 1) × IsQuiet core) ⊎ ((digit ≡ 0) × (IsQuiet core → ⊥))

-- RUN VERSION STEP QUIET TILES-LEFT, the last one how many tiles are dirty
abbrev pub numbers_line : PageBoard → ℕ → List ℕ
numbers_line b quiet =
    decimal b.run ++ blank
    ∷ (decimal b.version ++ blank
    ∷ (decimal b.step ++ blank ∷ (decimal quiet ++ blank ∷ (decimal (dirty_tiles b.core) ++ line_feed ∷ []))))

-- x y w h
abbrev pub rect_line : Rect → List ℕ
rect_line rect =
    decimal rect.x ++ blank
    ∷ (decimal rect.y ++ blank ∷ (decimal rect.w ++ blank ∷ (decimal rect.h ++ line_feed ∷ [])))

-- the line that places the stroke of the tag, where there is one
abbrev pub placing_line : ℕ → Option Seed → List ℕ
placing_line tag None = []
placing_line tag (Some seed) = placement_text tag seed

-- the line of the edit language that says how it stands with the tag: that its stroke is withdrawn, or placed
abbrev pub tag_line : State → ℕ → List ℕ
tag_line s tag =
    if set.contains s.tombstones tag then withdrawal_text tag else placing_line tag (map.get s.strokes tag)

-- ---- the answer

-- what a page is told that was told this step of this run: a line of numbers, a line for each rectangle, a line for
-- each tag that turned, rising by tag, an empty line, and the samples of the image in the rectangles
pub record AreChanges (b : PageBoard) (run since : ℕ) (text : List ℕ) : Type 0 where
  pub quiet : ℕ
  pub is_quiet : IsQuietDigit b.core quiet
  pub rects : List Rect
  pub are_rects : AreRectsSince b (since_of b run since) rects
  pub tags : List ℕ
  pub are_tags : AreTags (HasTurned b (since_of b run since)) tags
  pub samples : List ℕ
  pub are_samples : AreSamplesIn (image_of b) rects samples
  pub parts : text ≡ numbers_line b quiet ++ flat_map rect_line rects
      ++ flat_map (tag_line b.core.state) tags ++ line_feed ∷ samples
