-- The laws of boards, as statements. Public functions have them as their contracts.
use Rattle.std.specs.Prelude.{◌≡◌, ◌≢◌, ℕ, List, ◌⊎◌, Contains}
use Rattle.grid_core.specs.{declared.pixel.Pixel.Pixel, Raster.IsInside}
use Rattle.stroke_lattice.specs.State.{IsLiveTag}
use Rattle.core_rules.specs.Work.{image_at}
use Rattle.page_board.specs.Board.{PageBoard, mask_of, IsWhole}
use Rattle.page_board.specs.Keeping.{KeepsBoard, HasAllIn, KeepsAllOf}
use Rattle.page_board.specs.{Later.IsLater, Later.HasSameStroke, Changes.AreChanges, Changes.IsCovered}

-- a board is itself, later
abbrev pub EachIsLater : Type 0
EachIsLater = (b : PageBoard) → IsLater b b

-- what is later than a later board is later
abbrev pub LaterGoesOn : Type 0
LaterGoesOn = (a b c : PageBoard) → IsLater a b → IsLater b c → IsLater a c

-- what is later than a board has all that the board had of the bytes of a state file
abbrev pub LaterHasAll : Type 0
LaterHasAll = (old new : PageBoard) (file : List ℕ) → IsLater old new → HasAllIn old file → HasAllIn new file

-- bytes that keep a board keep a later one with the same strokes and tombstones
abbrev pub SameStateIsKept : Type 0
SameStateIsKept =
    (old new : PageBoard) (file : List ℕ) → IsLater old new → new.core.state ≡ old.core.state → KeepsBoard old file
    → KeepsBoard new file

-- bytes that keep a board keep all that the board has of others
abbrev pub AllIsKept : Type 0
AllIsKept =
    (b : PageBoard) (found made : List ℕ) → HasAllIn b found → KeepsBoard b made
    → KeepsAllOf b.core.conn (mask_of b) found made

-- each pixel has the value that it had when the page was told a step, or lies in a rectangle of what it is told now;
-- and each tag has the live stroke that it had then, or has a line
pub record TellsAllSince (old new : PageBoard) (text : List ℕ) (changes : AreChanges new old.run old.step text)
    : Type 0 where
  pub pixels : (p : Pixel) → IsInside old.core.mask.width old.core.mask.height p
      → (image_at new.core p ≡ image_at old.core p) ⊎ IsCovered changes.rects p
  pub strokes : (tag : ℕ) → HasSameStroke old.core.state new.core.state tag ⊎ Contains changes.tags tag

-- what a later board tells a page that was told the step of an earlier one
abbrev pub ChangesTellAll : Type 0
ChangesTellAll =
    (old new : PageBoard) (text : List ℕ) → IsWhole old → IsLater old new
    → (changes : AreChanges new old.run old.step text) → TellsAllSince old new text changes

-- a page of another run is told each pixel and each live stroke
abbrev pub AnotherRunIsToldAll : Type 0
AnotherRunIsToldAll =
    (b : PageBoard) (run since : ℕ) (text : List ℕ) → IsWhole b → run ≢ b.run
    → (changes : AreChanges b run since text)
    → ((p : Pixel) → IsInside b.core.mask.width b.core.mask.height p → IsCovered changes.rects p)
    × ((tag : ℕ) → IsLiveTag b.core.state tag → Contains changes.tags tag)
