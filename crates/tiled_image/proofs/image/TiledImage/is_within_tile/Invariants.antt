-- What the loop of `is_within_tile` keeps.
use Rattle.std.proofs.Common.{ℕ, ◌<◌}
use Rattle.tiled_image.specs.Shown.{IsRowWithin}
use Rattle.tiled_image.proofs.image.TiledImage.is_within_tile.Given as goal

-- the rows so far are within
abbrev pub invariant-loop-y : goal.invariant-loop-y
invariant-loop-y l = (y : ℕ) → y < l.y → IsRowWithin l.is_equal l.rect l.self.image l.piece y l.rect.w
