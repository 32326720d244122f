-- What the loop of `is_row_within` keeps.
use Rattle.tiled_image.specs.Shown.{IsRowWithin}
use Rattle.tiled_image.proofs.image.TiledImage.is_row_within.Given as goal

-- the pixels so far are within
abbrev pub invariant-loop-x : goal.invariant-loop-x
invariant-loop-x l = IsRowWithin l.is_equal l.rect l.self.image l.piece l.y l.x
