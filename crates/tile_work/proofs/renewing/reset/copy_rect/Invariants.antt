-- What the loop of `copy_rect` keeps.
use Rattle.tile_work.specs.Renewing.{IsMadeWhere, marker_value}
use Rattle.tile_work.proofs.RenewingRects.{rect_above}
use Rattle.tile_work.proofs.renewing.reset.copy_rect.Given as goal

-- the rows above this one are copied
abbrev pub invariant-loop-y : goal.invariant-loop-y
invariant-loop-y l = IsMadeWhere (rect_above l.fn.rect l.y) marker_value l.marker l.fn.image l.image
