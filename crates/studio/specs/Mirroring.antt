-- How a board follows a core.
use Rattle.std.specs.Prelude.{◌+◌, ◌<◌, Bool, IsTrue, ◌↔◌, ◌≡◌}
use Rattle.grid_core.specs.Raster.{IsBelow, Raster}
use Rattle.core_rules.specs.Work.{Core}
use Rattle.live_board.specs.{Closing.AreAllPlanted, Rounds.one_if, Words.mask_of}
use Rattle.live_board.specs.{Words.max_generation, declared.rule.Ground.Ground, declared.rule.SeatView.SeatView}
use Rattle.marker_tiles.specs.Kept.{IsMarkerOf}
use Rattle.studio.specs.declared.mirrored.Mirrored.{Mirrored}

-- the board stands on the core's mask
abbrev pub IsBoardOf : Ground → Core → Type 0
IsBoardOf on core = (mask_of on ≡ core.mask) × (on.conn ≡ core.conn)

-- the marker was brought, in the next generation just where the one before is not below it. That generation is there
pub record IsBrought (marker : Raster) (advanced : Bool) (old new : SeatView) : Type 0 where
  pub marker_is : new.marker ≡ marker
  pub advanced_is : IsTrue advanced ↔ (IsBelow old.marker marker → ⊥)
  pub generation : new.generation ≡ old.generation + one_if advanced
  pub room : IsTrue advanced → old.generation < max_generation

-- the seat's marker is that of the core's strokes, and each pixel was planted
pub record HasMirrored (on : Ground) (core : Core) (mirrored : Mirrored) (old new : SeatView) : Type 0 where
  pub brought : IsBrought new.marker mirrored.advanced old new
  pub marks : IsMarkerOf core.mask core.state new.marker
  pub planted : AreAllPlanted on new

-- there is no next generation, and the marker of the core's strokes needs one
pub record IsSpent (core : Core) (old : SeatView) : Type 0 where
  pub last : old.generation ≡ max_generation
  pub marker : Raster
  pub marks : IsMarkerOf core.mask core.state marker
  pub falls : IsBelow old.marker marker → ⊥
