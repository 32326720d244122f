-- What a board has once the marker of the core's strokes was brought to it.
use Rattle.std.proofs.Common.{Bool, IsTrue, refl, subst, sym, ◌↔◌, ◌∙◌, ◌≡◌}
use Rattle.grid_core.specs.Raster.{IsBelow, Raster}
use Rattle.core_rules.specs.Work.{Core}
use Rattle.live_board.specs.Closing.{AreAllPlanted}
use Rattle.live_board.specs.{declared.rule.Ground.Ground, declared.rule.SeatView.SeatView}
use Rattle.marker_tiles.specs.Kept.{IsMarkerOf}
use Rattle.studio.specs.Mirroring.{HasMirrored, IsBrought}

-- a copy of the marker of the core's strokes
pub copy_is : (found core : Core) (kept lent copy : Raster) → found ≡ core → IsMarkerOf found.mask found.state kept
    → lent ≡ kept → copy ≡ lent → IsMarkerOf core.mask core.state copy
copy_is found core kept lent copy same marks as_kept as_lent =
    subst (λ (k : Core). IsMarkerOf k.mask k.state copy) same
    (subst (IsMarkerOf found.mask found.state) (sym (as_lent ∙ as_kept)) marks)

-- a marker that was brought and planted at each pixel is mirrored
pub is_mirrored : (on : Ground) (core : Core) (marker : Raster) (advanced : Bool) (old middle new : SeatView)
    → IsBrought marker advanced old middle → new.generation ≡ middle.generation → new.marker ≡ middle.marker
    → AreAllPlanted on new → IsMarkerOf core.mask core.state marker
    → HasMirrored on core (record { advanced = advanced }) old new
is_mirrored on core marker advanced old middle new brought generation stays planted marks =
    let is : new.marker ≡ marker = stays ∙ brought.marker_is in
    record {
      brought = record {
        marker_is = refl;
        advanced_is = subst (λ (m : Raster). IsTrue advanced ↔ (IsBelow old.marker m → ⊥)) (sym is) brought.advanced_is;
        generation = generation ∙ brought.generation;
        room = brought.room;
      };
      marks = subst (IsMarkerOf core.mask core.state) (sym is) marks;
      planted = planted;
    }
