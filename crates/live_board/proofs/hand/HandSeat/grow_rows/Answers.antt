use Rattle.std.proofs.Common.{◌-◌, subst₂, ℕ}
use Rattle.grid_core.specs.Raster.{Raster}
use Rattle.live_board.proofs.Bands.{band_grown}
use Rattle.live_board.proofs.Flooded.{rows_rect}
use Rattle.live_board.specs.{Seats.ground_of, Seats.hand_view, Words.mask_of}
use Rattle.raster_sweeps.specs.Regrowth.{IsRegrownIn}
use Rattle.live_board.proofs.hand.HandSeat.grow_rows.Goals as goal

pub returns : goal.returns
returns c =
    let base = ground_of c.args.board.now in
    let first : ℕ = c.args.rows.first in
    let end : ℕ = c.args.rows.end in
    let before : Raster = c.args.draft.now.image in
    let after : Raster = c.grow_within.new.image in
    let whole = c.width.ensures.sized.sized in
    let grown : IsRegrownIn base.conn (rows_rect base first end) (mask_of base) before after =
    subst₂ (λ (r : Raster) (z : ℕ).
    IsRegrownIn base.conn (record { x = 0; y = first; w = z; h = end - first }) r before after)
    c.grid-mask.ensures.value c.width.ensures.value c.grow_within.ensures in
    record {
      drawn = band_grown base c.args.band c.args.rows (hand_view c.args.self.now) before after whole.filled
          whole.size.some_width c.requires.band c.requires.rows c.requires.drawn grown;
    }
