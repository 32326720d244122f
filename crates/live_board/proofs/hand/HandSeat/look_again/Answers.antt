use Rattle.std.proofs.Common.{◌*◌, List, ap₂, length, subst, sym, ℕ, ◌∙◌, ◌≡◌}
use Rattle.grid_core.specs.Raster.{Raster}
use Rattle.live_board.specs.{Bands.IsDrawn, Flooding.AreFounded, Seats.ground_of, Seats.hand_view, Words.mask_of}
use Rattle.live_board.proofs.hand.HandSeat.look_again.Goals as goal

pub take_again-requires-clause-founded : goal.take_again-requires-clause-founded
take_again-requires-clause-founded c =
    let base = ground_of c.args.board.now in
    let w : ℕ = (mask_of base).width in
    let band = c.args.band in
    subst (λ (l : List ℕ). AreFounded base (hand_view c.args.self.now) (w * band.first) (w * band.end) l)
    (sym c.cells_mut.ensures.values) c.requires.drawn.founded

pub returns-clause-drawn : goal.returns-clause-drawn
returns-clause-drawn c =
    let base = ground_of c.args.board.now in
    let image : Raster = c.args.image.now in
    let new : List ℕ = c.take_again.new.cells in
    let below = c.requires.drawn.below in
    let long : length new ≡ length image.cells =
    c.take_again.ensures.low.0 ∙ c.width-width.ensures.sized.sized.filled
    ∙ sym (c.cells_mut.ensures.sized.filled ∙ ap₂ (λ (w h : ℕ). w * h) below.width below.height) in
    subst (IsDrawn base c.args.band (hand_view c.take_again.new.self))
    (sym (c.cells_given_back.ensures image new long)) (record {
      below = record { width = below.width; height = below.height; values = c.take_again.ensures.low.1 };
      founded = c.take_again.ensures.founded;
    })
