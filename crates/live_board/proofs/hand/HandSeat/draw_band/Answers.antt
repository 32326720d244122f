use Rattle.std.proofs.Common.{◌*◌, subst, ℕ}
use Rattle.live_board.proofs.Bands.{band_read}
use Rattle.live_board.specs.{Flooding.HasTakenIn, Seats.ground_of, Seats.hand_view}
use Rattle.live_board.proofs.hand.HandSeat.draw_band.Goals as goal

pub returns-clause-drawn : goal.returns-clause-drawn
returns-clause-drawn c =
    let base = ground_of c.args.board.now in
    let band = c.args.band in
    let started = hand_view c.start.new.self in
    let read = hand_view c.draw.new.self in
    band_read base band started read c.draw.new.image c.width-width.ensures.sized.sized.filled c.requires.band
    c.draw.ensures.image
    (subst (λ (z : ℕ). HasTakenIn base (z * band.first) (z * band.end) c.draw.new.image.cells started read)
    c.width-width.ensures.value c.draw.ensures.taken)
