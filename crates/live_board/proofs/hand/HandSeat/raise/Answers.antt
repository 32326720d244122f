use Rattle.std.proofs.Common.{◌*◌, ◌+◌, ◌<◌, ap, min, subst, ℕ, ◌∙◌, ◌≡◌}
use Rattle.grid_core.specs.Raster.{value_at}
use Rattle.live_board.proofs.{Allowed.may_raise, Telling.raised_is}
use Rattle.live_board.specs.{Seats.ground_of, Seats.hand_view, Words.mask_of, declared.fact.Fact.Fact}
use Rattle.live_board.proofs.hand.HandSeat.raise.Goals as goal

pub lift-requires-clause-asked : goal.lift-requires-clause-asked
lift-requires-clause-asked c =
    let f : Fact = c.args.from.now in
    may_raise (ground_of c.args.board.now) c.args.self.now.seat.id (hand_view c.args.self.now) f c.args.pixel _
    c.requires.fact.known c.requires.pixel (ap (λ (k : ℕ). f.generation * 65536 + k) (c.from.ensures
    ∙ c.min-value.ensures ∙ ap (λ (k : ℕ). min f.value k) c.mask_at.ensures))

pub returns-clause-raised : goal.returns-clause-raised
returns-clause-raised c =
    let f : Fact = c.args.from.now in
    let low : ℕ = min f.value (value_at (mask_of (ground_of c.args.board.now)) c.args.pixel) in
    let value : c.min-value.result ≡ low = c.min-value.ensures ∙ ap (λ (k : ℕ). min f.value k) c.mask_at.ensures in
    raised_is (ground_of c.args.board.now) (hand_view c.args.self.now) c.lift.new.seat.me.0 f c.args.pixel
    (f.generation * 65536 + c.from.result) c.lift.result c.lift.ensures.view
    (ap (λ (k : ℕ). f.generation * 65536 + k) (c.from.ensures ∙ value))
    (subst (λ (k : ℕ). k < 65536) value c.min-value.type_inv)
