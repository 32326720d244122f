use Rattle.std.proofs.Common.{◌<◌, refl, subst, sym, zero-add, ℕ, ◌≤◌}
use Rattle.live_board.proofs.Following.{grown_is}
use Rattle.live_board.specs.{Following.IsGrowing, Seats.ground_of, Seats.hand_view}
use Rattle.live_board.proofs.hand.HandSeat.grow_from.Goals as goal

pub name_all-requires-clause-on : goal.name_all-requires-clause-on
name_all-requires-clause-on c f there =
    subst (λ (n : ℕ). f.pixel.y < n) (sym c.height.ensures.value) (c.serve-rose.ensures.trail.on f there).1

pub returns-clause-grown : goal.returns-clause-grown
returns-clause-grown c =
    let base = ground_of c.args.board.now in
    grown_is base c.args.pixels.now
    (record { rose = c.serve-rose.result; first = c.name_all.new.self.first; end = c.name_all.new.self.end })
    (hand_view c.args.self.now) (hand_view c.start.new.self) (hand_view c.serve-rose.new.self)
    c.serve-rose.new.trail c.name_all.new.self c.start.ensures.started
    (subst (λ (n : ℕ). IsGrowing base c.args.pixels.now n (hand_view c.start.new.self)
    (hand_view c.serve-rose.new.self) c.serve-rose.new.trail) (zero-add c.serve-rose.result)
    (c.serve-rose.ensures.grows c.args.pixels.now 0 (hand_view c.start.new.self) c.read_all.ensures.growing))
    c.name_all.ensures.named refl refl
    (subst (λ (n : ℕ). c.name_all.new.self.end ≤ n) c.height.ensures.value c.name_all.ensures.end)
