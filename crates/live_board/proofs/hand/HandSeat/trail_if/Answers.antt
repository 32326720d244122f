use Rattle.std.proofs.Common.{ap, arith, min, subst, sym, ℕ, ◌∙◌, ◌≡◌, ◌≤◌}
use Rattle.grid_core.specs.{declared.pixel.Pixel.Pixel}
use Rattle.live_board.proofs.Following.{raised_is_known, trail_after, trail_noted, trails_fell, trails_rose}
use Rattle.live_board.proofs.Rounds.{if_there}
use Rattle.live_board.specs.Following.{IsLeft}
use Rattle.live_board.specs.Seats.{IsFactOf, ground_of, hand_view, raised_fact}
use Rattle.live_board.specs.{Words.fact, Words.mask_of, declared.fact.Fact.Fact}
use Rattle.live_board.proofs.hand.HandSeat.trail_if.Goals as goal

pub raise-requires-clause-pixel : goal.raise-requires-clause-pixel
raise-requires-clause-pixel c = c.requires.beside (record { x = c.args.x; y = c.args.y })
    (if_there c.args.is_there c.args.x c.args.y c.if-not-is_there.false)

pub returns-then-not-raise-clause-trail : goal.returns-then-not-raise-clause-trail
returns-then-not-raise-clause-trail c =
    let base = ground_of c.args.board.now in
    let q : Pixel = record { x = c.args.x; y = c.args.y } in
    trail_after base (raised_fact base c.args.from q) (hand_view c.args.self.now) (hand_view c.raise.new.self)
    c.args.trail.now c.raise.ensures.raised.adds c.requires.trail

pub returns-then-not-raise-clause-trails : goal.returns-then-not-raise-clause-trails
returns-then-not-raise-clause-trails c =
    trails_fell (ground_of c.args.board.now) c.args.from c.args.is_there c.args.x c.args.y c.raise.result
    (hand_view c.args.self.now) (hand_view c.raise.new.self) c.args.trail.now c.if-not-is_there.false
    c.if-not-raise.true c.raise.ensures.raised

pub mask_at-requires : goal.mask_at-requires
mask_at-requires c = (c.requires.beside (record { x = c.args.x; y = c.args.y })
    (if_there c.args.is_there c.args.x c.args.y c.if-not-is_there.false)).on

pub note-requires : goal.note-requires
note-requires c =
    let on = (c.requires.beside (record { x = c.args.x; y = c.args.y })
    (if_there c.args.is_there c.args.x c.args.y c.if-not-is_there.false)).on in
    let most : (mask_of (ground_of c.args.board.now)).height ≤ 16384 =
    c.height.ensures.sized.sized.size.height_within in
    omega (arith, on.1, most)

pub returns-clause-trail : goal.returns-clause-trail
returns-clause-trail c =
    let base = ground_of c.args.board.now in
    let q : Pixel = record { x = c.args.x; y = c.args.y } in
    let f : Fact = fact q c.args.from.generation c.min-value.result in
    let is : raised_fact base c.args.from q ≡ f =
    ap (λ (n : ℕ). fact q c.args.from.generation n)
    (sym (c.min-value.ensures ∙ ap (λ (n : ℕ). min c.args.from.value n) c.mask_at.ensures)) in
    let v = hand_view c.args.self.now in
    let w = hand_view c.raise.new.self in
    trail_noted base f w c.args.trail.now c.note.new.self
    (trail_after base (raised_fact base c.args.from q) v w c.args.trail.now c.raise.ensures.raised.adds
    c.requires.trail)
    (subst (IsFactOf w) is
    (raised_is_known base c.args.from q c.raise.result v w c.requires.fact c.raise.ensures.raised))
    (c.requires.beside q (if_there c.args.is_there c.args.x c.args.y c.if-not-is_there.false)).on
    c.note.ensures.only c.note.ensures.within

pub returns-clause-trails : goal.returns-clause-trails
returns-clause-trails c =
    let base = ground_of c.args.board.now in
    let q : Pixel = record { x = c.args.x; y = c.args.y } in
    let f : Fact = fact q c.args.from.generation c.min-value.result in
    let is : f ≡ raised_fact base c.args.from q =
    ap (λ (n : ℕ). fact q c.args.from.generation n)
    (c.min-value.ensures ∙ ap (λ (n : ℕ). min c.args.from.value n) c.mask_at.ensures) in
    trails_rose base c.args.from c.args.is_there c.args.x c.args.y c.raise.result (hand_view c.args.self.now)
    (hand_view c.raise.new.self) c.args.trail.now c.note.new.self c.if-not-is_there.false c.if-not-raise.false
    c.raise.ensures.raised c.note.ensures.kept (subst (IsLeft c.note.new.self) is c.note.ensures.left)
