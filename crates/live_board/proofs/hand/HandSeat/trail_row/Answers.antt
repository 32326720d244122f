use Rattle.std.proofs.Common.{◌&&◌, ◌+◌, ◌++◌, ◌-◌, List, nat_lt, ℕ}
use Rattle.std.proofs.lemmas.List.Elements.{Contains-append_left, Contains-append_right}
use Rattle.grid_core.specs.{Rows.pixel_if, declared.pixel.Pixel.Pixel}
use Rattle.live_board.proofs.Following.{trails_three}
use Rattle.live_board.specs.{Seats.ground_of, Seats.hand_view, Words.mask_of}
use Rattle.live_board.proofs.hand.HandSeat.trail_row.Goals as goal

pub trail_if-left-requires-clause-beside : goal.trail_if-left-requires-clause-beside
trail_if-left-requires-clause-beside c =
    let x : ℕ = c.args.from.pixel.x in
    let w : ℕ = (mask_of (ground_of c.args.board.now)).width in
    let left : List Pixel = pixel_if (c.args.sides && nat_lt 0 x) (x - 1) c.args.y in
    let here : List Pixel = pixel_if c.args.middle x c.args.y in
    let right : List Pixel = pixel_if (c.args.sides && nat_lt (x + 1) w) (x + 1) c.args.y in
    rw c.saturating_sub.ensures (λ q there. c.requires.beside q
    (Contains-append_left (left ++ here) right q (Contains-append_left left here q there)))

pub trail_if-here-requires-clause-beside : goal.trail_if-here-requires-clause-beside
trail_if-here-requires-clause-beside c =
    let x : ℕ = c.args.from.pixel.x in
    let w : ℕ = (mask_of (ground_of c.args.board.now)).width in
    let left : List Pixel = pixel_if (c.args.sides && nat_lt 0 x) (x - 1) c.args.y in
    let here : List Pixel = pixel_if c.args.middle x c.args.y in
    let right : List Pixel = pixel_if (c.args.sides && nat_lt (x + 1) w) (x + 1) c.args.y in
    λ q there. c.requires.beside q
    (Contains-append_left (left ++ here) right q (Contains-append_right left here q there))

pub trail_if-right-requires-clause-beside : goal.trail_if-right-requires-clause-beside
trail_if-right-requires-clause-beside c =
    let x : ℕ = c.args.from.pixel.x in
    let w : ℕ = (mask_of (ground_of c.args.board.now)).width in
    let left : List Pixel = pixel_if (c.args.sides && nat_lt 0 x) (x - 1) c.args.y in
    let here : List Pixel = pixel_if c.args.middle x c.args.y in
    let right : List Pixel = pixel_if (c.args.sides && nat_lt (x + 1) w) (x + 1) c.args.y in
    rw c.width.ensures.value
    (λ q there. c.requires.beside q (Contains-append_right (left ++ here) right q there))

pub returns-clause-trails : goal.returns-clause-trails
returns-clause-trails c =
    let x : ℕ = c.args.from.pixel.x in
    let w : ℕ = (mask_of (ground_of c.args.board.now)).width in
    trails_three (ground_of c.args.board.now) c.args.from (pixel_if (c.args.sides && nat_lt 0 x) (x - 1) c.args.y)
    (pixel_if c.args.middle x c.args.y) (pixel_if (c.args.sides && nat_lt (x + 1) w) (x + 1) c.args.y)
    c.trail_if-left.result c.trail_if-here.result c.trail_if-right.result (hand_view c.args.self.now)
    (hand_view c.trail_if-left.new.self) (hand_view c.trail_if-here.new.self) (hand_view c.trail_if-right.new.self)
    c.args.trail.now c.trail_if-left.new.trail c.trail_if-here.new.trail c.trail_if-right.new.trail
    (rw c.saturating_sub.ensures at c.trail_if-left.ensures.trails) c.trail_if-here.ensures.trails
    (rw c.width.ensures.value at c.trail_if-right.ensures.trails)
