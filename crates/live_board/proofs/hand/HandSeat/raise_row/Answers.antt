use Rattle.std.proofs.Common.{◌&&◌, ◌+◌, ◌++◌, ◌-◌, List, nat_lt, ℕ}
use Rattle.std.proofs.lemmas.List.Elements.{Contains-append_left, Contains-append_right}
use Rattle.grid_core.specs.{Rows.pixel_if, declared.pixel.Pixel.Pixel}
use Rattle.live_board.proofs.Rounds.{raises_three}
use Rattle.live_board.specs.{Seats.ground_of, Seats.hand_view, Words.mask_of}
use Rattle.live_board.proofs.hand.HandSeat.raise_row.Goals as goal

pub raise_if-left-requires-clause-beside : goal.raise_if-left-requires-clause-beside
raise_if-left-requires-clause-beside c =
    let x : ℕ = c.args.from.pixel.x in
    let w : ℕ = (mask_of (ground_of c.args.board.now)).width in
    let left : List Pixel = pixel_if (c.args.sides && nat_lt 0 x) (x - 1) c.args.y in
    let here : List Pixel = pixel_if c.args.middle x c.args.y in
    let right : List Pixel = pixel_if (c.args.sides && nat_lt (x + 1) w) (x + 1) c.args.y in
    rw c.saturating_sub.ensures (λ q there. c.requires.beside q
    (Contains-append_left (left ++ here) right q (Contains-append_left left here q there)))

pub raise_if-here-requires-clause-beside : goal.raise_if-here-requires-clause-beside
raise_if-here-requires-clause-beside c =
    let x : ℕ = c.args.from.pixel.x in
    let w : ℕ = (mask_of (ground_of c.args.board.now)).width in
    let left : List Pixel = pixel_if (c.args.sides && nat_lt 0 x) (x - 1) c.args.y in
    let here : List Pixel = pixel_if c.args.middle x c.args.y in
    let right : List Pixel = pixel_if (c.args.sides && nat_lt (x + 1) w) (x + 1) c.args.y in
    λ q there. c.requires.beside q
    (Contains-append_left (left ++ here) right q (Contains-append_right left here q there))

pub raise_if-right-requires-clause-beside : goal.raise_if-right-requires-clause-beside
raise_if-right-requires-clause-beside c =
    let x : ℕ = c.args.from.pixel.x in
    let w : ℕ = (mask_of (ground_of c.args.board.now)).width in
    let left : List Pixel = pixel_if (c.args.sides && nat_lt 0 x) (x - 1) c.args.y in
    let here : List Pixel = pixel_if c.args.middle x c.args.y in
    let right : List Pixel = pixel_if (c.args.sides && nat_lt (x + 1) w) (x + 1) c.args.y in
    rw c.width.ensures.value
    (λ q there. c.requires.beside q (Contains-append_right (left ++ here) right q there))

pub returns-clause-raises : goal.returns-clause-raises
returns-clause-raises c =
    let x : ℕ = c.args.from.pixel.x in
    let w : ℕ = (mask_of (ground_of c.args.board.now)).width in
    raises_three (ground_of c.args.board.now) c.args.from (pixel_if (c.args.sides && nat_lt 0 x) (x - 1) c.args.y)
    (pixel_if c.args.middle x c.args.y) (pixel_if (c.args.sides && nat_lt (x + 1) w) (x + 1) c.args.y)
    c.raise_if-left.result c.raise_if-here.result c.raise_if-right.result (hand_view c.args.self.now)
    (hand_view c.raise_if-left.new.self) (hand_view c.raise_if-here.new.self) (hand_view c.raise_if-right.new.self)
    (rw c.saturating_sub.ensures at c.raise_if-left.ensures.raises) c.raise_if-here.ensures.raises
    (rw c.width.ensures.value at c.raise_if-right.ensures.raises)
