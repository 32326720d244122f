use Rattle.std.proofs.Common.{Bool, ℕ}
use Rattle.grid_core.specs.{Rows.row_around, declared.pixel.Pixel.Pixel}
use Rattle.std.proofs.Common.{true, false}
use Rattle.live_board.proofs.Rounds.{in_first, in_second, in_third, raises_three, row_above, row_below}
use Rattle.live_board.proofs.Rounds.{three_are_around, three_rows}
use Rattle.live_board.specs.{Seats.ground_of, Seats.hand_view, Words.mask_of}
use Rattle.live_board.proofs.hand.HandSeat.spread.Goals as goal

pub raise_row-above-requires-clause-beside : goal.raise_row-above-requires-clause-beside
raise_row-above-requires-clause-beside c =
    let base = ground_of c.args.board.now in
    let p : Pixel = c.args.from.pixel in
    let w : ℕ = (mask_of base).width in
    let d : Bool = c.has_diagonals-aslant.result in
    let h : ℕ = c.height.result in
    rw c.saturating_sub.ensures
    (in_first base p (row_above w p d) (row_around w p.x p.y true false) (row_below w h p d)
    (three_are_around base p d h c.requires.pixel c.has_diagonals-aslant.ensures c.height.ensures.value))

pub raise_row-own-requires-clause-beside : goal.raise_row-own-requires-clause-beside
raise_row-own-requires-clause-beside c =
    let base = ground_of c.args.board.now in
    let p : Pixel = c.args.from.pixel in
    let w : ℕ = (mask_of base).width in
    let d : Bool = c.has_diagonals-aslant.result in
    let h : ℕ = c.height.result in
    in_second base p (row_above w p d) (row_around w p.x p.y true false) (row_below w h p d)
    (three_are_around base p d h c.requires.pixel c.has_diagonals-aslant.ensures c.height.ensures.value)

pub raise_row-below-requires-clause-beside : goal.raise_row-below-requires-clause-beside
raise_row-below-requires-clause-beside c =
    let base = ground_of c.args.board.now in
    let p : Pixel = c.args.from.pixel in
    let w : ℕ = (mask_of base).width in
    let d : Bool = c.has_diagonals-aslant.result in
    let h : ℕ = c.height.result in
    in_third base p (row_above w p d) (row_around w p.x p.y true false) (row_below w h p d)
    (three_are_around base p d h c.requires.pixel c.has_diagonals-aslant.ensures c.height.ensures.value)

pub returns-clause-spreads : goal.returns-clause-spreads
returns-clause-spreads c =
    let base = ground_of c.args.board.now in
    let f = c.args.from in
    let p : Pixel = f.pixel in
    let w : ℕ = (mask_of base).width in
    let d : Bool = c.has_diagonals-aslant.result in
    let h : ℕ = c.height.result in (
      three_rows w h p d,
      three_are_around base p d h c.requires.pixel c.has_diagonals-aslant.ensures c.height.ensures.value,
      raises_three base f (row_above w p d) (row_around w p.x p.y true false) (row_below w h p d)
          c.raise_row-above.result c.raise_row-own.result c.raise_row-below.result (hand_view c.args.self.now)
          (hand_view c.raise_row-above.new.self) (hand_view c.raise_row-own.new.self)
          (hand_view c.raise_row-below.new.self) (rw c.saturating_sub.ensures at c.raise_row-above.ensures.raises)
          c.raise_row-own.ensures.raises
          c.raise_row-below.ensures.raises,
    )
