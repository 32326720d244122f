use Rattle.std.proofs.Common.{Bool, ℕ}
use Rattle.grid_core.specs.{Rows.row_around, declared.pixel.Pixel.Pixel}
use Rattle.std.proofs.Common.{true, false}
use Rattle.live_board.proofs.Rounds.{in_first, in_second, in_third, row_above, row_below}
use Rattle.live_board.proofs.Following.{trails_three}
use Rattle.live_board.proofs.Rounds.{three_are_around, three_rows}
use Rattle.live_board.specs.{Seats.ground_of, Seats.hand_view, Words.mask_of}
use Rattle.live_board.proofs.hand.HandSeat.trail_all.Goals as goal

pub trail_row-above-requires-clause-beside : goal.trail_row-above-requires-clause-beside
trail_row-above-requires-clause-beside c =
    let base = ground_of c.args.board.now in
    let p : Pixel = c.args.from.pixel in
    let w : ℕ = (mask_of base).width in
    let d : Bool = c.has_diagonals-aslant.result in
    let h : ℕ = c.height.result in
    rw c.saturating_sub.ensures
    (in_first base p (row_above w p d) (row_around w p.x p.y true false) (row_below w h p d)
    (three_are_around base p d h c.requires.pixel c.has_diagonals-aslant.ensures c.height.ensures.value))

pub trail_row-own-requires-clause-beside : goal.trail_row-own-requires-clause-beside
trail_row-own-requires-clause-beside c =
    let base = ground_of c.args.board.now in
    let p : Pixel = c.args.from.pixel in
    let w : ℕ = (mask_of base).width in
    let d : Bool = c.has_diagonals-aslant.result in
    let h : ℕ = c.height.result in
    in_second base p (row_above w p d) (row_around w p.x p.y true false) (row_below w h p d)
    (three_are_around base p d h c.requires.pixel c.has_diagonals-aslant.ensures c.height.ensures.value)

pub trail_row-below-requires-clause-beside : goal.trail_row-below-requires-clause-beside
trail_row-below-requires-clause-beside c =
    let base = ground_of c.args.board.now in
    let p : Pixel = c.args.from.pixel in
    let w : ℕ = (mask_of base).width in
    let d : Bool = c.has_diagonals-aslant.result in
    let h : ℕ = c.height.result in
    in_third base p (row_above w p d) (row_around w p.x p.y true false) (row_below w h p d)
    (three_are_around base p d h c.requires.pixel c.has_diagonals-aslant.ensures c.height.ensures.value)

pub returns-clause-trails : goal.returns-clause-trails
returns-clause-trails c =
    let base = ground_of c.args.board.now in
    let f = c.args.from in
    let p : Pixel = f.pixel in
    let w : ℕ = (mask_of base).width in
    let d : Bool = c.has_diagonals-aslant.result in
    let h : ℕ = c.height.result in (
      three_rows w h p d,
      three_are_around base p d h c.requires.pixel c.has_diagonals-aslant.ensures c.height.ensures.value,
      trails_three base f (row_above w p d) (row_around w p.x p.y true false) (row_below w h p d)
          c.trail_row-above.result c.trail_row-own.result c.trail_row-below.result (hand_view c.args.self.now)
          (hand_view c.trail_row-above.new.self) (hand_view c.trail_row-own.new.self)
          (hand_view c.trail_row-below.new.self) c.args.trail.now c.trail_row-above.new.trail
          c.trail_row-own.new.trail c.trail_row-below.new.trail
          (rw c.saturating_sub.ensures at c.trail_row-above.ensures.trails) c.trail_row-own.ensures.trails
          c.trail_row-below.ensures.trails,
    )
