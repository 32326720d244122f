use Rattle.std.proofs.Common.{◌*◌, List, arith, le_refl, subst₂, sym, ℕ}
use Rattle.live_board.proofs.Bands.{drawn_later, part_founded}
use Rattle.live_board.proofs.{Flooded.row_known, Flooding.later_by}
use Rattle.live_board.specs.{Flooding.AreFounded, Flooding.HasGivenOut, Seats.ground_of, Seats.hand_view}
use Rattle.live_board.proofs.hand.HandSeat.give_rows.Goals as goal

pub give_out-requires-clause-founded : goal.give_out-requires-clause-founded
give_out-requires-clause-founded c =
    let base = ground_of c.args.board.now in
    let rows = c.args.rows in
    let v = hand_view c.args.self.now in
    subst₂ (λ (z : ℕ) (l : List ℕ). AreFounded base v (z * rows.first) (z * rows.end) l)
    (sym c.width-width.ensures.value) (sym c.cells.ensures.values)
    (part_founded base c.args.band rows v c.args.image.now c.requires.rows c.requires.drawn)

pub returns-clause-drawn : goal.returns-clause-drawn
returns-clause-drawn c =
    let base = ground_of c.args.board.now in
    let v = hand_view c.args.self.now in
    let w = hand_view c.give_out.new.self in
    let given = c.give_out.ensures.given in
    drawn_later base c.args.band v w c.args.image.now (later_by base given.touches v w given.touched) c.requires.drawn

pub returns-clause-known : goal.returns-clause-known
returns-clause-known c =
    let base = ground_of c.args.board.now in
    let rows = c.args.rows in
    let v = hand_view c.args.self.now in
    let w = hand_view c.give_out.new.self in
    row_known base rows.first rows.end rows.first c.give_out.result c.args.image.now v w c.requires.drawn.below.width
    (omega (arith, c.requires.rows.2, c.requires.band.1)) (le_refl rows.first) c.requires.rows.1
    (subst₂ (λ (z : ℕ) (l : List ℕ). HasGivenOut base (z * rows.first) (z * rows.end) l c.give_out.result v w)
    c.width-width.ensures.value c.cells.ensures.values c.give_out.ensures.given)
