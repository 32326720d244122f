use Rattle.std.proofs.Common.{◌<◌, subst, sym, ℕ}
use Rattle.live_board.proofs.Bands.{drawn_later, later_of, served_later}
use Rattle.live_board.specs.{Flooding.IsRowKnown, Seats.ground_of, Seats.hand_view}
use Rattle.live_board.proofs.hand.HandSeat.show_row.Goals as goal

pub pass_over-rose-requires-clause-known : goal.pass_over-rose-requires-clause-known
pass_over-rose-requires-clause-known c =
    subst (λ (y : ℕ).
    IsRowKnown (ground_of c.args.board.now) y c.args.draft.now.image (hand_view c.give_rows.new.self))
    c.one_row.ensures.0 c.give_rows.ensures.known

pub name_all-requires-clause-on : goal.name_all-requires-clause-on
name_all-requires-clause-on c f there =
    subst (λ (n : ℕ). f.pixel.y < n) (sym c.height-height.ensures.value) (c.serve.ensures.trail.on f there).1

pub returns-then-rose-gt-FEW-clause-drawn : goal.returns-then-rose-gt-FEW-clause-drawn
returns-then-rose-gt-FEW-clause-drawn c =
    let base = ground_of c.args.board.now in
    let v = hand_view c.give_rows.new.self in
    let w = hand_view c.pass_over-rose.new.self in
    drawn_later base c.args.band v w c.args.draft.now.image (later_of v w c.pass_over-rose.ensures.later)
    c.give_rows.ensures.drawn

pub returns-clause-drawn : goal.returns-clause-drawn
returns-clause-drawn c =
    let base = ground_of c.args.board.now in
    let image = c.args.draft.now.image in
    let v = hand_view c.give_rows.new.self in
    let w = hand_view c.pass_over-rose.new.self in
    let x = hand_view c.serve.new.self in
    drawn_later base c.args.band w x image
    (served_later base c.serve.result w x c.pass_over-rose.new.trail c.serve.new.trail c.serve.ensures.grows)
    (drawn_later base c.args.band v w image (later_of v w c.pass_over-rose.ensures.later) c.give_rows.ensures.drawn)
