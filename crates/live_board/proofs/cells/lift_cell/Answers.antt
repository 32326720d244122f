use Rattle.std.proofs.Common.{◌+◌, ap, arith, subst, sym, ℕ, ◌≡◌}
use Rattle.atomic_table.specs.Table.{Me}
use Rattle.live_board.proofs.{Places.place_within, Stepping.lifts}
use Rattle.live_board.specs.{Seats.ground_of, Words.fact_of, Words.with_fact, declared.rule.SeatView.SeatView}
use Rattle.live_board.proofs.cells.lift_cell.Goals as goal

pub fetch_max-requires : goal.fetch_max-requires
fetch_max-requires g c = (
  c.requires.seat.table_is,
  omega (
    arith,
    c.args.board.now.sized,
    c.requires.cell,
    place_within (ground_of c.args.board.now) g.J.At.pixel c.requires.pixel,
  ),
  rw (c.args.board.now.about, ← c.requires.cell)
      (lifts _ _ _ c.args.seat.now.me g.J.At.pixel c.args.asked c.requires.pixel c.requires.asked),
)

pub returns-clause-view : goal.returns-clause-view
returns-clause-view g c =
    subst (λ (k : ℕ). c.fetch_max.new.seat.me.0
    ≡ with_fact c.args.seat.now.me.0 (k + 1) c.fetch_max.result (fact_of g.J.At.pixel c.args.asked))
    (sym c.requires.cell) (ap (λ (m : Me ℕ SeatView). m.0) c.fetch_max.ensures.2)
