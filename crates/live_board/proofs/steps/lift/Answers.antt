use Rattle.live_board.proofs.Stepping.{lifts}
use Rattle.live_board.proofs.steps.lift.Goals as goal

pub fetch_max-requires : goal.fetch_max-requires
fetch_max-requires g c = (
  c.requires.seat.table_is,
  c.place-word.ensures.within,
  rw (c.args.board.now.about, c.requires.at, c.place-word.ensures.value)
      (lifts _ _ _ c.args.seat.now.me c.args.pixel c.args.asked c.requires.pixel c.requires.asked),
)
