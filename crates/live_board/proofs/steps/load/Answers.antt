use Rattle.std.proofs.Common.{subst}
use Rattle.grid_core.specs.declared.pixel.Pixel.{Pixel}
use Rattle.live_board.proofs.Stepping.{loads}
use Rattle.live_board.specs.Steps.{IsHighest}
use Rattle.live_board.proofs.steps.load.Goals as goal

pub load-requires : goal.load-requires
load-requires g c = (
  c.requires.seat.table_is,
  c.place-word.ensures.within,
  rw (c.args.board.now.about, c.requires.at, c.place-word.ensures.value)
      (loads _ _ _ c.args.seat.now.me c.args.pixel c.requires.pixel),
)

pub returns-clause-highest : goal.returns-clause-highest
returns-clause-highest g c =
    subst (λ (z : Pixel). IsHighest c.args.seat.now.me.0.facts z c.load.result) c.requires.at c.load.ensures.2.1
