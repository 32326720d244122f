use Rattle.std.proofs.Common.{arith, true}
use Rattle.live_board.proofs.Planted.{all_known, all_planted, knows_of, marker_known, planted_more, planted_none}
use Rattle.live_board.proofs.Planted.{planted_of}
use Rattle.live_board.specs.Seats.{ground_of, keeper_view}
use Rattle.live_board.proofs.keeper.KeeperSeat.plant_all.Goals as goal

pub loop-cell-init : goal.loop-cell-init
loop-cell-init c = (c.requires.keeper, planted_none (ground_of c.args.board.now) 0 (keeper_view c.args.self.now))

pub loop-cell-preserved : goal.loop-cell-preserved
loop-cell-preserved c = (
  c.plant_cell.ensures.keeper,
  planted_more (ground_of c.args.board.now) 0 c.loop-cell.cell (keeper_view c.args.self.now)
      (keeper_view c.loop-cell.self) (keeper_view c.plant_cell.new.self) c.loop-cell.invariant.1
      c.plant_cell.ensures.planted,
)

pub returns-then-self-clause-planted : goal.returns-then-self-clause-planted
returns-then-self-clause-planted c =
    let v = keeper_view c.args.self.now in
    planted_of (ground_of c.args.board.now) v c.requires.keeper.below
    (marker_known c.args.self.now.is_planted v c.args.self.now.known c.if-self.true)

pub invariant_of-self-clause-known : goal.invariant_of-self-clause-known
invariant_of-self-clause-known c =
    let base = ground_of c.args.board.now in
    let w = keeper_view c.loop-cell.self in
    all_known true w (knows_of base w c.loop-cell.invariant.0.below
    (all_planted base c.loop-cell.cell (keeper_view c.args.self.now) w c.loop-cell.invariant.1
    (omega (arith, c.size-cell-end.ensures, c.loop-cell-test.false))))

pub returns-clause-planted : goal.returns-clause-planted
returns-clause-planted c =
    all_planted (ground_of c.args.board.now) c.loop-cell.cell (keeper_view c.args.self.now)
    (keeper_view c.loop-cell.self) c.loop-cell.invariant.1
    (omega (arith, c.size-cell-end.ensures, c.loop-cell-test.false))
