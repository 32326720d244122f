use Rattle.std.proofs.Common.{ap, subst, subst₂, sym, ◌∙◌, ◌≡◌}
use Rattle.grid_core.specs.Raster.{IsBelow, Raster}
use Rattle.live_board.proofs.Planted.{block_stands, image_later, planted_more, planted_none}
use Rattle.live_board.specs.{Blocks.AreNoneAbove, Seats.ground_of, Seats.keeper_view}
use Rattle.live_board.specs.declared.rule.SeatView.{SeatView}
use Rattle.live_board.proofs.keeper.KeeperSeat.plant_block.Goals as goal

pub returns-then-is_nowhere_above-clause-planted : goal.returns-then-is_nowhere_above-clause-planted
returns-then-is_nowhere_above-clause-planted c =
    let v : SeatView = keeper_view c.args.self.now in
    let own : c.cells.result.now ≡ v.marker.cells =
    c.cells.ensures.values ∙ ap (λ (r : Raster). r.cells) (sym c.args.self.now.marked) in
    block_stands (ground_of c.args.board.now) c.args.before.now c.args.from c.args.to v c.requires.known
    c.cells-2.ensures.sized.filled c.requires.before c.requires.keeper.below c.requires.cells.1
    (subst₂ (AreNoneAbove c.args.from c.args.to) own c.cells-2.ensures.values
    (c.is_nowhere_above.ensures.0 c.if-is_nowhere_above.true))

pub loop-cell-init : goal.loop-cell-init
loop-cell-init c =
    (c.requires.keeper, planted_none (ground_of c.args.board.now) c.args.from (keeper_view c.args.self.now))

pub plant_where_risen-requires-clause-before : goal.plant_where_risen-requires-clause-before
plant_where_risen-requires-clause-before c =
    subst (λ (r : Raster). IsBelow c.args.before.now r) (sym c.loop-cell.invariant.1.marker) c.requires.before

pub plant_where_risen-requires-clause-known : goal.plant_where_risen-requires-clause-known
plant_where_risen-requires-clause-known c =
    image_later (ground_of c.args.board.now) c.args.before.now (keeper_view c.args.self.now)
    (keeper_view c.loop-cell.self) c.requires.known c.loop-cell.invariant.1.generation c.loop-cell.invariant.1.known

pub loop-cell-preserved : goal.loop-cell-preserved
loop-cell-preserved c = (
  c.plant_where_risen.ensures.keeper,
  planted_more (ground_of c.args.board.now) c.args.from c.loop-cell.cell (keeper_view c.args.self.now)
      (keeper_view c.loop-cell.self) (keeper_view c.plant_where_risen.new.self) c.loop-cell.invariant.1
      c.plant_where_risen.ensures.planted,
)
