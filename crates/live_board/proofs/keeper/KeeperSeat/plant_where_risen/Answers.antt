use Rattle.std.proofs.Common.{List, ap, slice_index, subst₂, sym, ℕ, ◌∙◌, ◌≡◌, ◌≤◌}
use Rattle.grid_core.specs.Raster.{Raster}
use Rattle.live_board.proofs.Planted.{cell_stands, cells_under}
use Rattle.live_board.specs.{Seats.ground_of, Seats.keeper_view, declared.rule.SeatView.SeatView}
use Rattle.live_board.proofs.keeper.KeeperSeat.plant_where_risen.Goals as goal

pub returns-then-cells-cell-clause-planted : goal.returns-then-cells-cell-clause-planted
returns-then-cells-cell-clause-planted c =
    let base = ground_of c.args.board.now in
    let v : SeatView = keeper_view c.args.self.now in
    let k : ℕ = c.args.cell in
    let own : c.cells.result.now ≡ v.marker.cells =
    c.cells.ensures.values ∙ ap (λ (r : Raster). r.cells) (sym c.args.self.now.marked) in
    let high : slice_index v.marker.cells k ≤ slice_index c.args.before.now.cells k =
    subst₂ (λ (a b : List ℕ). slice_index a k ≤ slice_index b k) own c.cells-2.ensures.values c.if-cells-cell.true in
    cell_stands base c.args.before.now k v c.requires.known c.requires.before c.requires.keeper.below c.requires.cell
    (cells_under base c.args.before.now v.marker k c.cells-2.ensures.sized.filled c.requires.before
    c.requires.keeper.below c.requires.cell) high
