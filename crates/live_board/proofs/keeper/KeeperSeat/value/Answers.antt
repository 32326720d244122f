use Rattle.std.proofs.Common.{List, ap, slice_index, sym, ℕ, ◌∙◌}
use Rattle.grid_core.specs.Raster.{Raster}
use Rattle.live_board.proofs.Planted.{value_of_cell}
use Rattle.live_board.specs.{Seats.ground_of, Seats.keeper_view}
use Rattle.live_board.proofs.keeper.KeeperSeat.value.Goals as goal

pub returns : goal.returns
returns c =
    let v = keeper_view c.args.self.now in
    ap (λ (l : List ℕ). slice_index l c.args.cell)
    (c.cells.ensures.values ∙ ap (λ (r : Raster). r.cells) (sym c.args.self.now.marked))
    ∙ sym (value_of_cell (ground_of c.args.board.now) v.marker c.args.cell c.requires.keeper.below.width)
