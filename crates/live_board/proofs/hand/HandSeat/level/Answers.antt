use Rattle.live_board.proofs.Flooding.{cell_is, cell_on, level_is}
use Rattle.live_board.specs.{Rounds.pixel_after, Seats.ground_of, Seats.hand_view}
use Rattle.live_board.proofs.hand.HandSeat.level.Goals as goal

pub load_cell-word-requires-clause-cell : goal.load_cell-word-requires-clause-cell
load_cell-word-requires-clause-cell c = cell_is (ground_of c.args.board.now) c.args.cell

pub load_cell-word-requires-clause-pixel : goal.load_cell-word-requires-clause-pixel
load_cell-word-requires-clause-pixel c =
    cell_on (ground_of c.args.board.now) c.args.cell c.width.ensures.sized.sized.filled c.requires.cell

pub returns-clause-level : goal.returns-clause-level
returns-clause-level c =
    level_is (ground_of c.args.board.now) (hand_view c.args.self.now) c.load_cell-word.new.seat.me.0
    (pixel_after (ground_of c.args.board.now) c.args.cell) c.load_cell-word.result c.args.self.now.generation
    c.value_in.result c.load_cell-word.ensures.view c.args.self.now.same c.value_in.ensures
