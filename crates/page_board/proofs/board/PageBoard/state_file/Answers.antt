-- What the tactics leave open of `state_file`.
use Rattle.std.proofs.Common.{subst}
use Rattle.page_board.specs.{Board.PageBoard, Keeping.KeepsBoard, Keeping.HasAllIn, Stored.board_of}
use Rattle.page_board.proofs.Keeping.{file_keeps, file_has_no_more}
use Rattle.page_board.proofs.board.PageBoard.state_file.Goals as goal

pub returns-in-Ok-clause-keeps : goal.returns-in-Ok-clause-keeps
returns-in-Ok-clause-keeps c =
    subst (λ (b : PageBoard). KeepsBoard b c.in-Ok.file.items) c.self.view_is
    (file_keeps (board_of c.self.inside) c.conn.result c.self.inside.print c.state.result.now c.in-Ok.file.items
    c.conn.ensures c.self.invariant.print c.state.ensures c.in-Ok.ensures.spells
    (c.pieces_join.ensures 1400 c.self.inside.core.state))

pub returns-in-Ok-clause-no_more : goal.returns-in-Ok-clause-no_more
returns-in-Ok-clause-no_more c =
    subst (λ (b : PageBoard). HasAllIn b c.in-Ok.file.items) c.self.view_is
    (file_has_no_more (board_of c.self.inside) c.conn.result c.self.inside.print c.state.result.now
    c.in-Ok.file.items c.conn.ensures c.self.invariant.print c.state.ensures c.in-Ok.ensures.spells
    (c.pieces_join.ensures 1400 c.self.inside.core.state))
