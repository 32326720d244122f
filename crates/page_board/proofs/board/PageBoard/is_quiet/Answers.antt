use Rattle.std.proofs.Common.{IsTrue, ◌↔◌, subst}
use Rattle.core_rules.specs.Work.{IsQuiet}
use Rattle.page_board.specs.Board.{PageBoard}
use Rattle.page_board.proofs.board.PageBoard.is_quiet.Goals as goal

pub returns : goal.returns
returns c =
    subst (λ (b : PageBoard). IsTrue c.is_quiet.result ↔ IsQuiet b.core) c.self.view_is c.is_quiet.ensures
