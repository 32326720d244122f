use Rattle.std.proofs.Common.{◌⊎◌, subst}
use Rattle.run_faults.specs.RunError.{IsMemory}
use Rattle.page_board.specs.Taking.{TextIsTaken, TextIsRefused}
use Rattle.page_service.specs.Painting.{Painting}
use Rattle.page_service.proofs.painting.Painting.take_edits.Goals as goal

pub returns-in-Ok-clause-taken : goal.returns-in-Ok-clause-taken
returns-in-Ok-clause-taken c =
    subst (λ (p : Painting). TextIsTaken p.board c.args.text.now c.take_edits.new.self) c.self.view_is
    c.in-Ok.ensures.taken

pub returns-in-Err-clause-refused : goal.returns-in-Err-clause-refused
returns-in-Err-clause-refused c =
    subst (λ (p : Painting). IsMemory c.in-Err.fault ⊎ TextIsRefused p.board c.args.text.now c.in-Err.fault)
    c.self.view_is c.in-Err.ensures.refused
