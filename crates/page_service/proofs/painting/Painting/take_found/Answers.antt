use Rattle.std.proofs.Common.{◌⊎◌, subst}
use Rattle.run_faults.specs.RunError.{IsMemory}
use Rattle.page_board.specs.Taking.{FileIsTaken, FileIsRefused}
use Rattle.page_service.specs.Painting.{Painting}
use Rattle.page_service.proofs.Refused.{fault_of_no_store}
use Rattle.page_service.proofs.painting.Painting.take_found.Goals as goal

pub returns-in-Ok-clause-taken : goal.returns-in-Ok-clause-taken
returns-in-Ok-clause-taken c =
    subst (λ (p : Painting). FileIsTaken p.board c.args.file.now c.take_file.new.self) c.self.view_is
    c.in-Ok.ensures.taken

pub returns-in-Err-clause-refused : goal.returns-in-Err-clause-refused
returns-in-Err-clause-refused c =
    subst (λ (p : Painting). IsMemory c.in-Err.fault ⊎ FileIsRefused p.board c.args.file.now c.in-Err.fault)
    c.self.view_is c.in-Err.ensures.refused

pub returns-in-Err-clause-no_store : goal.returns-in-Err-clause-no_store
returns-in-Err-clause-no_store c =
    fault_of_no_store c.self.inside.board c.args.file.now c.in-Err.fault c.in-Err.ensures.refused
