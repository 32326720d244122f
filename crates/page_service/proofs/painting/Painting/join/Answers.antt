use Rattle.std.proofs.Common.{inl, ap, ◌∙◌}
use Rattle.page_board.specs.Taking.{FileIsTaken, FileIsRefused}
use Rattle.page_service.specs.Painting.{Painting}
use Rattle.page_service.proofs.Refused.{is_taken_and_told, is_turned_down}
use Rattle.page_service.proofs.painting.Painting.join.Goals as goal

pub returns-in-Ok-clause-ok : goal.returns-in-Ok-clause-ok
returns-in-Ok-clause-ok c =
    inl (is_taken_and_told (λ (p : Painting). FileIsTaken c.args.self.now.board c.args.file.now p.board)
    (λ (p : Painting). p.board.run) (λ (p : Painting). p.board.step) c.args.self.now c.take_found.new.self
    c.tell.new.self c.tell.new.response c.run-run.result c.step-step.result
    (c.run-run.ensures ∙ ap (λ (p : Painting). p.board.run) c.self.view_is)
    (c.step-step.ensures ∙ ap (λ (p : Painting). p.board.step) c.self.view_is)
    c.in-Ok.ensures.taken c.in-Ok.ensures.later c.in-Ok.ensures.rest c.tell.ensures.told c.tell.ensures.same)

pub returns-in-Err-clause-ok : goal.returns-in-Err-clause-ok
returns-in-Err-clause-ok c =
    is_turned_down c.turn_down.result _ (FileIsRefused c.args.self.now.board c.args.file.now) c.args.self.now
    c.take_found.new.self c.in-Err.fault c.turn_down.new.response c.in-Err.ensures.err c.in-Err.ensures.refused
    c.turn_down.ensures.fault c.turn_down.ensures.line
