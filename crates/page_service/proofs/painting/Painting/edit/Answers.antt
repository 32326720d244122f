use Rattle.std.proofs.Common.{inl, refl}
use Rattle.page_board.specs.Taking.{TextIsTaken, TextIsRefused}
use Rattle.page_service.specs.Painting.{Painting}
use Rattle.page_service.proofs.Refused.{is_taken_and_told, is_turned_down}
use Rattle.page_service.proofs.painting.Painting.edit.Goals as goal

pub returns-in-Ok-clause-ok : goal.returns-in-Ok-clause-ok
returns-in-Ok-clause-ok c =
    let moment = c.args.moment in
    inl (is_taken_and_told (λ (p : Painting). TextIsTaken c.args.self.now.board c.args.text.now p.board)
    (λ _. moment.run) (λ _. moment.step) c.args.self.now c.take_edits.new.self c.tell.new.self c.tell.new.response
    moment.run moment.step refl refl c.in-Ok.ensures.taken c.in-Ok.ensures.later c.in-Ok.ensures.rest
    c.tell.ensures.told c.tell.ensures.same)

pub returns-in-Err-clause-ok : goal.returns-in-Err-clause-ok
returns-in-Err-clause-ok c =
    is_turned_down c.turn_down.result _ (TextIsRefused c.args.self.now.board c.args.text.now) c.args.self.now
    c.take_edits.new.self c.in-Err.fault c.turn_down.new.response c.in-Err.ensures.err c.in-Err.ensures.refused
    c.turn_down.ensures.fault c.turn_down.ensures.line
