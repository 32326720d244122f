use Rattle.std.proofs.Common.{ap, drop, inr, ◌∙◌}
use Rattle.std.proofs.lemmas.Result.{MatchResult-weaker}
use Rattle.left_right.specs.Sides.{view}
use Rattle.studio.specs.Publishing.{published}
use Rattle.studio.proofs.Keeping.{next_pending, pending_taken}
use Rattle.studio.proofs.shots.writing.show_next.Goals as goal

pub publish-requires : goal.publish-requires
publish-requires g c = record {
  next = inr (next_pending c.args.next.1 c.args.writing.desk.shown.value c.append.new.self.desk.shown.value _ _
      (ap (λ d. d.shown.value) c.in_default.ensures.desk) c.in_default.ensures.pending c.requires.next);
}

pub returns-clause-values : goal.returns-clause-values
returns-clause-values g c =
    let desk = c.in_default.ensures.desk in
    MatchResult-weaker c.publish.result.1 c.publish.ensures.values
    (λ _ is. is ∙ pending_taken (published c.append.new.self.desk.shown.value) c.args.next.1
    (drop c.args.writing.behind c.args.writing.log.items) (drop c.append.new.self.behind c.append.new.self.log.items)
    c.in_default.ensures.pending)
    (λ _ is. is ∙ ap (λ d. d.shown.value) desk)

pub returns-clause-known : goal.returns-clause-known
returns-clause-known g c =
    let desk = c.in_default.ensures.desk in
    MatchResult-weaker c.publish.result.1 c.publish.ensures.known
    (λ _ is. is) (λ _ is. is ∙ ap (λ d. view d.place) desk)

pub returns-in-Err-clause-values : goal.returns-in-Err-clause-values
returns-in-Err-clause-values g c = ap (λ d. d.shown.value) c.append.ensures.desk

pub returns-in-Err-clause-known : goal.returns-in-Err-clause-known
returns-in-Err-clause-known g c = ap (λ d. view d.place) c.append.ensures.desk
