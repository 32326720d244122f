use Rattle.std.proofs.Common.{◌≡◌, ◌∷◌, MatchBool, ap, sym, subst, ◌∙◌}
use Rattle.row_scans.specs.Waiting.{AreOneMore, next_and}
use Rattle.row_scans.proofs.Bags.{more_behind_next, one_more_first}
use Rattle.row_scans.proofs.waiting.Waiting.push.Goals as goal

pub returns-in-None-clause-added : goal.returns-in-None-clause-added
returns-in-None-clause-added c =
    let others = c.self.inside.lists in
    subst (λ old. AreOneMore c.args.cell old (c.args.cell ∷ others))
    (ap (λ next. next_and next others) (sym c.in-None.is) ∙ c.self.view_is) (one_more_first c.args.cell others)

pub returns-in-Some-clause-added : goal.returns-in-Some-clause-added
returns-in-Some-clause-added c =
    let old = c.self.inside.lists in
    let new = c.push.new.self in
    let all = c.args.self.now in
    let cell = c.args.cell in
    subst (λ next. MatchBool c.push.result (AreOneMore cell all (next_and next new)) (next_and next new ≡ all))
    (sym c.in-Some.is)
    (more_behind_next c.push.result cell c.in-Some.field-0 old new all
    (ap (λ next. next_and next old) (sym c.in-Some.is) ∙ c.self.view_is) c.push.ensures.added)
