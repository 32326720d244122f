use Rattle.std.proofs.Common.{ap, sym, subst, ◌∙◌}
use Rattle.row_scans.specs.Waiting.{AreOneMore, next_and}
use Rattle.row_scans.proofs.Bags.{one_more_first}
use Rattle.row_scans.proofs.waiting.Waiting.pop.Goals as goal

pub returns-in-Some : goal.returns-in-Some
returns-in-Some c =
    let others = c.self.inside.lists in
    subst (AreOneMore c.in-Some.cell others) (ap (λ next. next_and next others) (sym c.in-Some.is) ∙ c.self.view_is)
    (one_more_first c.in-Some.cell others)
