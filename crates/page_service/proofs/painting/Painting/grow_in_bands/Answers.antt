use Rattle.std.proofs.Common.{◌<◌, OnErr, subst}
use Rattle.core_rules.specs.Work.{IsQuiet}
use Rattle.page_service.specs.Painting.{Painting}
use Rattle.page_service.proofs.painting.Painting.grow_in_bands.Goals as goal

pub returns-clause-some_work : goal.returns-clause-some_work
returns-clause-some_work g c =
    subst (λ (p : Painting). OnErr c.grow_in_bands.result ((IsQuiet p.board.core → ⊥) × (0 < c.args.jobs)))
    c.self.view_is c.grow_in_bands.ensures.some_work
