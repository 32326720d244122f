use Rattle.std.proofs.Common.{List, [], ◌∷◌, ◌++◌, ap, ◌∙◌}
use Rattle.studio.specs.declared.shots.eye.Eye.{Eye}
use Rattle.studio.proofs.keeper.showing.add_eye.Goals as goal

pub returns-clause-added : goal.returns-clause-added
returns-clause-added c = (
  c.in_ok-eye.eye,
  c.in_ok-eye.ensures.eye,
  c.push_reserved.ensures.items ∙ ap (λ (l : List Eye). l ++ c.in_ok-eye.eye ∷ []) c.reserve.ensures.items,
)
