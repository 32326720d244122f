use Rattle.std.proofs.Common.{ap, ◌∙◌}
use Rattle.studio.proofs.keeper.Keeper.close.Goals as goal

pub returns-in-Ok-clause-closed : goal.returns-in-Ok-clause-closed
returns-in-Ok-clause-closed g c = record {
  last = c.take_rest.new.self.dispatcher;
  taken = c.in-Ok.ensures.all;
  faithful = c.core-core.ensures.faithful;
  core = c.into_parts-core.ensures.core ∙ ap (λ b. b.core) c.into_books.ensures;
  refusals = c.into_parts-core.ensures.refusals ∙ ap (λ b. b.refusals) c.into_books.ensures;
}
