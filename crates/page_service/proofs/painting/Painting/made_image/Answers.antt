use Rattle.std.proofs.Common.{subst, rules}
use Rattle.core_rules.specs.{Work.IsQuiet, Invariant.HasLawfulImage, Invariant.HasReconstruction}
use Rattle.page_service.specs.Painting.{Painting}
use Rattle.page_service.proofs.painting.Painting.made_image.Goals as goal

pub returns : goal.returns
returns c = record {
  spelled = search rules;
  lawful = subst (λ (p : Painting). HasLawfulImage p.board.core) c.self.view_is c.image_file.ensures.lawful;
  quiet = subst (λ (p : Painting). IsQuiet p.board.core → HasReconstruction p.board.core) c.self.view_is
      c.image_file.ensures.quiet;
}
