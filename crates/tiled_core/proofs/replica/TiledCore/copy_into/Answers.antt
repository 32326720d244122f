-- What the tactics leave open of `copy_into`.
use Rattle.std.proofs.Common.{ap, sym, ◌∙◌}
use Rattle.core_rules.specs.Work.{Core}
use Rattle.tiled_core.proofs.replica.TiledCore.copy_into.Goals as goal

pub copy_into-requires-clause-width : goal.copy_into-requires-clause-width
copy_into-requires-clause-width c = c.requires.width ∙ sym (ap (λ (k : Core). k.image.width) c.self.view_is)

pub copy_into-requires-clause-height : goal.copy_into-requires-clause-height
copy_into-requires-clause-height c = c.requires.height ∙ sym (ap (λ (k : Core). k.image.height) c.self.view_is)

pub returns : goal.returns
returns c = c.copy_into.ensures ∙ ap (λ (k : Core). k.image) c.self.view_is
