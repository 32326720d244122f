use Rattle.std.proofs.Common.{refl, sym, ap, ◌∙◌, subst, option_copied, ℕ, List}
use Rattle.page_service.specs.Table.{Spells}
use Rattle.page_service.proofs.Queries.{same_text}
use Rattle.page_service.proofs.reading.moment_in.Goals as goal

pub returns-in-None-clause-err : goal.returns-in-None-clause-err
returns-in-None-clause-err c = (
  refl,
  λ moment spelled.
      let same = same_text spelled.0 c.in-Some.text.now (sym spelled.1 ∙ ap option_copied c.in-Some.is) in
      c.in-None.ensures.none moment (subst (λ (text : List ℕ). Spells text moment) same spelled.2),
)
