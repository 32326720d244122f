use Rattle.page_service.proofs.Fronts.{if_behind, if_not_behind}
use Rattle.page_service.proofs.key.behind.Goals as goal

pub returns-clause-some : goal.returns-clause-some
returns-clause-some c = if_behind c.args.text.now c.args.front.now c.strip_prefix.result c.strip_prefix.ensures.cases

pub returns-clause-none : goal.returns-clause-none
returns-clause-none c =
    if_not_behind c.args.text.now c.args.front.now c.strip_prefix.result c.strip_prefix.ensures.cases
