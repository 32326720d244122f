use Rattle.std.proofs.Common.{drop}
use Rattle.std.proofs.lemmas.Result.{MatchResult-weaker}
use Rattle.studio.proofs.Keeping.{publishes_any}
use Rattle.studio.proofs.shots.writing.publish.Goals as goal

pub publish_as-requires : goal.publish_as-requires
publish_as-requires g c next is =
    publishes_any _ _ c.args.writing.desk.shown.value next
    (drop c.args.writing.behind c.args.writing.log.items) c.requires.next is

pub returns-clause-values : goal.returns-clause-values
returns-clause-values g c =
    MatchResult-weaker c.publish_as.result.1 c.publish_as.ensures.values (λ _ is. is.0) (λ _ is. is.0)

pub returns-clause-known : goal.returns-clause-known
returns-clause-known g c = c.publish_as.ensures.rule
