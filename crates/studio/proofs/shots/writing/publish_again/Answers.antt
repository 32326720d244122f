use Rattle.std.proofs.Common.{drop, inl}
use Rattle.std.proofs.lemmas.Result.{MatchResult-weaker}
use Rattle.studio.proofs.Keeping.{shown_again}
use Rattle.studio.proofs.shots.writing.publish_again.Goals as goal

pub publish-requires : goal.publish-requires
publish-requires g c = record { next = inl c.requires.idle }

pub returns-clause-value : goal.returns-clause-value
returns-clause-value g c =
    shown_again c.publish.result.1 c.args.writing.desk.shown.value c.publish.result.0.desk.shown.value
    (drop c.args.writing.behind c.args.writing.log.items) c.requires.idle c.publish.ensures.values

pub returns-clause-known : goal.returns-clause-known
returns-clause-known g c = MatchResult-weaker c.publish.result.1 c.publish.ensures.known (λ _ is. is) (λ _ _. tt)
