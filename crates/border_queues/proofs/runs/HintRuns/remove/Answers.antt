use Rattle.std.proofs.Common.{ap, ◌∙◌, remove}
use Rattle.border_queues.specs.Runs.{hints_by}
use Rattle.border_queues.proofs.Entries.{hints_removed}
use Rattle.border_queues.proofs.runs.HintRuns.remove.Goals as goal

pub returns-else-is_empty-clause-hints : goal.returns-else-is_empty-clause-hints
returns-else-is_empty-clause-hints c =
    let runs = c.self.inside.runs.items in
    ap (hints_by runs) c.remove.ensures.items
    ∙ hints_removed runs c.self.inside.entries.items c.args.i
    ∙ ap (λ waiting. remove waiting.hints c.args.i) c.self.view_is
