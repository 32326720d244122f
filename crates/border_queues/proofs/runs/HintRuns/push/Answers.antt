use Rattle.std.proofs.Common.{rules, ◌≡◌, ◌++◌, [], ◌∷◌, ap, ◌∙◌, false}
use Rattle.border_queues.specs.{declared.runs.Run.Run, declared.runs.Entry.Entry, Runs.hints_by}
use Rattle.border_queues.proofs.Entries.{hint_alone, hints_added, run_at}
use Rattle.border_queues.proofs.runs.HintRuns.push.Goals as goal

pub returns-clause-hints : goal.returns-clause-hints
returns-clause-hints c =
    let hint = c.args.hint in
    let runs = c.self.inside.runs.items in
    let entries = c.self.inside.entries.items in
    let begun = c.begin-run in
    let now = begun.new.runs.items in
    let run : Run = record {
      from = hint.from;
      from_generation = hint.from_generation;
      first = hint.to_pixel;
      is_column = false;
    } in
    let entry : Entry = record { run = begun.result; place = 0; value = hint.value } in
    let pushed : c.push.new.self.items ≡ entries ++ entry ∷ [] = search rules in
    ap (hints_by now) pushed
    ∙ hints_added runs now run entries (entry ∷ []) begun.ensures.runs c.self.invariant
    ∙ ap (λ hints. hints_by runs entries ++ hints)
    (hint_alone now begun.result hint (run_at runs now run begun.result begun.ensures.runs begun.ensures.number))
    ∙ ap (λ waiting. waiting.hints ++ hint ∷ []) c.self.view_is
