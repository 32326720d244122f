use Rattle.std.proofs.Common.{◌≡◌, ◌<◌, ◌++◌, ap, ◌∙◌, arith, length, length-append, List, [], ◌∷◌}
use Rattle.border_queues.specs.{declared.runs.Run.Run, declared.runs.Entry.Entry}
use Rattle.border_queues.specs.Runs.{AreEntries, entries_along, entry_at, hints_by}
use Rattle.border_queues.proofs.Entries.{along_next, are_along, entries_added, hints_added, run_at, told_along}
use Rattle.border_queues.proofs.runs.HintRuns.push_along.Goals as goal
use Rattle.border_queues.specs.Sides.{hints_along}

pub loop-place-preserved : goal.loop-place-preserved
loop-place-preserved c =
    let place = c.loop-place.place in
    let side = c.args.side.now in
    let so_far = c.loop-place.invariant in
    let told = c.push_at.ensures in
    record {
      runs = so_far.runs;
      entries =
          told.entries ∙ ap (λ entries. entries ++ entry_at c.begin-run.result side place) so_far.entries
          ∙ along_next c.begin-run.result side c.self.inside.entries.items place;
      len = omega (arith, told.len, so_far.len);
      capacity = omega (arith, told.capacity, so_far.capacity);
    }

pub invariant_of-self : goal.invariant_of-self
invariant_of-self c =
    let count = c.args.count in
    let side = c.args.side.now in
    let runs = c.self.inside.runs.items in
    let entries = c.self.inside.entries.items in
    let begun = c.begin-run in
    let now = begun.new.runs.items in
    let run : Run = record {
      from = c.args.from;
      from_generation = c.args.from_generation;
      first = c.args.first;
      is_column = c.args.is_column;
    } in
    let at_end : c.loop-place.place ≡ count = omega arith in
    let told : c.loop-place.self-inside.entries.items ≡ entries ++ entries_along begun.result side count =
    c.loop-place.invariant.entries ∙ ap (λ n. entries ++ entries_along begun.result side n) at_end in
    let same : c.loop-place.self-inside.runs.items ≡ now = ap (λ v. v.items) c.loop-place.invariant.runs in
    let numbered : begun.result < length now =
    omega (arith, begun.ensures.number, ap length begun.ensures.runs, length-append runs (run ∷ [])) in
    let is_last = run_at runs now run begun.result begun.ensures.runs begun.ensures.number in
    let after : AreEntries now (entries ++ entries_along begun.result side count) =
    entries_added runs now run entries (entries_along begun.result side count) begun.ensures.runs c.self.invariant
    (are_along now run begun.result side count is_last numbered c.requires.pixels) in
    rw (same, told) after

pub returns-clause-hints : goal.returns-clause-hints
returns-clause-hints c s inner outer along =
    let count = c.args.count in
    let side = c.args.side.now in
    let runs = c.self.inside.runs.items in
    let entries = c.self.inside.entries.items in
    let begun = c.begin-run in
    let now = begun.new.runs.items in
    let run : Run = record {
      from = c.args.from;
      from_generation = c.args.from_generation;
      first = c.args.first;
      is_column = c.args.is_column;
    } in
    let at_end : c.loop-place.place ≡ count = omega arith in
    let added : List Entry = entries_along begun.result side count in
    let told : c.loop-place.self-inside.entries.items ≡ entries ++ added =
    c.loop-place.invariant.entries ∙ ap (λ n. entries ++ entries_along begun.result side n) at_end in
    let is_last = run_at runs now run begun.result begun.ensures.runs begun.ensures.number in
    ap (λ v. hints_by v.items c.loop-place.self-inside.entries.items) c.loop-place.invariant.runs
    ∙ ap (hints_by now) told
    ∙ hints_added runs now run entries added begun.ensures.runs c.self.invariant
    ∙ ap (λ hints. hints_by runs entries ++ hints)
    (told_along now run begun.result side count is_last s inner outer along)
    ∙ ap (λ waiting. waiting.hints ++ hints_along s count inner outer) c.self.view_is
