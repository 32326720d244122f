use Rattle.std.proofs.Common.{ℕ, List, ap}
use Rattle.core_rules.specs.declared.error.CoreError.{CoreError}
use Rattle.reset_core.specs.Scheduling.{Kept, kept_of}
use Rattle.reset_core.proofs.Scheduling.{edit_accepted, edit_turned_down, edit_cut_off}
use Rattle.reset_core.proofs.replica.Core.edit.Goals as goal

pub returns-in-Ok-clause-step : goal.returns-in-Ok-clause-step
returns-in-Ok-clause-step c =
    let kept : Kept = kept_of c.args.tally.now in
    let n = c.args.number in
    rw c.push_reserved.ensures.items
    (edit_accepted n c.args.delta.now c.args.self.now c.merge.new.self kept c.in-Ok._change c.in-Ok.ensures.merged)

pub returns-in-Memory-clause-err : goal.returns-in-Memory-clause-err
returns-in-Memory-clause-err c = (
  edit_cut_off c.args.delta.now c.args.self.now c.in-Err.why c.in-Err.ensures.refused c.in-Memory.is,
  c.in-Err.ensures.err,
)

pub returns-in_default-clause-step : goal.returns-in_default-clause-step
returns-in_default-clause-step c =
    let kept : Kept = kept_of c.args.tally.now in
    edit_turned_down c.args.number c.args.delta.now c.args.self.now c.merge.new.self kept _ c.in-Err.why
    c.in-Err.ensures.refused c.in_default.not-Memory c.in-Err.ensures.err
    (ap (λ (listed : List (ℕ × CoreError)). record kept { refused = listed }) c.push_reserved-in_default.ensures.items)
