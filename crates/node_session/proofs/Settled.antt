-- Settling merges nothing.
use Rattle.std.proofs.Common.{ℕ, List, [], ◌∷◌, sym, subst, Bool, Result, IfOk, OnErr}
use Rattle.tile_generations.specs.declared.ticket.Ticket.{Ticket}
use Rattle.core_rules.specs.{Work.Core, Events.Merge, Events.Abandon}
use Rattle.core_rules.specs.{Runs.Entry, Runs.IsWorkedOff, Runs.IsSettled, Runs.abandoned, Runs.tickets_out}
use Rattle.core_rules.proofs.Running.{settled_is_run}
use Rattle.reset_core.specs.Answers.{IsSliceInBands, IsRunCutShort}
use Rattle.reset_core.specs.declared.replica.settling.Slice.{Slice}
use Rattle.tiled_image.proofs.SettledRows.{worked_on}
use Rattle.core_dispatch.proofs.{Growing.AreNoMerges, Growing.no_merges_append, Growing.run_is_steady}
use Rattle.core_dispatch.proofs.{Growing.worked_is_steady, Steady.IsSteady}

none_in_work : (before : Core) (log : List Entry) (after : Core) → IsWorkedOff before log after → AreNoMerges log
none_in_work before [] after is = tt
none_in_work before ((Merge delta, answer) ∷ log) after (next, more) = absurd next
none_in_work before ((Abandon ticket, answer) ∷ log) after (next, more) = absurd next
none_in_work before (entry ∷ log) after (is, (next, happens, more)) = none_in_work next log after more

none_in_abandons : (tickets : List Ticket) → AreNoMerges (abandoned tickets)
none_in_abandons [] = tt
none_in_abandons (ticket ∷ tickets) = none_in_abandons tickets

-- settling leaves strokes, mask and connectivity
pub settled_keeps : (before : Core) (log : List Entry) (after : Core) → IsSettled before log after
    → IsSteady before after
settled_keeps before log after settled =
    let settling = settled.settling in
    run_is_steady before log after
    (subst AreNoMerges (sym settling.parts)
    (no_merges_append (abandoned (tickets_out 0 before.tiles)) settling.work
    (none_in_abandons (tickets_out 0 before.tiles))
    (none_in_work settling.cleared settling.work after settling.works)))
    (settled_is_run before after log settled)

-- and so does a slice of settling in whatever order, also where it was cut short
pub in_bands_keeps : {E : Type 0} (before after : Core) (old new : List Bool) (limit : ℕ) (answer : Result Slice E)
    → IfOk answer (λ slice. IsSliceInBands before old limit slice after new)
    → OnErr answer (IsRunCutShort before old after new) → IsSteady before after
in_bands_keeps before after old new limit answer done cut =
    worked_is_steady before after (worked_on before after old new limit answer done cut)
