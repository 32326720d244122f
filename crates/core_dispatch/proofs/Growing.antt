-- What events do to the strokes of a core.
use Rattle.std.proofs.Common.{◌≡◌, List, [], ◌∷◌, ◌++◌, sym, refl, ap, ◌∙◌, subst, arith}
use Rattle.stroke_lattice.specs.State.{State, IsBelow}
use Rattle.stroke_lattice.proofs.Joins.{below_itself, below_through}
use Rattle.core_rules.specs.{Work.Core, Runs.Entry, Runs.IsRun, Counting.merges_of}
use Rattle.core_rules.specs.Events.{Event, Answer, Happens, Merge, Take, GiveBack, Abandon, Hand, OfMerge, OfTake}
use Rattle.core_rules.specs.Events.{OfGiveBack, OfAbandon, OfHand}
use Rattle.tiled_image.specs.Settling.{HasWorkedOn}
use Rattle.core_dispatch.specs.Growing.{GrowsOn}
use Rattle.core_dispatch.proofs.Steady.{IsSteady, as_before, through, taken_is_steady, given_back_is_steady}
use Rattle.core_dispatch.proofs.Steady.{abandoned_is_steady, handed_is_steady}

-- ---- events without merges

-- none of the events is a merge
abbrev pub AreNoMerges : List Entry → Type 0
AreNoMerges [] = Unit {0}
AreNoMerges ((Merge delta, answer) ∷ log) = ⊥
AreNoMerges (entry ∷ log) = AreNoMerges log

pub no_merges_append : (first second : List Entry) → AreNoMerges first → AreNoMerges second
    → AreNoMerges (first ++ second)
no_merges_append [] second none more = more
no_merges_append ((Merge delta, answer) ∷ log) second rest more = absurd rest
no_merges_append (entry ∷ log) second rest more = no_merges_append log second rest more

-- what is so of a list of events is so of the first one, and of the others
apart : (entry : Entry) (log : List Entry) → AreNoMerges (entry ∷ log) → AreNoMerges (entry ∷ []) × AreNoMerges log
apart (Merge delta, answer) log none = absurd none
apart (event, answer) log rest = (tt, rest)

-- events without merges leave strokes, mask, connectivity and generations
event_is_steady : (before : Core) (event : Event) (answer : Answer) (after : Core) → AreNoMerges ((event, answer) ∷ [])
    → Happens before event answer after → IsSteady before after
event_is_steady before (Take t) (OfTake job) after none happens = taken_is_steady before after t job happens
event_is_steady before (GiveBack swept) (OfGiveBack back) after none (is_swept, given) =
    given_back_is_steady before after swept back given
event_is_steady before (Abandon ticket) (OfAbandon was_out) after none happens =
    abandoned_is_steady before after ticket was_out happens
event_is_steady before (Hand t i) (OfHand answer) after none happens = handed_is_steady before after t i answer happens
event_is_steady before (Merge delta) answer after none happens = absurd none
event_is_steady before _ _ after none happens = absurd happens

pub run_is_steady : (before : Core) (log : List Entry) (after : Core) → AreNoMerges log → IsRun before log after
    → IsSteady before after
run_is_steady before [] after none same = as_before before after same
run_is_steady before (entry ∷ log) after none (next, happens, run) =
    let (first, rest) = apart entry log none in
    through before next after (event_is_steady before entry.0 entry.1 next first happens)
    (run_is_steady next log after rest run)

-- so do those of which none is counted as a merge
none_counted : (log : List Entry) → merges_of log ≡ 0 → AreNoMerges log
none_counted [] none = tt
none_counted ((Merge delta, answer) ∷ log) none = absurd (omega (arith, none))
none_counted (entry ∷ log) none = none_counted log none

pub worked_is_steady : (before after : Core) → HasWorkedOn before after → IsSteady before after
worked_is_steady before after (log, run, none) = run_is_steady before log after (none_counted log none) run

-- ---- all events

pub grows_itself : (core : Core) → GrowsOn core core
grows_itself core = record { mask = refl; conn = refl; state = below_itself core.state }

pub grows_through : (a b c : Core) → GrowsOn a b → GrowsOn b c → GrowsOn a c
grows_through a b c first second = record {
  mask = second.mask ∙ first.mask;
  conn = second.conn ∙ first.conn;
  state = below_through a.state b.state c.state first.state second.state;
}

steady_grows : (before after : Core) → IsSteady before after → GrowsOn before after
steady_grows before after keeps = record {
  mask = keeps.mask;
  conn = keeps.conn;
  state = subst (λ (s : State). IsBelow before.state s) (sym keeps.state) (below_itself before.state);
}

event_grows : (before : Core) (event : Event) (answer : Answer) (after : Core) → Happens before event answer after
    → GrowsOn before after
event_grows before (Merge delta) (OfMerge turnover) after merged = record {
  mask = ap (λ (c : Core). c.mask) merged.rest;
  conn = ap (λ (c : Core). c.conn) merged.rest;
  state = merged.join.first;
}
event_grows before (Merge delta) _ after happens = absurd happens
event_grows before event answer after happens =
    steady_grows before after (event_is_steady before event answer after tt happens)

-- whatever happens to a core, its strokes only join
pub run_grows : (before : Core) (log : List Entry) (after : Core) → IsRun before log after → GrowsOn before after
run_grows before [] after same = steady_grows before after (as_before before after same)
run_grows before (entry ∷ log) after (next, happens, run) =
    grows_through before next after (event_grows before entry.0 entry.1 next happens) (run_grows next log after run)
