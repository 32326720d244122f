-- Lists of events.
use Rattle.std.proofs.Common.{List, [], ◌∷◌, ◌++◌, sym, subst}
use Rattle.border_queues.specs.Laws.{EdgesAreOpen}
use Rattle.core_rules.specs.{Work.Core, Invariant.IsSound}
use Rattle.core_rules.specs.Events.{Event, Answer, Happens, Merge, Take, GiveBack, Abandon, Hand, OfMerge, OfTake}
use Rattle.core_rules.specs.Events.{OfGiveBack, OfAbandon, OfHand}
use Rattle.core_rules.specs.Runs.{Entry, IsRun, tickets_out, IsWorkedOff, IsSettling, IsSettled, IsCutShort, abandoned}
use Rattle.core_rules.proofs.{Handing.hand_keeps_sound, Joining.give_back_keeps_sound, Merging.merge_keeps_sound}
use Rattle.core_rules.proofs.Taking.{take_keeps_sound, abandon_keeps_sound}

pub event_keeps_sound : EdgesAreOpen → (before after : Core) (event : Event) (answer : Answer) → IsSound before
    → Happens before event answer after → IsSound after
event_keeps_sound edges_open before after (Merge delta) (OfMerge turnover) sound merged =
    merge_keeps_sound before after delta turnover sound merged
event_keeps_sound edges_open before after (Take t) (OfTake job) sound taken =
    take_keeps_sound before after t job sound taken
event_keeps_sound edges_open before after (GiveBack swept) (OfGiveBack back) sound (is_swept, given) =
    give_back_keeps_sound edges_open before after swept back sound is_swept given
event_keeps_sound edges_open before after (Abandon ticket) (OfAbandon was_out) sound abandoned =
    abandon_keeps_sound before after ticket was_out sound abandoned
event_keeps_sound edges_open before after (Hand t place) (OfHand handed) sound given =
    hand_keeps_sound before after t place handed sound given
event_keeps_sound edges_open before after _ _ sound happens = absurd happens

pub run_keeps_sound : EdgesAreOpen → (before after : Core) (log : List Entry) → IsSound before → IsRun before log after
    → IsSound after
run_keeps_sound edges_open before after [] sound same = subst IsSound (sym same) sound
run_keeps_sound edges_open before after (entry ∷ log) sound (next, happens, run) =
    run_keeps_sound edges_open next after log
    (event_keeps_sound edges_open before next entry.0 entry.1 sound happens) run

-- one run after another
pub run_append : (a b c : Core) (first second : List Entry) → IsRun a first b → IsRun b second c
    → IsRun a (first ++ second) c
run_append a b c [] second same run = subst (λ m. IsRun m second c) same run
run_append a b c (entry ∷ first) second (next, happens, rest) run =
    (next, happens, run_append next b c first second rest run)

pub worked_is_run : (before after : Core) (log : List Entry) → IsWorkedOff before log after → IsRun before log after
worked_is_run before after [] same = same
worked_is_run before after (entry ∷ log) (is_next, (next, happens, rest)) =
    (next, happens, worked_is_run next after log rest)

pub settling_is_run : (before after : Core) (log : List Entry) → IsSettling before log after → IsRun before log after
settling_is_run before after log settling =
    subst (λ es. IsRun before es after) (sym settling.parts)
    (run_append before settling.cleared after (abandoned (tickets_out 0 before.tiles)) settling.work settling.clears
    (worked_is_run settling.cleared after settling.work settling.works))

pub settled_is_run : (before after : Core) (log : List Entry) → IsSettled before log after → IsRun before log after
settled_is_run before after log settled = settling_is_run before after log settled.settling

-- what was done until want of memory is a list of events too
pub cut_short_is_run : (before after : Core) (log : List Entry) → IsCutShort before log after → IsRun before log after
cut_short_is_run before after log cut =
    rw cut.parts (run_append before cut.reached after cut.done (abandoned cut.in_hand)
    (settling_is_run before cut.reached cut.done cut.settling) cut.drops)
