-- What events that are no merges keep of a core.
use Rattle.std.proofs.Common.{◌≡◌, ℕ, true, false, List, [], ◌∷◌, ap, ◌∙◌, refl, arith, Some, None}
use Rattle.grid_core.specs.{declared.conn.Conn.Conn, Raster.Raster}
use Rattle.stroke_lattice.specs.State.{State}
use Rattle.core_rules.specs.declared.answers.Back.TheVariants.{Joined, Again, Stale, Stranger}
use Rattle.core_rules.specs.declared.answers.Handed.TheVariants.{Raised, Same, Stale as Old, Nothing}
use Rattle.core_rules.specs.{Work.Core, Runs.Entry, Runs.IsRun, Counting.merges_of}
use Rattle.core_rules.specs.Events.{Event, Answer, Happens, Merge, Take, GiveBack, Abandon, Hand, OfTake, OfGiveBack}
use Rattle.core_rules.specs.Events.{OfAbandon, OfHand}

-- mask, connectivity, side of the tiles and strokes stay
pub record Keeps (before after : Core) : Type 0 where
  pub mask : after.mask ≡ before.mask
  pub conn : after.conn ≡ before.conn
  pub side : after.side ≡ before.side
  pub state : after.state ≡ before.state

-- these four together
abbrev kept_parts : Core → Raster × Conn × ℕ × State
kept_parts core = (core.mask, core.conn, core.side, core.state)

abbrev AreKept : Core → Core → Type 0
AreKept before after = kept_parts after ≡ kept_parts before

all_kept : (before after : Core) → AreKept before after → Keeps before after
all_kept before after kept = record {
  mask = ap (λ (parts : Raster × Conn × ℕ × State). parts.0) kept;
  conn = ap (λ (parts : Raster × Conn × ℕ × State). parts.1) kept;
  side = ap (λ (parts : Raster × Conn × ℕ × State). parts.2) kept;
  state = ap (λ (parts : Raster × Conn × ℕ × State). parts.3) kept;
}

event_keeps_all : (before after : Core) (event : Event) (answer : Answer) → merges_of ((event, answer) ∷ []) ≡ 0
    → Happens before event answer after → AreKept before after
event_keeps_all before after (Take t) (OfTake (Some job)) none (ready, is_job, same) = ap kept_parts same
event_keeps_all before after (Take t) (OfTake None) none (unready, same) = ap kept_parts same
event_keeps_all before after (GiveBack swept) (OfGiveBack Joined) none (is, (known, out, unchanged, joined)) =
    ap kept_parts joined.rest
event_keeps_all before after (GiveBack swept) (OfGiveBack Again) none (is, (known, out, risen, joined)) =
    ap kept_parts joined.rest
event_keeps_all before after (GiveBack swept) (OfGiveBack Stale) none (is, (known, out, same)) = ap kept_parts same
event_keeps_all before after (GiveBack swept) (OfGiveBack Stranger) none (is, (why, same)) = ap kept_parts same
event_keeps_all before after (Abandon ticket) (OfAbandon true) none (out, same) = ap kept_parts same
event_keeps_all before after (Abandon ticket) (OfAbandon false) none (not_out, same) = ap kept_parts same
event_keeps_all before after (Hand t place) (OfHand Nothing) none (no_hint, same) = ap kept_parts same
event_keeps_all before after (Hand t place) (OfHand Old) none (hint, there, old, same) = ap kept_parts same
event_keeps_all before after (Hand t place) (OfHand Raised) none (hint, there, new, above, same) = ap kept_parts same
event_keeps_all before after (Hand t place) (OfHand Same) none (hint, there, new, enough, same) = ap kept_parts same
event_keeps_all before after (Merge delta) answer none happens = absurd (omega (arith, none))
event_keeps_all before after event answer none happens = absurd happens

-- no event of a list without merges is one
apart : (entry : Entry) (log : List Entry) → merges_of (entry ∷ log) ≡ 0
    → (merges_of (entry ∷ []) ≡ 0) × (merges_of log ≡ 0)
apart (Merge delta, answer) log none = absurd (omega (arith, none))
apart (event, answer) log none = (refl, none)

run_keeps_all : (before after : Core) (log : List Entry) → merges_of log ≡ 0 → IsRun before log after
    → AreKept before after
run_keeps_all before after [] none same = ap kept_parts same
run_keeps_all before after (entry ∷ log) none (next, happens, run) =
    let (first, rest) = apart entry log none in
    run_keeps_all next after log rest run ∙ event_keeps_all before next entry.0 entry.1 first happens

-- an event that is no merge keeps all of these
pub event_keeps : (before after : Core) (event : Event) (answer : Answer) → merges_of ((event, answer) ∷ []) ≡ 0
    → Happens before event answer after → Keeps before after
event_keeps before after event answer none happens =
    all_kept before after (event_keeps_all before after event answer none happens)

-- and so does a list of such events
pub run_keeps : (before after : Core) (log : List Entry) → merges_of log ≡ 0 → IsRun before log after
    → Keeps before after
run_keeps before after log none run = all_kept before after (run_keeps_all before after log none run)
