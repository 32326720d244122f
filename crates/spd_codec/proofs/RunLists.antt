-- Runs of which each is behind the one before it are in order.
use Rattle.std.proofs.Common.{◌≡◌, ◌≤◌, Bool, true, false, List, [], ◌∷◌, Option, Some, None, refl, inl, inr}
use Rattle.std.proofs.lemmas.Bool.{eqb-true, eq-eqb, ltb-true, leb-true, lt-ltb, le-leb, and_parts, and_from, or_left}
use Rattle.std.proofs.lemmas.Bool.{or_right}
use Rattle.grid_core.proofs.Common.{either}
use Rattle.stroke_core.specs.{declared.run.Run.Run, Seed.AreOrdered, Seed.IsBefore, Seed.AreInOrder}
use Rattle.spd_codec.proofs.Sequences.{Follow}
use Rattle.spd_codec.specs.{declared.error.SpdError.SpdError, Faults.run_fault, Faults.is_behind, Faults.unless}

-- a test that must hold
pub unless_none : (b : Bool) (e : SpdError) → unless b e ≡ None → b ≡ true
unless_none true e h = refl
unless_none false e h = absurd cc

-- a test that holds
pub unless_from : (b : Bool) (e : SpdError) → b ≡ true → unless b e ≡ None
unless_from true e h = refl
unless_from false e h = absurd cc

-- the run is in order with the one before it
abbrev pub IsBehind : Option Run → Run → Type 0
IsBehind None run = Unit {0}
IsBehind (Some before) run = AreInOrder before run

-- and it is well made
abbrev pub IsNextRun : Option Run → Run → Type 0
IsNextRun before run = (run.x0 ≤ run.x1) × IsBehind before run

-- each run is well made, and behind the one before it
abbrev pub AreBehind : Option Run → List Run → Type 0
AreBehind = Follow (λ run. run) IsNextRun

-- runs that pass the test are in order
tested : (before run : Run) → is_behind (Some before) run ≡ true → AreInOrder before run
tested before run h =
    elim (either _ _ h) [
      | inl later ↦ inl (ltb-true _ _ later)
      | inr beside ↦ let p = and_parts _ _ beside in inr (eqb-true _ _ p.0, ltb-true _ _ p.1)
    ]

-- runs in order pass the test
test : (before run : Run) → AreInOrder before run → is_behind (Some before) run ≡ true
test before run (inl later) = or_left _ _ (lt-ltb _ _ later)
test before run (inr beside) = or_right _ _ (and_from _ _ (eq-eqb before.y run.y beside.0) (lt-ltb _ _ beside.1))

-- a run with which nothing is wrong
pub run_good : (before : Option Run) (run : Run) → run_fault before run ≡ None → IsNextRun before run
run_good None run h = (leb-true _ _ (and_parts _ _ (unless_none _ _ h)).0, tt)
run_good (Some before) run h =
    let p = and_parts _ _ (unless_none _ _ h) in
    (leb-true _ _ p.0, tested before run p.1)

-- and one that is in order
pub good_run : (before : Option Run) (run : Run) → run.x0 ≤ run.x1 → IsBehind before run → run_fault before run ≡ None
good_run None run le h = unless_from _ _ (and_from _ _ (le-leb _ _ le) refl)
good_run (Some before) run le h = unless_from _ _ (and_from _ _ (le-leb _ _ le) (test before run h))

-- the first is behind the run before it
before_first : (run : Run) (runs : List Run) → AreBehind (Some run) runs → IsBefore run runs
before_first run [] h = tt
before_first run (next ∷ runs) h = h.0.1

-- each behind the one before it, they are in order
pub in_order : (before : Option Run) (runs : List Run) → AreBehind before runs → AreOrdered runs
in_order before [] h = tt
in_order before (run ∷ runs) h = (h.0.0, before_first run runs h.1, in_order (Some run) runs h.1)

-- those in order behind a run
behind_run : (run : Run) (runs : List Run) → IsBefore run runs → AreOrdered runs → AreBehind (Some run) runs
behind_run run [] first h = tt
behind_run run (next ∷ runs) first h = ((h.0, first), behind_run next runs h.1 h.2)

-- and in order, each is behind the one before it
pub one_behind_another : (runs : List Run) → AreOrdered runs → AreBehind None runs
one_behind_another [] h = tt
one_behind_another (run ∷ runs) h = ((h.0, tt), behind_run run runs h.1 h.2)
