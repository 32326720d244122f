-- The event table: what each event of a core answers, and what the core is afterwards.
use Rattle.std.specs.Prelude.{ℕ, Bool, Option}
use Rattle.stroke_lattice.specs.{State.State, Change.Turnover}
use Rattle.tile_generations.specs.{declared.ticket.Ticket.Ticket, Jobs.Job, Jobs.Swept, Jobs.IsSwept}
use Rattle.core_rules.specs.{declared.answers.Back.Back, declared.answers.Handed.Handed, Work.Core, Merge.IsMerged}
use Rattle.core_rules.specs.{Sweeps.IsTaken, Sweeps.IsGivenBack, Sweeps.IsAbandoned, Hints.IsHanded}

-- what can happen to a core: a delta is merged, a tile is taken, a swept tile is given back, a job is abandoned, and
-- the hint at a place of a tile's inbox is handed over
pub data Event : Type 0 where
  Merge : (delta : State) → Event
  Take : (tile : ℕ) → Event
  GiveBack : (swept : Swept) → Event
  Abandon : (ticket : Ticket) → Event
  Hand : (tile place : ℕ) → Event

-- what an event answers
pub data Answer : Type 0 where
  OfMerge : (turnover : Turnover) → Answer
  OfTake : (job : Option Job) → Answer
  OfGiveBack : (back : Back) → Answer
  OfAbandon : (was_out : Bool) → Answer
  OfHand : (handed : Handed) → Answer

-- from the first core the event leads to the second, with this answer
abbrev pub Happens : Core → Event → Answer → Core → Type 0
Happens before (Merge delta) (OfMerge turnover) after = IsMerged before delta turnover after
Happens before (Take t) (OfTake job) after = IsTaken before t job after
Happens before (GiveBack swept) (OfGiveBack back) after = IsSwept swept × IsGivenBack before swept back after
Happens before (Abandon ticket) (OfAbandon was_out) after = IsAbandoned before ticket was_out after
Happens before (Hand t place) (OfHand handed) after = IsHanded before t place handed after
Happens before _ _ after = ⊥
