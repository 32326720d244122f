-- What a run says that reads bytes in memory to their end, and writes into an empty sink in memory; and which of its
-- faults are want of memory, which does not end the program with status 1.
use Rattle.std.proofs.Common.{◌≡◌, ◌⊎◌, ◌++◌, ◌∙◌, ℕ, List, Ok, Err, inl, inr, subst, sym, ap, arith}
use Rattle.byte_devices.specs.MemoryDevice.{MemoryInput, MemoryOutput, fresh_input, fresh_output, input_seen}
use Rattle.byte_devices.specs.MemoryDevice.{output_seen}
use Rattle.grid_core.specs.declared.conn.Conn.{Conn}
use Rattle.stroke_lattice.specs.State.{State}
use Rattle.run_faults.specs.{declared.run_error.RunError.RunError, RunError.HasStatus, RunError.IsMemory}
use Rattle.run_faults.specs.RunError.{IsReadingFault, IsTransferFault}
use Rattle.seedpaint_c.specs.Buffers.{IsEndedBy, IsShortage, SaysFault}
use Rattle.view_session.specs.Answering.{Answers}
use Rattle.view_session.specs.Kept.{KeptIsRefused, KeptStops}
use Rattle.view_session.specs.View.{InputIsRefused, InputStops}

module _ {V : Type 0} (answers : List ℕ → V → List ℕ → Type 0) (stops : List ℕ → RunError → Type 0)
    (input : List ℕ) (piece most : ℕ) (source source' : MemoryInput) (sink sink' : MemoryOutput)
    (whole : source ≡ fresh_input input piece) (empty : sink ≡ fresh_output most) where
  -- what was written answers the bytes
  pub answers_bytes : (v : V) → Answers answers stops (Ok v) input_seen source source' output_seen sink sink'
      → answers input v sink'.written
  answers_bytes v run =
      let p = run.responds.shown in
      let read_is : p.0 ≡ input = p.2 ∙ ap (λ (s : MemoryInput). s.left) whole in
      let text_is : sink'.written ≡ p.1 = p.4 ∙ ap (λ (s : MemoryOutput). s.written ++ p.1) empty in
      subst (λ (text : List ℕ). answers input v text) (sym text_is)
      (subst (λ (read : List ℕ). answers read v p.1) read_is p.3)

  -- the bytes are what a run stopped at
  pub stops_at_bytes : (e : RunError) → Answers answers stops (Err e) input_seen source source' output_seen sink sink'
      → IsReadingFault e ⊎ IsTransferFault e ⊎ stops input e
  stops_at_bytes e run = elim run.responds.refused [
    | inl early ↦ inl early
    | inr (inl failed) ↦ inr (inl failed)
    | inr (inr stopped) ↦ inr (inr (subst (λ (read : List ℕ). stops read e)
        (stopped.1 ∙ ap (λ (s : MemoryInput). s.left) whole) stopped.2))
  ]

-- want of memory does not end the program with status 1
pub memory_is_not_refused : (e : RunError) → IsMemory e → HasStatus e 1 → ⊥
memory_is_not_refused e memory status = absurd (omega (arith, status.memory memory))

pub shortage_is_not_refused : (e : RunError) → IsShortage e → HasStatus e 1 → ⊥
shortage_is_not_refused e (inl memory) status = memory_is_not_refused e memory status
shortage_is_not_refused e (inr transfer) status = absurd (omega (arith, status.device (inl transfer)))

-- a run ended by a fault of which this is told
pub is_ended_by : (Refuses Wants : RunError → Type 0) (old new : List ℕ) (count code : ℕ) (e : RunError)
    → (Wants e → HasStatus e 1 → ⊥) → Refuses e ⊎ Wants e → (code ≡ 1 → HasStatus e 1)
    → (code ≡ 3 → (HasStatus e 1 → ⊥) ⊎ (count ≡ 0)) → SaysFault old new count code e
    → IsEndedBy Refuses Wants old new count code
is_ended_by Refuses Wants old new count code e not_refused why one three line = record {
  fault = e;
  why = why;
  refused = λ is_one. elim why [
    | inl refuses ↦ (one is_one, refuses)
    | inr wants ↦ absurd (not_refused wants (one is_one))
  ];
  memory = three;
  line = line;
}

-- a view ends since its input is refused, or for want of memory
pub view_ends : (old : State) (input : List ℕ) (e : RunError)
    → IsReadingFault e ⊎ IsTransferFault e ⊎ InputStops old input e → InputIsRefused old input e ⊎ IsShortage e
view_ends old input e (inl reading) = inr (inl (inr (inr (inl reading))))
view_ends old input e (inr (inl transfer)) = inr (inr transfer)
view_ends old input e (inr (inr (inl refused))) = inl refused
view_ends old input e (inr (inr (inr (inl edits)))) = inr (inl (inr (inl edits.0)))
view_ends old input e (inr (inr (inr (inr (mask, deltas, spelled, inl merging))))) =
    inr (inl (inr (inr (inr (inl merging.0)))))
view_ends old input e (inr (inr (inr (inr (mask, deltas, spelled, inr behind))))) = inr (inl (inl behind.0))

-- and one over the old bytes of a state file since its input or these are refused, or for want of memory
pub kept_ends : (conn : Conn) (old input : List ℕ) (e : RunError)
    → IsReadingFault e ⊎ IsTransferFault e ⊎ KeptStops conn old input e
    → KeptIsRefused conn old input e ⊎ IsShortage e
kept_ends conn old input e (inl reading) = inr (inl (inr (inr (inl reading))))
kept_ends conn old input e (inr (inl transfer)) = inr (inr transfer)
kept_ends conn old input e (inr (inr (inl refused))) = inl refused
kept_ends conn old input e (inr (inr (inr (inl edits)))) = inr (inl (inr (inl edits.0)))
kept_ends conn old input e (inr (inr (inr (inr (mask, deltas, spelled, inl file))))) =
    inr (inl (inr (inr (inr (inr file.0)))))
kept_ends conn old input e
    (inr (inr (inr (inr (mask, deltas, spelled, inr (kept, old_spelled, inl (inl merging))))))) =
    inr (inl (inr (inr (inr (inl merging.0)))))
kept_ends conn old input e
    (inr (inr (inr (inr (mask, deltas, spelled, inr (kept, old_spelled, inl (inr behind))))))) =
    inr (inl (inl behind.0))
kept_ends conn old input e
    (inr (inr (inr (inr (mask, deltas, spelled, inr (kept, old_spelled, inr writing)))))) =
    inr (inl (inr (inr (inr (inr writing.0)))))
