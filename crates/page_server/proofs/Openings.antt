-- What is said of a board that is opened, by where it ends: in loading the file, in reading the mask, or behind both.
use Rattle.std.proofs.Common.{◌≡◌, ◌⊎◌, ℕ, List, [], Option, Result, Ok, Err, inl, inr, refl, ap, arith, IfErr, IfOk}
use Rattle.byte_devices.specs.{Device.SourceSeen, Transfer.IsInputOf, Transfer.ReadsToEnd, Transfer.most_pulls}
use Rattle.grid_core.specs.{declared.conn.Conn.Conn, Tiles.IsTileSide}
use Rattle.pgm_codec.specs.{FirstFault.PgmFault, Graymap.Graymap, Spelling.PgmSpells, declared.error.PgmError.PgmError}
use Rattle.pgm_codec.specs.Transfer.{IsOfMemory, IsOfDevice}
use Rattle.view_session.specs.{Kept.OldIsRefused, Store.Held, Store.IsHeldIn}
use Rattle.run_faults.specs.{RunError.IsMemory, RunError.IsTransferFault, declared.run_error.RunError.RunError}
use Rattle.run_faults.specs.declared.run_error.RunError.TheVariants.{Pgm, StateFile, Memory}
use Rattle.page_board.specs.Opening.{IsNotOpenedOver}
use Rattle.page_server.specs.Opening.{IsNotOpenedFrom, IsOpeningFault}
use Rattle.pgm_codec.specs.declared.error.PgmError.TheVariants as pgm

-- why no board is opened over the bytes of a file, where tiles may have the side
not_opened : (mask : Graymap) (conn : Conn) (side : ℕ) (old : List ℕ) (e : RunError) → IsTileSide side
    → IsNotOpenedOver mask conn side old e → IsMemory e ⊎ OldIsRefused conn old [] mask e
not_opened mask conn side old e may (inl (inl (bad, may_not))) = absurd (may_not may)
not_opened mask conn side old e may (inl (inr (memory, also))) = inl memory
not_opened mask conn side old e may (inr (also, why)) = why

-- ---- the file was not loaded

pub loading_is_early : (e : RunError) → (e ≡ StateFile) ⊎ (e ≡ Memory) → IsOpeningFault e
loading_is_early e (inl file) = inl file
loading_is_early e (inr memory) = inr (inl memory)

pub unread : {T : Type 0} (e : RunError) (seen : SourceSeen) → (e ≡ StateFile) ⊎ (e ≡ Memory)
    → ReadsToEnd {T = T} IsOpeningFault IsTransferFault most_pulls (Err e) seen seen
unread e seen why = record {
  at_end = inl (loading_is_early e why);
  ended = inl (loading_is_early e why);
  steady = tt;
  in_time = omega arith;
  device = λ device. elim why [ inl file ↦ cc | inr memory ↦ cc ];
  failure = λ risen. absurd (omega (arith, risen));
}

-- ---- the mask was not read

pub mask_refused : (conn : Conn) (held : Held) (name old : List ℕ) (known : Option (List ℕ)) (fault : PgmError)
    → IsHeldIn held name old
    → IsOfMemory fault ⊎ IsOfDevice fault ⊎ ((input : List ℕ) × IsInputOf known input × PgmFault input fault)
    → IsOpeningFault (Pgm fault) ⊎ IsTransferFault (Pgm fault)
    ⊎ ((old input : List ℕ) × IsHeldIn held name old × IsInputOf known input
    × IsNotOpenedFrom conn old input (Pgm fault))
mask_refused conn held name old known fault is_held (inl memory) = inl (inr (inr (inr (inl (ap Pgm memory)))))
mask_refused conn held name old known fault is_held (inr (inl device)) = inr (inl (ap Pgm device))
mask_refused conn held name old known fault is_held (inr (inr (input, is_input, first))) =
    inr (inr (old, input, is_held, is_input, inl (fault, refl, first)))

-- by the fault of the file, or by what else there is
by_fault : (X : Type 0) (fault : PgmError) → IsOfMemory fault ⊎ IsOfDevice fault ⊎ X
    → IsOpeningFault (Pgm fault) ⊎ IsTransferFault (Pgm fault) ⊎ X
by_fault X fault (inl memory) = inl (inr (inr (inr (inl (ap Pgm memory)))))
by_fault X fault (inr (inl device)) = inr (inl (ap Pgm device))
by_fault X fault (inr (inr other)) = inr (inr other)

pub mask_unread : {T U : Type 0} (fault : PgmError) (seen seen' : SourceSeen)
    → ReadsToEnd {T = U} IsOfMemory IsOfDevice most_pulls (Err fault) seen seen'
    → ReadsToEnd {T = T} IsOpeningFault IsTransferFault most_pulls (Err (Pgm fault)) seen seen'
mask_unread fault seen seen' read = record {
  at_end = by_fault _ fault read.at_end;
  ended = by_fault _ fault read.ended;
  steady = tt;
  in_time = read.in_time;
  device = λ device. read.device (let same : fault ≡ pgm.Device = cc in same);
  failure = λ risen. ap Pgm (read.failure risen);
}

-- ---- the mask was read

module _ (mask : Graymap) (conn : Conn) (side run : ℕ) (held : Held) (name old : List ℕ) (known : Option (List ℕ))
    (input : List ℕ) (is_held : IsHeldIn held name old) (is_input : IsInputOf known input)
    (spelled : PgmSpells input mask) (may : IsTileSide side) where
  pub refused : (e : RunError) → IsNotOpenedOver mask conn side old e → IsOpeningFault e ⊎ IsTransferFault e
      ⊎ ((old input : List ℕ) × IsHeldIn held name old × IsInputOf known input × IsNotOpenedFrom conn old input e)
  refused e why = elim (not_opened mask conn side old e may why) [
    | inl memory ↦ inl (inr memory)
    | inr by_old ↦ inr (inr (old, input, is_held, is_input, inr (mask, spelled, by_old)))
  ]

-- ---- reading the mask

-- what is read of known bytes
pub mask_found : (known : Option (List ℕ)) (input : List ℕ) (result : Result Graymap PgmError) → IsInputOf known input
    → IfOk result (λ mask. PgmSpells input mask)
    → IfOk result (λ mask. (input : List ℕ) × IsInputOf known input × PgmSpells input mask)
mask_found known input (Ok mask) is_input spelled = (input, is_input, spelled)
mask_found known input (Err e) is_input spelled = tt

pub mask_faulty : (known : Option (List ℕ)) (input : List ℕ) (result : Result Graymap PgmError)
    → IsInputOf known input → IfErr result (λ e. (e ≡ pgm.Memory) ⊎ PgmFault input e)
    → IfErr result (λ e. IsOfMemory e ⊎ IsOfDevice e ⊎ ((input : List ℕ) × IsInputOf known input × PgmFault input e))
mask_faulty known input (Ok mask) is_input faulty = tt
mask_faulty known input (Err e) is_input (inl memory) = inl memory
mask_faulty known input (Err e) is_input (inr fault) = inr (inr (input, is_input, fault))
