-- Lemmas for the crates above: runs over a store, from what runs without one say, and runs whose errors are told apart
-- less.
use Rattle.std.proofs.Common.{◌≡◌, ◌⊎◌, ℕ, List, Option, Result, Ok, Err, None, inl, inr, refl, ap, arith, Bool}
use Rattle.std.proofs.Common.{true, false, ◌∷◌, ◌++◌, IfErr}
use Rattle.byte_devices.specs.{Device.SourceSeen, Device.SinkSeen, Response.Responds, Response.TellsDevices}
use Rattle.byte_devices.specs.{Transfer.IsInputOf}
use Rattle.grid_core.specs.declared.conn.Conn.{Conn}
use Rattle.pgm_codec.specs.Graymap.{Graymap}
use Rattle.stroke_lattice.specs.State.{State}
use Rattle.view_session.specs.{Derive.DerivationStops, Kept.KeptStops, Kept.OldIsRefused, Joining.IsNotJoinedOver}
use Rattle.view_session.specs.{declared.joining.Strokes.Strokes, Store.Held, Store.StoreSeen}
use Rattle.view_session.specs.View.{DeltasAreRefused, DeltasHalt, InputIsRefusedBy, InputStops, Refusal}
use Rattle.view_session.specs.Serving.{IsSavingFault, IsStoreFault, Serves, StoredStops, TellsStore, ToKeep}
use Rattle.run_faults.specs.{RunError.IsReadingFault, RunError.IsTransferFault, declared.run_error.RunError.RunError}
use Rattle.run_faults.specs.declared.run_error.RunError.TheVariants.{Usage, NoImage, Edit, Pgm, Core, Spd, OtherMask}
use Rattle.run_faults.specs.declared.run_error.RunError.TheVariants.{StateFile, Memory, Studio, Link}

-- V2 is none of these
pub reading_is_no_file : (e : RunError) → IsReadingFault e → e ≡ StateFile → ⊥
reading_is_no_file e reading file = cc

pub transfer_is_no_file : (e : RunError) → IsTransferFault e → e ≡ StateFile → ⊥
transfer_is_no_file e device file = cc

-- a fault in saving is none of a source or a sink
pub saving_is_no_transfer : (e : RunError) → IsSavingFault e → IsTransferFault e → ⊥
saving_is_no_transfer e saving device = grind arith

-- an error that an input or a state file gives, and neither the words nor a store
abbrev pub is_of_input : RunError → Bool
is_of_input Usage = false
is_of_input NoImage = true
is_of_input (Edit e) = true
is_of_input (Pgm e) = true
is_of_input (Core e) = true
is_of_input (Spd e) = true
is_of_input OtherMask = true
is_of_input StateFile = false
is_of_input Memory = true
is_of_input (Studio why) = false
is_of_input Link = false

pub input_is_no_file : (e : RunError) → is_of_input e ≡ true → e ≡ StateFile → ⊥
input_is_no_file e is file = cc

-- where an input stops on deltas, it is for one of these
deltas_of_input : (deltas : List State) (mask : Graymap) (e : RunError)
    → DeltasAreRefused deltas mask e ⊎ DeltasHalt deltas mask e → is_of_input e ≡ true
deltas_of_input deltas mask e (inl (why, is, first)) = ap is_of_input is
deltas_of_input deltas mask e (inr (inl (is, halted))) = ap is_of_input is
deltas_of_input deltas mask e (inr (inr (is, state, merged))) = ap is_of_input is

refused_of_input : (Why : Refusal)
    → ((deltas : List State) (mask : Graymap) (e : RunError) → Why deltas mask e → is_of_input e ≡ true)
    → (input : List ℕ) (e : RunError) → InputIsRefusedBy Why input e → is_of_input e ≡ true
refused_of_input Why why input e (inl (is, none)) = ap is_of_input is
refused_of_input Why why input e (inr (edits, file, split, inl (fault, is, first))) = ap is_of_input is
refused_of_input Why why input e (inr (edits, file, split, inr (deltas, spelled, inl (fault, is, first)))) =
    ap is_of_input is
refused_of_input Why why input e (inr (edits, file, split, inr (deltas, spelled, inr (mask, spells, more)))) =
    why deltas mask e more

old_of_input : (conn : Conn) (old : List ℕ) (deltas : List State) (mask : Graymap) (e : RunError)
    → OldIsRefused conn old deltas mask e → is_of_input e ≡ true
old_of_input conn old deltas mask e (inl (fault, is, first)) = ap is_of_input is
old_of_input conn old deltas mask e (inr (inl (is, other))) = ap is_of_input is
old_of_input conn old deltas mask e (inr (inr (kept, spells, refused))) =
    deltas_of_input (kept ++ deltas) mask e (inl refused)

-- where a run stops on an input, over an old state, over the old bytes of a state file, or for a derivation
pub input_stops_of_input : (old : State) (input : List ℕ) (e : RunError) → InputStops old input e → is_of_input e ≡ true
input_stops_of_input old input e (inl refused) =
    refused_of_input _ (λ deltas mask why more. deltas_of_input (old ∷ deltas) mask why (inl more)) input e refused
input_stops_of_input old input e (inr (inl (is, edits, file, split))) = ap is_of_input is
input_stops_of_input old input e (inr (inr (mask, deltas, spelled, halts))) =
    deltas_of_input (old ∷ deltas) mask e (inr halts)

pub kept_stops_of_input : (conn : Conn) (old input : List ℕ) (e : RunError) → KeptStops conn old input e
    → is_of_input e ≡ true
kept_stops_of_input conn old input e (inl refused) = refused_of_input _ (old_of_input conn old) input e refused
kept_stops_of_input conn old input e (inr (inl (is, edits, file, split))) = ap is_of_input is
kept_stops_of_input conn old input e (inr (inr (mask, deltas, spelled, inl (is, some)))) = ap is_of_input is
kept_stops_of_input conn old input e (inr (inr (mask, deltas, spelled, inr (kept, spells, inl halts)))) =
    deltas_of_input (kept ++ deltas) mask e (inr halts)
kept_stops_of_input conn old input e (inr (inr (mask, deltas, spelled, inr (kept, spells, inr (is, state, merged))))) =
    ap is_of_input is

pub derivation_stops_of_input : (input : List ℕ) (e : RunError) → DerivationStops input e → is_of_input e ≡ true
derivation_stops_of_input input e (inl (fault, is, first)) = ap is_of_input is
derivation_stops_of_input input e (inr (is, image, spelled)) = ap is_of_input is

module _ {S K : Type 0} (known : Option (List ℕ)) (source source' : S) (seen : K → SinkSeen) (sink sink' : K) where
  -- a run without a store serves what it answers, and keeps nothing
  pub serves_alone : (answers : List ℕ → Unit {0} → List ℕ → Type 0) (served : List ℕ → List ℕ → ToKeep → Type 0)
      (shows : List ℕ → List ℕ → Type 0) (stops wider_stops : List ℕ → RunError → Type 0) (early : RunError → Type 0)
      (result : Result (Unit {0}) RunError) (held : Held)
      → ((input : List ℕ) (value : Unit {0}) (text : List ℕ) → answers input value text
      → served input text None × shows input text)
      → ((input : List ℕ) (e : RunError) → stops input e → wider_stops input e)
      → ((input : List ℕ) (e : RunError) → stops input e → e ≡ StateFile → ⊥)
      → ((e : RunError) → IsReadingFault e → early e)
      → Responds answers stops IsReadingFault IsTransferFault result known seen sink sink'
      → Serves served shows wider_stops early result known source source' seen sink sink' held held
  serves_alone answers served shows stops wider_stops early (Ok value) held serve widen no_file widen_early r = record {
    shown = (
      r.shown.0,
      r.shown.1,
      None,
      r.shown.2,
      (serve r.shown.0 value r.shown.1 r.shown.3).0,
      r.shown.4,
      λ name. refl,
    );
    refused = tt;
    untouched = tt;
    written = tt;
    unsaved = tt;
    not_saved = tt;
  }
  serves_alone answers served shows stops wider_stops early (Err e) held serve widen no_file widen_early r = record {
    shown = tt;
    refused = elim r.refused [
      | inl reading ↦ inl (widen_early e reading)
      | inr (inl device) ↦ inr (inl device)
      | inr (inr (input, is_input, stop)) ↦ inr (inr (input, is_input, widen input e stop))
    ];
    untouched = λ no_device not_file. r.untouched no_device;
    written = λ device. elim (r.written device) [
      | inl same ↦ inl same
      | inr (risen, front) ↦ inr (
        risen,
        (front.0, front.1, front.3, (serve front.0 front.2 front.1 front.4).1, front.5),
      )
    ];
    unsaved = λ saving. inl (r.untouched (saving_is_no_transfer e saving));
    not_saved = λ file. elim r.refused [
      | inl reading ↦ absurd (reading_is_no_file e reading file)
      | inr (inl device) ↦ absurd (transfer_is_no_file e device file)
      | inr (inr (input, is_input, stop)) ↦ absurd (no_file input e stop file)
    ];
  }

  -- a run that serves, where answers, errors and what comes early are told by other words
  pub Serves-wider : (answers wider : List ℕ → List ℕ → ToKeep → Type 0) (shows wider_shows : List ℕ → List ℕ → Type 0)
      (stops wider_stops : List ℕ → RunError → Type 0)
      (early wider_early : RunError → Type 0) (result : Result (Unit {0}) RunError) (before after : Held)
      → ((input text : List ℕ) (kept : ToKeep) → answers input text kept → wider input text kept)
      → ((input text : List ℕ) → shows input text → wider_shows input text)
      → ((input : List ℕ) (e : RunError) → stops input e → wider_stops input e)
      → ((e : RunError) → early e → wider_early e)
      → Serves answers shows stops early result known source source' seen sink sink' before after
      → Serves wider wider_shows wider_stops wider_early result known source source' seen sink sink' before after
  Serves-wider answers wider shows wider_shows stops wider_stops early wide (Ok value) before after serve show widen
      widen_early s = record {
        shown = (
          s.shown.0,
          s.shown.1,
          s.shown.2,
          s.shown.3,
          serve s.shown.0 s.shown.1 s.shown.2 s.shown.4,
          s.shown.5,
          s.shown.6,
        );
        refused = tt;
        untouched = tt;
        written = tt;
        unsaved = tt;
        not_saved = tt;
      }
  Serves-wider answers wider shows wider_shows stops wider_stops early wide (Err e) before after serve show widen
      widen_early s = record {
        shown = tt;
        refused = elim s.refused [
          | inl is_early ↦ inl (widen_early e is_early)
          | inr (inl device) ↦ inr (inl device)
          | inr (inr (input, is_input, stop)) ↦ inr (inr (input, is_input, widen input e stop))
        ];
        untouched = s.untouched;
        written = λ device. elim (s.written device) [
          | inl same ↦ inl same
          | inr (risen, front) ↦ inr (
            risen,
            (front.0, front.1, front.2, show front.0 front.1 front.3, front.4),
          )
        ];
        unsaved = λ saving. elim (s.unsaved saving) [
          | inl same ↦ inl same
          | inr text ↦ inr (text.0, text.1, text.2, show text.0 text.1 text.3, text.4)
        ];
        not_saved = λ file. elim (s.not_saved file) [
          | inl same ↦ inl same
          | inr text ↦ inr (text.0, text.1, text.2, show text.0 text.1 text.3, text.4)
        ];
      }

-- a run that ended before anything was read
pub serves_unread : {S K : Type 0} (known : Option (List ℕ)) (source : S) (seen : K → SinkSeen) (sink : K)
    (answers : List ℕ → List ℕ → ToKeep → Type 0) (shows : List ℕ → List ℕ → Type 0)
    (stops : List ℕ → RunError → Type 0) (early : RunError → Type 0) (e : RunError) (before after : Held) → early e
    → Serves answers shows stops early (Err e) known source source seen sink sink before after
serves_unread known source seen sink answers shows stops early e before after is_early = record {
  shown = tt;
  refused = inl is_early;
  untouched = λ no_device no_saving. refl;
  written = λ device. inl refl;
  unsaved = λ saving. inl refl;
  not_saved = λ file. inl (refl, refl);
}

-- the devices of a run that ended before anything was read
pub devices_unread : (early : RunError → Type 0) (e : RunError) (source : SourceSeen) (sink : SinkSeen) → early e
    → (IsTransferFault e → ⊥) → TellsDevices {T = Unit {0}} early IsTransferFault (Err e) source source sink sink
devices_unread early e source sink is_early no_device = record {
  in_time = omega arith;
  ended = inl is_early;
  at_end = inl is_early;
  device = λ device. absurd (no_device device);
  source_failure = λ less. absurd (omega (arith, less));
  sink_failure = λ less. absurd (omega (arith, less));
}

-- a store that was not called
pub store_unasked : (e : RunError) (seen : StoreSeen) → (e ≡ StateFile → ⊥) → TellsStore (Err e) seen seen
store_unasked e seen no_file = record {
  files = λ name. refl;
  fault = λ file. absurd (no_file file);
  failure = λ less. absurd (omega (arith, less));
}

-- a run without a store leaves it as it is
pub store_alone : {K : Type 0} (known : Option (List ℕ)) (seen : K → SinkSeen) (sink sink' : K)
    (answers : List ℕ → Unit {0} → List ℕ → Type 0) (stops : List ℕ → RunError → Type 0)
    (result : Result (Unit {0}) RunError) (store : StoreSeen)
    → ((input : List ℕ) (e : RunError) → stops input e → e ≡ StateFile → ⊥)
    → Responds answers stops IsReadingFault IsTransferFault result known seen sink sink' → TellsStore result store store
store_alone known seen sink sink' answers stops (Ok value) store no_file r = record {
  files = tt;
  fault = tt;
  failure = λ less. absurd (omega (arith, less));
}
store_alone known seen sink sink' answers stops (Err e) store no_file r =
    store_unasked e store (λ file. elim r.refused [
      | inl reading ↦ reading_is_no_file e reading file
      | inr (inl device) ↦ transfer_is_no_file e device file
      | inr (inr (input, is_input, stop)) ↦ no_file input e stop file
    ])

-- ---- no run gives another error than those

reading_of_input : (e : RunError) → IsReadingFault e → is_of_input e ≡ true
reading_of_input e reading = ap is_of_input reading

not_joined_of_input : (strokes : Strokes) (found : List ℕ) (e : RunError) → IsNotJoinedOver strokes found e
    → is_of_input e ≡ true
not_joined_of_input strokes found e (inl memory) = ap is_of_input memory
not_joined_of_input strokes found e (inr (inl (fault, is, first))) = ap is_of_input is
not_joined_of_input strokes found e (inr (inr (inl (is, other)))) = ap is_of_input is
not_joined_of_input strokes found e (inr (inr (inr (kept, why, spells, is, stop)))) = ap is_of_input is

pub alone_is_no : (known : Option (List ℕ)) (stops : List ℕ → RunError → Type 0) (result : Result (Unit {0}) RunError)
    (why : RunError) → is_of_input why ≡ false
    → ((input : List ℕ) (e : RunError) → stops input e → is_of_input e ≡ true)
    → IfErr result (λ e. IsReadingFault e ⊎ IsTransferFault e
    ⊎ ((input : List ℕ) × IsInputOf known input × stops input e)) → result ≡ Err why → ⊥
alone_is_no known stops (Ok value) why other of_input refused is = cc
alone_is_no known stops (Err e) why other of_input (inl reading) is = let given = reading_of_input e reading in cc
alone_is_no known stops (Err e) why other of_input (inr (inl device)) is = let given = ap is_of_input device in cc
alone_is_no known stops (Err e) why other of_input (inr (inr (input, is_input, stop))) is =
    let given = of_input input e stop in cc

pub stored_is_no : (known : Option (List ℕ)) (conn : Conn) (held : Held) (name : List ℕ)
    (result : Result (Unit {0}) RunError) (why : RunError) → is_of_input why ≡ false → (why ≡ StateFile → ⊥)
    → IfErr result (λ e. IsStoreFault e ⊎ IsTransferFault e
    ⊎ ((input : List ℕ) × IsInputOf known input × StoredStops conn held name input e)) → result ≡ Err why → ⊥
stored_is_no known conn held name (Ok value) why other no_file refused is = cc
stored_is_no known conn held name (Err e) why other no_file (inl (inl file)) is = no_file (cc)
stored_is_no known conn held name (Err e) why other no_file (inl (inr (inl memory))) is =
    let given = ap is_of_input memory in cc
stored_is_no known conn held name (Err e) why other no_file (inl (inr (inr reading))) is =
    let given = reading_of_input e reading in cc
stored_is_no known conn held name (Err e) why other no_file (inr (inl device)) is =
    let given = ap is_of_input device in cc
stored_is_no known conn held name (Err e) why other no_file
    (inr (inr (input, is_input, inl (old, is_held, stop)))) is =
    let given = kept_stops_of_input conn old input e stop in cc
stored_is_no known conn held name (Err e) why other no_file
    (inr (inr (input, is_input, inr (old, text, strokes, found, is_held, view, was_held, not_joined)))) is =
    let given = not_joined_of_input strokes found e not_joined in cc

-- nor that words ask for nothing
pub alone_is_no_usage : (known : Option (List ℕ)) (stops : List ℕ → RunError → Type 0)
    (result : Result (Unit {0}) RunError) → ((input : List ℕ) (e : RunError) → stops input e → is_of_input e ≡ true)
    → IfErr result (λ e. IsReadingFault e ⊎ IsTransferFault e
    ⊎ ((input : List ℕ) × IsInputOf known input × stops input e)) → result ≡ Err Usage → ⊥
alone_is_no_usage known stops result of_input refused is = alone_is_no known stops result Usage refl of_input refused is

pub stored_is_no_usage : (known : Option (List ℕ)) (conn : Conn) (held : Held) (name : List ℕ)
    (result : Result (Unit {0}) RunError)
    → IfErr result (λ e. IsStoreFault e ⊎ IsTransferFault e
    ⊎ ((input : List ℕ) × IsInputOf known input × StoredStops conn held name input e)) → result ≡ Err Usage → ⊥
stored_is_no_usage known conn held name result refused is =
    stored_is_no known conn held name result Usage refl (λ same. cc) refused is
