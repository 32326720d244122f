-- What a view with a state file says, from what the store and the view say.
use Rattle.std.proofs.Common.{◌≡◌, ◌⊎◌, ℕ, ◌≤◌, List, Option, Ok, Err, Some, inl, inr, refl, sym, ap, ◌∙◌, subst, arith}
use Rattle.std.proofs.Common.{IfSome}
use Rattle.byte_devices.specs.Device.{SourceSeen, SinkSeen, HasRisen, count_after}
use Rattle.byte_devices.specs.{Response.Responds, Response.TellsDevices, Transfer.IsInputOf}
use Rattle.byte_devices.proofs.Shared.{TellsDevices-wider}
use Rattle.grid_core.specs.declared.conn.Conn.{Conn}
use Rattle.spd_codec.specs.declared.error.SpdError.TheVariants.{Memory as SpdMemory}
use Rattle.view_session.specs.Joining.{IsNotJoinedOver, IsStrokesView, Makes, Refuses}
use Rattle.view_session.specs.{Kept.KeptStops, declared.joining.Strokes.Strokes}
use Rattle.view_session.specs.Serving.{Serves, TellsStore, IsSavingFault, IsShownOver, IsStoreFault, IsStoredView}
use Rattle.view_session.specs.Serving.{IsWritten, StoredStops}
use Rattle.view_session.specs.Store.{AreSame, Held, IsHeldIn, IsNotSaved, Loads, Saves, StoreSeen}
use Rattle.run_faults.specs.RunError.{IsReadingFault, IsTransferFault}
use Rattle.run_faults.specs.declared.run_error.RunError.{RunError}
use Rattle.run_faults.specs.declared.run_error.RunError.TheVariants.{Memory, StateFile}
use Rattle.view_session.proofs.Shared.{input_is_no_file, kept_stops_of_input, reading_is_no_file, transfer_is_no_file}
use Rattle.view_session.proofs.Shared.{saving_is_no_transfer}

-- no view gives V2
kept_stops_at_no_file : (conn : Conn) (old input : List ℕ) (e : RunError) → KeptStops conn old input e → e ≡ StateFile
    → ⊥
kept_stops_at_no_file conn old input e stops file = input_is_no_file e (kept_stops_of_input conn old input e stops) file

-- V2 and plain want of memory are no fault of a source or a sink
pub loading_is_no_transfer : (e : RunError) → (e ≡ StateFile) ⊎ (e ≡ Memory) → IsTransferFault e → ⊥
loading_is_no_transfer e (inl file) device = cc
loading_is_no_transfer e (inr memory) device = cc

memory_is_no_file : (e : RunError) → e ≡ Memory → e ≡ StateFile → ⊥
memory_is_no_file e memory file = cc

pub loading_is_early : (e : RunError) → (e ≡ StateFile) ⊎ (e ≡ Memory) → IsStoreFault e
loading_is_early e (inl file) = inl file
loading_is_early e (inr memory) = inr (inl memory)

-- where the store loads, an error is V2 or want of memory
pub load_fault : {V : Type 0} (bytes_of : V → List ℕ) (old new : StoreSeen) (e : RunError) (name : List ℕ)
    → Loads bytes_of old new (Err e) name → (e ≡ StateFile) ⊎ (e ≡ Memory)
load_fault bytes_of old new e name loads = elim loads.failures [
  | inl (file, counted) ↦ inl file
  | inr (memory, same) ↦ inr memory
]

-- what a save of strokes gives, where it is not saved, is a fault in saving, and none of a source or a sink
not_joined_in_saving : (strokes : Strokes) (found : List ℕ) (e : RunError) → IsNotJoinedOver strokes found e
    → IsSavingFault e
not_joined_in_saving strokes found e (inl memory) = inr (inr (inr (inl (SpdMemory, memory))))
not_joined_in_saving strokes found e (inr (inl (fault, is, first))) = inr (inr (inr (inl (fault, is))))
not_joined_in_saving strokes found e (inr (inr (inl (is, other)))) = inr (inr (inl is))
not_joined_in_saving strokes found e (inr (inr (inr (kept, why, spells, is, stop)))) = inr (inr (inr (inr (why, is))))

not_saved_in_saving : (held : Held) (strokes strokes' : Strokes) (name : List ℕ) (e : RunError)
    → IsNotSaved Makes Refuses held strokes strokes' name e → IsSavingFault e
not_saved_in_saving held strokes strokes' name e (inl (inl file, same)) = inl file
not_saved_in_saving held strokes strokes' name e (inl (inr memory, same)) = inr (inl memory)
not_saved_in_saving held strokes strokes' name e (inr (inl (file, found, made, is_held, makes))) = inl file
not_saved_in_saving held strokes strokes' name e (inr (inr (found, is_held, refuses))) =
    not_joined_in_saving strokes found e refuses.1

module _ {S K : Type 0} (known : Option (List ℕ)) (seen : K → SinkSeen) (conn : Conn) (name : List ℕ) where
  -- the view was refused
  pub serves_refused : (held held' : Held) (old given : List ℕ) (e : RunError)
      (source source' : S) (sink sink' : K) → IsHeldIn held name old → given ≡ old
      → Responds (λ input strokes text. IsStrokesView conn given input text strokes) (KeptStops conn given)
      IsReadingFault IsTransferFault (Err e) known seen sink sink'
      → Serves (IsStoredView conn held name) (IsShownOver conn held name) (StoredStops conn held name) IsStoreFault
      (Err e) known source source' seen sink sink' held held'
  serves_refused held held' old given e source source' sink sink' is_held is_given r = record {
    shown = tt;
    refused = elim r.refused [
      | inl reading ↦ inl (inr (inr reading))
      | inr (inl device) ↦ inr (inl device)
      | inr (inr (input, is_input, stop)) ↦ inr (inr (
        input,
        is_input,
        inl (old, is_held, subst (λ (bytes : List ℕ). KeptStops conn bytes input e) is_given stop),
      ))
    ];
    untouched = λ no_device no_saving. r.untouched no_device;
    written = λ device. elim (r.written device) [
      | inl same ↦ inl same
      | inr (risen, front) ↦ inr (
        risen,
        (
          front.0,
          front.1,
          front.3,
          (
            old,
            front.2,
            is_held,
            subst (λ (bytes : List ℕ). IsStrokesView conn bytes front.0 front.1 front.2) is_given front.4,
          ),
          front.5,
        ),
      )
    ];
    unsaved = λ saving. inl (r.untouched (saving_is_no_transfer e saving));
    not_saved = λ file. elim r.refused [
      | inl reading ↦ absurd (reading_is_no_file e reading file)
      | inr (inl device) ↦ absurd (transfer_is_no_file e device file)
      | inr (inr (input, is_input, stop)) ↦ absurd (kept_stops_at_no_file conn given input e stop file)
    ];
  }

  -- the view was shown, and its strokes were saved over what was found
  pub serves_saved : {V : Type 0} (bytes_of : V → List ℕ) (held : Held) (middle after : StoreSeen)
      (old given : List ℕ) (strokes strokes' : Strokes) (made : V) (source source' : S) (sink sink' : K)
      → IsHeldIn held name old → given ≡ old → AreSame held middle.held
      → Responds (λ input strokes text. IsStrokesView conn given input text strokes) (KeptStops conn given)
      IsReadingFault IsTransferFault (Ok strokes) known seen sink sink'
      → Saves Makes Refuses bytes_of middle after strokes strokes' (Ok made) name
      → Serves (IsStoredView conn held name) (IsShownOver conn held name) (StoredStops conn held name) IsStoreFault
      (Ok tt) known source source' seen sink sink' held after.held
  serves_saved bytes_of held middle after old given strokes strokes' made source source' sink sink' is_held is_given
      same r s =
      let view = subst (λ (bytes : List ℕ). IsStrokesView conn bytes r.shown.0 r.shown.1 strokes) is_given r.shown.3 in
      let found = s.saved.found in
      let there = subst (λ (known : Option (List ℕ)). IfSome known (λ bytes. found ≡ bytes)) (same name)
      s.saved.was_held in
      record {
        shown = (
          r.shown.0,
          r.shown.1,
          Some (name, bytes_of made),
          r.shown.2,
          (old, strokes, found, bytes_of made, is_held, view, there, s.saved.made_over.1, refl),
          r.shown.4,
          record {
            replaced = subst (λ (b : Option (List ℕ)). IfSome b (λ known. after.held name ≡ Some (bytes_of made)))
                (same name) s.saved.replaced.replaced;
            others = λ other differs. s.saved.replaced.others other differs ∙ same other;
          },
        );
        refused = tt;
        untouched = tt;
        written = tt;
        unsaved = tt;
        not_saved = tt;
      }

  -- the view was shown, and its strokes were not saved
  pub serves_unsaved : {V : Type 0} (bytes_of : V → List ℕ) (held : Held) (middle after : StoreSeen)
      (old given : List ℕ) (strokes strokes' : Strokes) (e : RunError) (source source' : S) (sink sink' : K)
      → IsHeldIn held name old → given ≡ old → AreSame held middle.held
      → Responds (λ input strokes text. IsStrokesView conn given input text strokes) (KeptStops conn given)
      IsReadingFault IsTransferFault (Ok strokes) known seen sink sink'
      → Saves {V = V} Makes Refuses bytes_of middle after strokes strokes' (Err e) name
      → Serves (IsStoredView conn held name) (IsShownOver conn held name) (StoredStops conn held name) IsStoreFault
      (Err e) known source source' seen sink sink' held after.held
  serves_unsaved bytes_of held middle after old given strokes strokes' e source source' sink sink' is_held is_given
      same r s =
      let view = subst (λ (bytes : List ℕ). IsStrokesView conn bytes r.shown.0 r.shown.1 strokes) is_given r.shown.3 in
      let saving = not_saved_in_saving middle.held strokes strokes' name e s.not_saved in
      let written : IsWritten (IsShownOver conn held name) known seen sink sink' = (
        r.shown.0,
        r.shown.1,
        r.shown.2,
        (old, strokes, is_held, view),
        r.shown.4,
      ) in
      record {
        shown = tt;
        refused = elim s.not_saved [
          | inl (inl file, unasked) ↦ inl (inl file)
          | inl (inr memory, unasked) ↦ inl (inr (inl memory))
          | inr (inl (file, found, made, was_held, makes)) ↦ inl (inl file)
          | inr (inr (found, was_held, refuses)) ↦ inr (inr (
            r.shown.0,
            r.shown.2,
            inr (
              old,
              r.shown.1,
              strokes,
              found,
              is_held,
              view,
              subst (λ (known : Option (List ℕ)). IfSome known (λ bytes. found ≡ bytes)) (same name) was_held,
              refuses.1,
            ),
          ))
        ];
        untouched = λ no_device no_saving. absurd (no_saving saving);
        written = λ device. absurd (saving_is_no_transfer e saving device);
        unsaved = λ again. inr written;
        not_saved = λ file. inr written;
      }

-- ---- what the devices tell

module _ (source source' : SourceSeen) (sink sink' : SinkSeen) where
  pub devices_refused : {V : Type 0} (e : RunError)
      → TellsDevices {T = V} IsReadingFault IsTransferFault (Err e) source source' sink sink'
      → TellsDevices {T = Unit {0}} IsStoreFault IsTransferFault (Err e) source source' sink sink'
  devices_refused e t =
      let wider = TellsDevices-wider IsReadingFault IsStoreFault IsTransferFault (Err e) source source' sink sink'
      (λ why reading. inr (inr reading)) t in
      assumption wider

  pub devices_saved : {V : Type 0} (new : V)
      → TellsDevices IsReadingFault IsTransferFault (Ok new) source source' sink sink'
      → TellsDevices {T = Unit {0}} IsStoreFault IsTransferFault (Ok tt) source source' sink sink'
  devices_saved new t = assumption

  pub devices_unsaved : {V : Type 0} (new : V) (e : RunError) → IsSavingFault e
      → TellsDevices IsReadingFault IsTransferFault (Ok new) source source' sink sink'
      → TellsDevices {T = Unit {0}} IsStoreFault IsTransferFault (Err e) source source' sink sink'
  devices_unsaved new e saving t = record {
    in_time = t.in_time;
    ended = inr (inr t.ended);
    at_end = inr (inr t.at_end);
    device = λ device. absurd (saving_is_no_transfer e saving device);
    source_failure = λ less. absurd (t.source_failure less);
    sink_failure = λ less. absurd (t.sink_failure less);
  }

-- ---- what the store tells

risen : (a b c : ℕ) → b ≡ a → c ≡ count_after b 1 → HasRisen a c
risen a b c same counted =
    let is : c ≡ count_after a 1 = counted ∙ ap (λ (n : ℕ). count_after n 1) same in
    subst (λ (n : ℕ). count_after a 1 ≤ n) (sym is) (omega arith)

pub store_unloaded : {V : Type 0} (bytes_of : V → List ℕ) (old new : StoreSeen) (e : RunError) (name : List ℕ)
    → Loads bytes_of old new (Err e) name → TellsStore (Err e) old new
store_unloaded bytes_of old new e name loads = record {
  files = loads.files;
  fault = λ file. elim loads.failures [
    | inl (is, counted) ↦ risen old.failures old.failures new.failures refl counted
    | inr (memory, same) ↦ absurd (memory_is_no_file e memory file)
  ];
  failure = λ less. elim loads.failures [
    | inl (is, counted) ↦ ap Err is
    | inr (memory, same) ↦ absurd (omega (arith, less, same))
  ];
}

pub store_refused : {V : Type 0} (bytes_of : V → List ℕ) (old new : StoreSeen) (v : V) (e : RunError)
    (name given : List ℕ) (conn : Conn) (known : Option (List ℕ))
    → Loads bytes_of old new (Ok v) name
    → IsReadingFault e ⊎ IsTransferFault e ⊎ ((input : List ℕ) × IsInputOf known input × KeptStops conn given input e)
    → TellsStore (Err e) old new
store_refused bytes_of old new v e name given conn known loads why = record {
  files = loads.files;
  fault = λ file. elim why [
    | inl reading ↦ absurd (reading_is_no_file e reading file)
    | inr (inl device) ↦ absurd (transfer_is_no_file e device file)
    | inr (inr (input, is_input, stop)) ↦ absurd (kept_stops_at_no_file conn given input e stop file)
  ];
  failure = λ less. absurd (omega (arith, less, loads.failures));
}

pub store_saved : {V W J : Type 0} (bytes_of : V → List ℕ) (made_of : W → List ℕ)
    (makes : J → List ℕ → List ℕ → J → Type 0) (refuses : J → List ℕ → RunError → J → Type 0)
    (old middle new : StoreSeen) (v : V) (keeper keeper' : J) (w : W) (name : List ℕ)
    → Loads bytes_of old middle (Ok v) name → Saves makes refuses made_of middle new keeper keeper' (Ok w) name
    → TellsStore (Ok tt) old new
store_saved bytes_of made_of makes refuses old middle new v keeper keeper' w name loads saves = record {
  files = tt;
  fault = tt;
  failure = λ less. absurd (omega (arith, less, loads.failures, saves.failures));
}

pub store_unsaved : {V W J : Type 0} (bytes_of : V → List ℕ) (made_of : W → List ℕ)
    (makes : J → List ℕ → List ℕ → J → Type 0) (refuses : J → List ℕ → RunError → J → Type 0)
    (old middle new : StoreSeen) (v : V) (keeper keeper' : J) (e : RunError) (name : List ℕ)
    → Loads bytes_of old middle (Ok v) name
    → Saves {V = W} makes refuses made_of middle new keeper keeper' (Err e) name → TellsStore (Err e) old new
store_unsaved bytes_of made_of makes refuses old middle new v keeper keeper' e name loads saves = record {
  files = λ other. saves.files other ∙ loads.files other;
  fault = λ file. elim saves.failures [
    | inl (is, counted) ↦ risen old.failures middle.failures new.failures loads.failures counted
    | inr (other, same) ↦ absurd (other file)
  ];
  failure = λ less. elim saves.failures [
    | inl (is, counted) ↦ ap Err is
    | inr (other, same) ↦ absurd (omega (arith, less, loads.failures, same))
  ];
}

pub saving_fault : {V : Type 0} (bytes_of : V → List ℕ) (middle new : StoreSeen) (strokes strokes' : Strokes)
    (e : RunError) (name : List ℕ) → Saves {V = V} Makes Refuses bytes_of middle new strokes strokes' (Err e) name
    → IsSavingFault e
saving_fault bytes_of middle new strokes strokes' e name saves =
    not_saved_in_saving middle.held strokes strokes' name e saves.not_saved
