-- What the run of a node says over a store and a network, from what these and the run say.
use Rattle.std.proofs.Common.{◌≡◌, ◌⊎◌, ℕ, List, Option, Ok, Err, Some, None, inl, inr, refl, ap, ◌∙◌, subst, arith}
use Rattle.std.proofs.Common.{IfSome, Result}
use Rattle.byte_devices.specs.{Device.SourceSeen, Device.SinkSeen, Response.Responds, Response.TellsDevices}
use Rattle.byte_devices.specs.{Transfer.IsInputOf}
use Rattle.grid_core.specs.declared.conn.Conn.{Conn}
use Rattle.link_nodes.specs.Links.{LinkSeen}
use Rattle.run_faults.specs.{RunError.IsReadingFault, RunError.IsTransferFault, declared.run_error.RunError.RunError}
use Rattle.run_faults.specs.declared.run_error.RunError.TheVariants.{Link, StateFile}
use Rattle.view_session.specs.{Joining.Makes, Joining.Refuses, declared.joining.Strokes.Strokes}
use Rattle.view_session.specs.Serving.{IsKeptIn, IsSavingFault, IsWritten, Serves, TellsStore, ToKeep}
use Rattle.view_session.specs.Store.{AreSame, Held, StoreSeen}
use Rattle.view_session.proofs.Shared.{input_is_no_file, kept_stops_of_input, reading_is_no_file, transfer_is_no_file}
use Rattle.view_session.proofs.Shared.{saving_is_no_transfer}
use Rattle.view_session.proofs.StoredViews.{saving_fault, store_saved, store_unsaved}
use Rattle.node_session.specs.{Network.NetworkSeen, Network.TellsNetwork, Shared.IsStrokesNode, Shared.NodeStops}
use Rattle.node_session.specs.Stored.{IsHeldFor, IsNodeFault, IsNotToKeep, IsShownNode, IsStoredNode, IsStrokesOver}
use Rattle.node_session.specs.Stored.{IsToKeep, LoadsFor, SavesFor, StoredNodeStops}

-- ---- which errors are which

pub reading_is_early : (file : Option (List ℕ)) (e : RunError) → IsReadingFault e → IsNodeFault file e
reading_is_early None e reading = inl reading
reading_is_early (Some name) e reading = inl (inr (inr reading))

pub link_is_no_transfer : (e : RunError) → e ≡ Link → IsTransferFault e → ⊥
link_is_no_transfer e link device = cc

-- where a node's run stops, it is neither V2 nor D3
stops_at_no_file : (conn : Conn) (hands : ℕ) (old input : List ℕ) (e : RunError) → NodeStops conn hands old input e
    → e ≡ StateFile → ⊥
stops_at_no_file conn hands old input e (inl kept) file =
    input_is_no_file e (kept_stops_of_input conn old input e kept) file
stops_at_no_file conn hands old input e (inr (mask, first, gathered, (why, is, counts))) file = cc

stops_at_no_link : (conn : Conn) (hands : ℕ) (old input : List ℕ) (e : RunError) → NodeStops conn hands old input e
    → e ≡ Link → ⊥
stops_at_no_link conn hands old input e (inl kept) link = let is = kept_stops_of_input conn old input e kept in cc
stops_at_no_link conn hands old input e (inr (mask, first, gathered, (why, is, counts))) link = cc

reading_is_no_link : (e : RunError) → IsReadingFault e → e ≡ Link → ⊥
reading_is_no_link e reading link = cc

-- why the run itself was refused
abbrev Refused : Conn → ℕ → List ℕ → Option (List ℕ) → RunError → Type 0
Refused conn hands given known e =
    IsReadingFault e ⊎ IsTransferFault e
    ⊎ ((input : List ℕ) × IsInputOf known input × NodeStops conn hands given input e)

pub refused_at_no_file : (conn : Conn) (hands : ℕ) (given : List ℕ) (known : Option (List ℕ)) (e : RunError)
    → Refused conn hands given known e → e ≡ StateFile → ⊥
refused_at_no_file conn hands given known e (inl reading) file = reading_is_no_file e reading file
refused_at_no_file conn hands given known e (inr (inl device)) file = transfer_is_no_file e device file
refused_at_no_file conn hands given known e (inr (inr (input, is_input, stop))) file =
    stops_at_no_file conn hands given input e stop file

pub refused_at_no_link : (conn : Conn) (hands : ℕ) (given : List ℕ) (known : Option (List ℕ)) (e : RunError)
    → Refused conn hands given known e → e ≡ Link → ⊥
refused_at_no_link conn hands given known e (inl reading) link = reading_is_no_link e reading link
refused_at_no_link conn hands given known e (inr (inl device)) link = link_is_no_transfer e link device
refused_at_no_link conn hands given known e (inr (inr (input, is_input, stop))) link =
    stops_at_no_link conn hands given input e stop link

-- ---- loading and saving

-- what a load that went well gives
pub record IsLoaded (old new : StoreSeen) (file : Option (List ℕ)) (bytes : List ℕ) : Type 0 where
  pub held : IsHeldFor old.held file bytes
  pub same : AreSame old.held new.held
  pub failures : new.failures ≡ old.failures

pub loaded : {V : Type 0} (bytes_of : V → List ℕ) (old new : StoreSeen) (v : V) (file : Option (List ℕ))
    (bytes : List ℕ) → bytes ≡ bytes_of v → LoadsFor bytes_of old new (Ok v) file → IsLoaded old new file bytes
loaded bytes_of old new v None bytes is (same, none) = record {
  held = is ∙ none;
  same = λ name. ap (λ (s : StoreSeen). s.held name) same;
  failures = ap (λ (s : StoreSeen). s.failures) same;
}
loaded bytes_of old new v (Some name) bytes is loads =
    record { held = rw is loads.bytes; same = loads.files; failures = loads.failures }

-- the store tells so of a run that was refused behind the load
pub store_refused : (old new : StoreSeen) (e : RunError) (file : Option (List ℕ)) (bytes : List ℕ)
    → IsLoaded old new file bytes → (e ≡ StateFile → ⊥) → TellsStore (Err e) old new
store_refused old new e file bytes is no_file = record {
  files = is.same;
  fault = λ at_file. absurd (no_file at_file);
  failure = λ less. absurd (omega (arith, less, is.failures));
}

-- a save that failed was one of a file, and a fault in saving
pub save_failed : {V : Type 0} (bytes_of : V → List ℕ) (old new : StoreSeen) (strokes strokes' : Strokes)
    (e : RunError) (file : Option (List ℕ)) → SavesFor bytes_of old new strokes strokes' (Err e) file
    → IsSavingFault e × (IsNodeFault file e ⊎ IsNotToKeep file old.held strokes e)
save_failed bytes_of old new strokes strokes' e None (same, well) = absurd cc
save_failed bytes_of old new strokes strokes' e (Some name) saves = (
  saving_fault bytes_of old new strokes strokes' e name saves,
  elim saves.not_saved [
    | inl (inl at_file, unasked) ↦ inl (inl (inl at_file))
    | inl (inr memory, unasked) ↦ inl (inl (inr (inl memory)))
    | inr (inl (at_file, found, made, was_held, makes)) ↦ inl (inl (inl at_file))
    | inr (inr (found, was_held, refuses)) ↦ inr (found, was_held, refuses.1)
  ],
)

saving_is_no_link_fault : (e : RunError) → IsSavingFault e → e ≡ Link → ⊥
saving_is_no_link_fault e (inl file) link = cc
saving_is_no_link_fault e (inr (inl memory)) link = cc
saving_is_no_link_fault e (inr (inr (inl other))) link = cc
saving_is_no_link_fault e (inr (inr (inr (inl (why, is))))) link = cc
saving_is_no_link_fault e (inr (inr (inr (inr (why, is))))) link = cc

-- and it is none of a link
pub saving_is_no_link : {V : Type 0} (bytes_of : V → List ℕ) (old new : StoreSeen) (strokes strokes' : Strokes)
    (e : RunError) (file : Option (List ℕ)) → SavesFor bytes_of old new strokes strokes' (Err e) file → e ≡ Link → ⊥
saving_is_no_link bytes_of old new strokes strokes' e file saves link =
    saving_is_no_link_fault e (save_failed bytes_of old new strokes strokes' e file saves).0 link

-- what is not to be kept over what the files held behind the load is not over what they held before
not_to_keep : (file : Option (List ℕ)) (before middle : Held) (strokes : Strokes) (e : RunError)
    → AreSame before middle → IsNotToKeep file middle strokes e → IsNotToKeep file before strokes e
not_to_keep None before middle strokes e same none = none
not_to_keep (Some name) before middle strokes e same (found, was_held, why) =
    (found, subst (λ (known : Option (List ℕ)). IfSome known (λ bytes. found ≡ bytes)) (same name) was_held, why)

-- what is to be kept is kept
pub record IsKeptThen (file : Option (List ℕ)) (before after : Held) (strokes : Strokes) : Type 0 where
  pub kept : ToKeep
  pub to_keep : IsToKeep file before strokes kept
  pub is_kept : IsKeptIn before after kept

saved_then : {V : Type 0} (bytes_of : V → List ℕ) (before : Held) (old new : StoreSeen) (strokes strokes' : Strokes)
    (v : V) (file : Option (List ℕ)) → AreSame before old.held
    → SavesFor bytes_of old new strokes strokes' (Ok v) file → IsKeptThen file before new.held strokes
saved_then bytes_of before old new strokes strokes' v None same (unasked, well) = record {
  kept = None;
  to_keep = refl;
  is_kept = λ name. ap (λ (s : StoreSeen). s.held name) unasked ∙ same name;
}
saved_then bytes_of before old new strokes strokes' v (Some name) same saves =
    let found = saves.saved.found in
    record {
      kept = Some (name, bytes_of v);
      to_keep = (
        found,
        bytes_of v,
        subst (λ (known : Option (List ℕ)). IfSome known (λ bytes. found ≡ bytes)) (same name) saves.saved.was_held,
        saves.saved.made_over.1,
        refl,
      );
      is_kept = record {
        replaced = subst (λ (b : Option (List ℕ)). IfSome b (λ known. new.held name ≡ Some (bytes_of v))) (same name)
            saves.saved.replaced.replaced;
        others = λ other differs. saves.saved.replaced.others other differs ∙ same other;
      };
    }

-- the store tells so of a load and a save
pub store_kept : {V W : Type 0} (bytes_of : V → List ℕ) (made_of : W → List ℕ) (old middle new : StoreSeen) (v : V)
    (strokes strokes' : Strokes) (w : W) (file : Option (List ℕ)) → LoadsFor bytes_of old middle (Ok v) file
    → SavesFor made_of middle new strokes strokes' (Ok w) file → TellsStore (Ok tt) old new
store_kept bytes_of made_of old middle new v strokes strokes' w None (same, none) (unasked, well) = record {
  files = tt;
  fault = tt;
  failure = λ less. absurd (omega (arith, less, ap (λ (s : StoreSeen). s.failures) (unasked ∙ same)));
}
store_kept bytes_of made_of old middle new v strokes strokes' w (Some name) loads saves =
    store_saved bytes_of made_of Makes Refuses old middle new v strokes strokes' w name loads saves

pub store_unkept : {V W : Type 0} (bytes_of : V → List ℕ) (made_of : W → List ℕ) (old middle new : StoreSeen) (v : V)
    (strokes strokes' : Strokes) (e : RunError) (file : Option (List ℕ)) → LoadsFor bytes_of old middle (Ok v) file
    → SavesFor {V = W} made_of middle new strokes strokes' (Err e) file → TellsStore (Err e) old new
store_unkept bytes_of made_of old middle new v strokes strokes' e None loads (unasked, well) = absurd cc
store_unkept bytes_of made_of old middle new v strokes strokes' e (Some name) loads saves =
    store_unsaved bytes_of made_of Makes Refuses old middle new v strokes strokes' e name loads saves

-- ---- what is served

module _ {S K L : Type 0} (known : Option (List ℕ)) (seen : K → SinkSeen) (heard : L → LinkSeen) (conn : Conn)
    (hands ticks : ℕ) (file : Option (List ℕ)) (link link' : L) (held : Held) (old : List ℕ)
    (is_held : IsHeldFor held file old) (source source' : S) (sink sink' : K) where
  -- the run over the bytes that the file held
  abbrev Answers : Result Strokes RunError → Type 0
  Answers result = Responds
      (λ input strokes text. IsStrokesNode conn hands ticks old (heard link) (heard link') input text strokes)
      (NodeStops conn hands old) IsReadingFault IsTransferFault result known seen sink sink'

  -- and what this is to the run over the store
  abbrev IsServed : Result (Unit {0}) RunError → Held → Type 0
  IsServed result held' = Serves (IsStoredNode heard conn hands ticks file held)
      (IsShownNode heard conn hands ticks file held) (StoredNodeStops heard conn hands ticks file held)
      (IsNodeFault file) result known source source' seen sink sink' held held'

  -- the run was refused
  pub serves_refused : (held' : Held) (e : RunError) → Answers (Err e) → IsServed (Err e) held'
  serves_refused held' e r = record {
    shown = tt;
    refused = elim r.refused [
      | inl reading ↦ inl (reading_is_early file e reading)
      | inr (inl device) ↦ inr (inl device)
      | inr (inr (input, is_input, stop)) ↦ inr (inr (input, is_input, inl (old, is_held, stop)))
    ];
    untouched = λ no_device no_saving. r.untouched no_device;
    written = λ device. elim (r.written device) [
      | inl same ↦ inl same
      | inr (risen, (input, text, strokes, is_input, view, front)) ↦
          inr (risen, (input, text, is_input, (strokes, (old, is_held, (link, link', view))), front))
    ];
    unsaved = λ saving. inl (r.untouched (saving_is_no_transfer e saving));
    not_saved = λ at_file. absurd (refused_at_no_file conn hands old known e r.refused at_file);
  }

  -- the image was written, and its strokes were saved, if there is a file
  pub serves_kept : {W : Type 0} (made_of : W → List ℕ) (middle after : StoreSeen) (strokes strokes' : Strokes) (w : W)
      → AreSame held middle.held → Answers (Ok strokes) → SavesFor made_of middle after strokes strokes' (Ok w) file
      → IsServed (Ok tt) after.held
  serves_kept made_of middle after strokes strokes' w same r s =
      let then = saved_then made_of held middle after strokes strokes' w file same s in
      let (input, text, is_input, view, appends) = r.shown in
      record {
        shown = (
          input,
          text,
          then.kept,
          is_input,
          (strokes, (old, is_held, (link, link', view)), then.to_keep),
          appends,
          then.is_kept,
        );
        refused = tt;
        untouched = tt;
        written = tt;
        unsaved = tt;
        not_saved = tt;
      }

  -- the image was written, and its strokes were not saved
  pub serves_unkept : {W : Type 0} (made_of : W → List ℕ) (middle after : StoreSeen) (strokes strokes' : Strokes)
      (e : RunError) → AreSame held middle.held → Answers (Ok strokes)
      → SavesFor {V = W} made_of middle after strokes strokes' (Err e) file → IsServed (Err e) after.held
  serves_unkept made_of middle after strokes strokes' e same r s =
      let failed = save_failed made_of middle after strokes strokes' e file s in
      let (input, text, is_input, view, appends) = r.shown in
      let over : IsStrokesOver heard conn hands ticks file held input text strokes =
      (old, is_held, (link, link', view)) in
      let written : IsWritten (IsShownNode heard conn hands ticks file held) known seen sink sink' =
      (input, text, is_input, (strokes, over), appends) in
      record {
        shown = tt;
        refused = elim failed.1 [
          | inl early ↦ inl early
          | inr why ↦ inr (inr (
            input,
            is_input,
            inr (text, strokes, over, not_to_keep file held middle.held strokes e same why),
          ))
        ];
        untouched = λ no_device no_saving. absurd (no_saving failed.0);
        written = λ device. absurd (saving_is_no_transfer e failed.0 device);
        unsaved = λ saving. inr written;
        not_saved = λ at_file. inr written;
      }

-- ---- what the devices tell

module _ (source source' : SourceSeen) (sink sink' : SinkSeen) (file : Option (List ℕ)) where
  pub devices_refused : {V : Type 0} (e : RunError)
      → TellsDevices {T = V} IsReadingFault IsTransferFault (Err e) source source' sink sink'
      → TellsDevices {T = Unit {0}} (IsNodeFault file) IsTransferFault (Err e) source source' sink sink'
  devices_refused e t = record {
    in_time = t.in_time;
    ended = elim t.ended [ inl reading ↦ inl (reading_is_early file e reading) | inr rest ↦ inr rest ];
    at_end = elim t.at_end [ inl reading ↦ inl (reading_is_early file e reading) | inr rest ↦ inr rest ];
    device = t.device;
    source_failure = t.source_failure;
    sink_failure = t.sink_failure;
  }

  pub devices_kept : {V : Type 0} (new : V)
      → TellsDevices IsReadingFault IsTransferFault (Ok new) source source' sink sink'
      → TellsDevices {T = Unit {0}} (IsNodeFault file) IsTransferFault (Ok tt) source source' sink sink'
  devices_kept new t = record {
    in_time = t.in_time;
    ended = t.ended;
    at_end = t.at_end;
    device = tt;
    source_failure = t.source_failure;
    sink_failure = t.sink_failure;
  }

  pub devices_unkept : {V : Type 0} (new : V) (e : RunError) → IsSavingFault e
      → TellsDevices IsReadingFault IsTransferFault (Ok new) source source' sink sink'
      → TellsDevices {T = Unit {0}} (IsNodeFault file) IsTransferFault (Err e) source source' sink sink'
  devices_unkept new e saving t = record {
    in_time = t.in_time;
    ended = inr (inr t.ended);
    at_end = inr (inr t.at_end);
    device = λ device. absurd (saving_is_no_transfer e saving device);
    source_failure = λ less. absurd (t.source_failure less);
    sink_failure = λ less. absurd (t.sink_failure less);
  }

-- ---- what the network tells

-- it was not asked, or it gave a link, and the run was refused otherwise
pub network_idle : (left : NetworkSeen → Type 0) (e : RunError) (old new : NetworkSeen) → new.failures ≡ old.failures
    → (e ≡ Link → ⊥) → TellsNetwork left (Err e) old new
network_idle left e old new same no_link = record {
  is_left = tt;
  fault = λ link. absurd (no_link link);
  failure = λ less. absurd (omega (arith, less, same));
}

-- it gave a link, and the run ended well
pub network_bound : (left : NetworkSeen → Type 0) (old new : NetworkSeen) → left new → new.failures ≡ old.failures
    → TellsNetwork left (Ok tt) old new
network_bound left old new is same =
    record { is_left = is; fault = tt; failure = λ less. absurd (omega (arith, less, same)) }
