-- What calls leave of a network, and which of them may give D3.
use Rattle.std.proofs.Common.{◌≡◌, ◌⊎◌, ℕ, List, Option, Result, Ok, Err, inl, inr, ap, subst, arith, IfErr, true}
use Rattle.byte_devices.specs.{Device.SinkSeen, Device.SourceSeen, Transfer.IsInputOf}
use Rattle.grid_core.specs.declared.conn.Conn.{Conn}
use Rattle.link_nodes.specs.Links.{LinkSeen}
use Rattle.view_session.specs.{Joining.IsNotJoinedOver, Store.Held, Store.StoreSeen, declared.joining.Strokes.Strokes}
use Rattle.view_session.specs.Serving.{AnswersOverStore, IsStoreFault, StoredStops}
use Rattle.run_faults.specs.RunError.{IsReadingFault, IsTransferFault}
use Rattle.run_faults.specs.{declared.run_error.RunError.RunError, declared.run_error.RunError.TheVariants.Link}
use Rattle.view_session.proofs.Shared.{is_of_input, kept_stops_of_input}
use Rattle.node_session.specs.Network.{NetworkSeen, TellsNetwork}
use Rattle.node_session.specs.Stored.{IsNodeFault, IsShownNode, IsStoredNode, StoredNodeStops}
use Rattle.command_line.specs.Run.{EndsEarly, IsAnswer, IsShownBy, StopsOn}
use Rattle.command_line.specs.{Words.IsRefusalOfWords, declared.words.Call.Call, declared.words.Call.TheVariants.Node}

-- ---- which errors are which

no_link_in_reading : IsReadingFault Link → ⊥
no_link_in_reading memory = cc

no_link_in_transfer : IsTransferFault Link → ⊥
no_link_in_transfer device = cc

no_link_in_store : IsStoreFault Link → ⊥
no_link_in_store (inl file) = cc
no_link_in_store (inr (inl memory)) = cc
no_link_in_store (inr (inr reading)) = no_link_in_reading reading

no_link_in_input : is_of_input Link ≡ true → ⊥
no_link_in_input is = cc

-- strokes that are not joined over bytes give an error of an input
not_joined_of_input : (strokes : Strokes) (found : List ℕ) (e : RunError) → IsNotJoinedOver strokes found e
    → is_of_input e ≡ true
not_joined_of_input strokes found e (inl memory) = ap is_of_input memory
not_joined_of_input strokes found e (inr (inl (fault, is, first))) = ap is_of_input is
not_joined_of_input strokes found e (inr (inr (inl (is, other)))) = ap is_of_input is
not_joined_of_input strokes found e (inr (inr (inr (kept, why, spells, is, stop)))) = ap is_of_input is

pub words_are_no_link : (e : RunError) → IsRefusalOfWords e → e ≡ Link → ⊥
words_are_no_link e (inl usage) link = cc
words_are_no_link e (inr memory) link = cc

-- a call without a network does not give D3
pub alone_is_no_link : (known : Option (List ℕ)) (stops : List ℕ → RunError → Type 0)
    (result : Result (Unit {0}) RunError)
    → ((input : List ℕ) (e : RunError) → stops input e → is_of_input e ≡ true)
    → IfErr result (λ e. IsReadingFault e ⊎ IsTransferFault e
    ⊎ ((input : List ℕ) × IsInputOf known input × stops input e))
    → result ≡ Err Link → ⊥
alone_is_no_link known stops result of_input refused is =
    elim (subst (λ (r : Result (Unit {0}) RunError). IfErr r (λ e. IsReadingFault e ⊎ IsTransferFault e
    ⊎ ((input : List ℕ) × IsInputOf known input × stops input e))) is refused) [
      | inl reading ↦ no_link_in_reading reading
      | inr (inl device) ↦ no_link_in_transfer device
      | inr (inr (input, is_input, stop)) ↦ no_link_in_input (of_input input Link stop)
    ]

pub stored_is_no_link : (known : Option (List ℕ)) (conn : Conn) (held : Held) (name : List ℕ)
    (result : Result (Unit {0}) RunError)
    → IfErr result (λ e. IsStoreFault e ⊎ IsTransferFault e
    ⊎ ((input : List ℕ) × IsInputOf known input × StoredStops conn held name input e))
    → result ≡ Err Link → ⊥
stored_is_no_link known conn held name result refused is =
    elim (subst (λ (r : Result (Unit {0}) RunError). IfErr r (λ e. IsStoreFault e ⊎ IsTransferFault e
    ⊎ ((input : List ℕ) × IsInputOf known input × StoredStops conn held name input e))) is refused) [
      | inl early ↦ no_link_in_store early
      | inr (inl device) ↦ no_link_in_transfer device
      | inr (inr (input, is_input, inl (old, is_held, stop))) ↦ no_link_in_input
          (kept_stops_of_input conn old input Link stop)
      | inr (inr (input, is_input, inr (old, text, strokes, found, is_held, view, was_held, why))) ↦ no_link_in_input
          (not_joined_of_input strokes found Link why)
    ]

-- ---- what calls leave

-- a network that was not asked
pub network_unasked : (left : NetworkSeen → Type 0) (result : Result (Unit {0}) RunError) (seen : NetworkSeen)
    → left seen → (result ≡ Err Link → ⊥) → TellsNetwork left result seen seen
network_unasked left (Ok value) seen is no_link =
    record { is_left = is; fault = tt; failure = λ less. absurd (omega (arith, less)) }
network_unasked left (Err e) seen is no_link = record {
  is_left = tt;
  fault = λ link. absurd (no_link (ap (λ (why : RunError). Err why) link));
  failure = λ less. absurd (omega (arith, less));
}

-- what is left of it, in other words
pub TellsNetwork-wider : (left wider : NetworkSeen → Type 0) (result : Result (Unit {0}) RunError)
    (old new : NetworkSeen) → (left new → wider new) → TellsNetwork left result old new
    → TellsNetwork wider result old new
TellsNetwork-wider left wider (Ok value) old new widen t =
    record { is_left = widen t.is_left; fault = tt; failure = t.failure }
TellsNetwork-wider left wider (Err e) old new widen t =
    record { is_left = tt; fault = t.fault; failure = t.failure }

-- what is said of the run of a node
pub node_runs : {S T K : Type 0} {source_seen : S → SourceSeen} {source source' : S} {store_seen : T → StoreSeen}
    {store store' : T} {sink_seen : K → SinkSeen} {sink sink' : K} {result : Result (Unit {0}) RunError} {L : Type 0}
    (heard : L → LinkSeen) (call : Call) (conn : Conn) (side port ticks hands : ℕ) (peers : List ℕ)
    (file given : Option (List ℕ)) → call ≡ Node conn side port ticks hands peers file → given ≡ file
    → AnswersOverStore (IsStoredNode heard conn hands ticks given) (IsShownNode heard conn hands ticks given)
    (StoredNodeStops heard conn hands ticks given) (IsNodeFault given) result source_seen source source' store_seen
    store store' sink_seen sink sink'
    → AnswersOverStore (IsAnswer heard call) (IsShownBy heard call) (StopsOn heard call) (EndsEarly call) result
    source_seen source source' store_seen store store' sink_seen sink sink'
node_runs heard call conn side port ticks hands peers file given is same answers =
    rw (is, ← same) (record { serves = answers.serves; devices = answers.devices; stored = answers.stored })
