-- What a run does: the call that the words say, on an input and over what its state file holds.
use Rattle.std.specs.Prelude.{◌≡◌, ◌⊎◌, ⊤, ℕ, List, Option, Some, None, Result, Ok, Err, String, IfOk}
use Rattle.std.specs.Prelude.{IfSome}
use Rattle.std.specs.{Io.KnownBytes.Appends, declared.vec.IntoIter.IntoIter}
use Rattle.byte_devices.specs.{Device.SinkSeen, Device.HasRisen, Transfer.AppendsFront}
use Rattle.grid_core.specs.Tiles.{IsTileSide}
use Rattle.stroke_lattice.specs.State.{State, nothing}
use Rattle.view_session.specs.{Derive.IsDerivation, Derive.DerivationStops, Store.Held, View.IsView, View.InputStops}
use Rattle.view_session.specs.Serving.{IsShownOver, IsStoredView, IsStoreFault, StoredStops, ToKeep}
use Rattle.run_faults.specs.RunError.{error_line, IsReadingFault}
use Rattle.run_faults.specs.declared.run_error.RunError.{RunError}
use Rattle.run_faults.specs.declared.run_error.RunError.TheVariants.{Memory, Usage}
use Rattle.link_nodes.specs.Links.{LinkSeen}
use Rattle.node_session.specs.Network.{IsBound, NetworkSeen}
use Rattle.node_session.specs.Stored.{IsNodeFault, IsShownNode, IsStoredNode, StoredNodeStops}
use Rattle.command_line.specs.{Words.ProcessSays, declared.words.Call.Call}
use Rattle.command_line.specs.declared.words.Call.TheVariants.{View, Node, Derive, Paint}

-- the call is made here: it is no painting, which is handed back, and tiles may have the side that it names, where it
-- names one
abbrev pub CanBeMade : Call → Type 0
CanBeMade (View conn side file) = IsTileSide side
CanBeMade (Node conn side port ticks hands peers file) = IsTileSide side
CanBeMade (Derive kind h conn) = ⊤
CanBeMade (Paint painting) = ⊥

-- the text is what the call writes for an input, and this is to be kept: for a view or a node with a state file the
-- strokes that the text shows, joined with what is found there, else nothing; what is seen of a link that a node may
-- have is given first
abbrev pub IsAnswer : {L : Type 0} → (L → LinkSeen) → Call → Held → List ℕ → List ℕ → ToKeep → Type 0
IsAnswer heard (View conn side None) held input text kept =
    ((state : State) × IsView conn nothing input state text) × (kept ≡ None)
IsAnswer heard (View conn side (Some name)) held input text kept = IsStoredView conn held name input text kept
IsAnswer heard (Node conn side port ticks hands peers file) held input text kept =
    IsStoredNode heard conn hands ticks file held input text kept
IsAnswer heard (Derive kind h conn) held input text kept = IsDerivation kind h conn input text × (kept ≡ None)
IsAnswer heard (Paint painting) held input text kept = ⊥

-- the text shows an input so, whatever is kept of it
abbrev pub IsShownBy : {L : Type 0} → (L → LinkSeen) → Call → Held → List ℕ → List ℕ → Type 0
IsShownBy heard (View conn side None) held input text = (state : State) × IsView conn nothing input state text
IsShownBy heard (View conn side (Some name)) held input text = IsShownOver conn held name input text
IsShownBy heard (Node conn side port ticks hands peers file) held input text =
    IsShownNode heard conn hands ticks file held input text
IsShownBy heard (Derive kind h conn) held input text = IsDerivation kind h conn input text
IsShownBy heard (Paint painting) held input text = ⊥

-- where the call stops on an input
abbrev pub StopsOn : {L : Type 0} → (L → LinkSeen) → Call → Held → List ℕ → RunError → Type 0
StopsOn heard (View conn side None) held input e = InputStops nothing input e
StopsOn heard (View conn side (Some name)) held input e = StoredStops conn held name input e
StopsOn heard (Node conn side port ticks hands peers file) held input e =
    StoredNodeStops heard conn hands ticks file held input e
StopsOn heard (Derive kind h conn) held input e = DerivationStops input e
StopsOn heard (Paint painting) held input e = ⊥

-- the errors of the call that may come whatever the input is; V2 is among them where it has a state file, and D3 where
-- it is a node
abbrev pub EndsEarly : Call → RunError → Type 0
EndsEarly (View conn side None) e = IsReadingFault e
EndsEarly (View conn side (Some name)) e = IsStoreFault e
EndsEarly (Node conn side port ticks hands peers file) e = IsNodeFault file e
EndsEarly (Derive kind h conn) e = IsReadingFault e
EndsEarly (Paint painting) e = ⊥

-- how the call leaves the network: a node bound its port, to its peers, and no other call asks it
abbrev pub Leaves : Call → NetworkSeen → NetworkSeen → Type 0
Leaves (View conn side file) old new = new ≡ old
Leaves (Node conn side port ticks hands peers file) old new = IsBound port peers new
Leaves (Derive kind h conn) old new = new ≡ old
Leaves (Paint painting) old new = ⊥

-- the words of the process say a call, and this holds of it
abbrev pub IsSaid : {Z E : Type 0} → Result (IntoIter (String Z) Z) E → (Call → Type 0) → Type 0
IsSaid args P = (call : Call) × ProcessSays args call × P call

-- the same five of the call that the words say; words that say none are usage, and reading them may find no memory
abbrev pub RunAnswers : {L Z E : Type 0} → (L → LinkSeen) → Result (IntoIter (String Z) Z) E → Held → List ℕ → List ℕ
    → ToKeep → Type 0
RunAnswers heard args held input text kept = IsSaid args (λ call. IsAnswer heard call held input text kept)

abbrev pub RunShows : {L Z E : Type 0} → (L → LinkSeen) → Result (IntoIter (String Z) Z) E → Held → List ℕ → List ℕ
    → Type 0
RunShows heard args held input text = IsSaid args (λ call. IsShownBy heard call held input text)

abbrev pub RunStops : {L Z E : Type 0} → (L → LinkSeen) → Result (IntoIter (String Z) Z) E → Held → List ℕ → RunError
    → Type 0
RunStops heard args held input e = IsSaid args (λ call. StopsOn heard call held input e)

abbrev pub RunEndsEarly : {Z E : Type 0} → Result (IntoIter (String Z) Z) E → RunError → Type 0
RunEndsEarly args e = (e ≡ Usage) ⊎ (e ≡ Memory) ⊎ IsSaid args (λ call. EndsEarly call e)

abbrev pub RunLeaves : {Z E : Type 0} → Result (IntoIter (String Z) Z) E → NetworkSeen → NetworkSeen → Type 0
RunLeaves args old new = IsSaid args (λ call. Leaves call old new)

-- the run ended, and this holds of its end; where it hands a painting back, it has not ended
abbrev pub IfEnded : {X : Type 0} → Result (Option X) RunError → (Result (Unit {0}) RunError → Type 0) → Type 0
IfEnded (Ok None) P = P (Ok tt)
IfEnded (Ok (Some painting)) P = ⊤
IfEnded (Err e) P = P (Err e)

-- the run handed a painting back, and this holds of it
abbrev pub IfHandedBack : {X : Type 0} → Result (Option X) RunError → (X → Type 0) → Type 0
IfHandedBack result P = IfOk result (λ back. IfSome back P)

-- this line, all of it, or a front of it where the sink failed
abbrev pub TellsLine : SinkSeen → SinkSeen → List ℕ → Type 0
TellsLine old new line = Appends old.written new.written line
    ⊎ (HasRisen old.failures new.failures × AppendsFront old.written new.written line)

-- what goes to standard error: nothing after a run that ended well, else the line of its fault
abbrev pub Tells : {T : Type 0} → Result T RunError → SinkSeen → SinkSeen → Type 0
Tells (Ok value) old new = new ≡ old
Tells (Err e) old new = TellsLine old new (error_line e)
