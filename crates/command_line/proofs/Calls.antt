-- What the words of a call give, and facts of an `Ok`.
use Rattle.std.proofs.Common.{◌≡◌, ℕ, List, ap, subst, sym, refl, arith, inl, inr, Result, Ok, Err, IsOkAnd, Option}
use Rattle.std.proofs.Common.{Some, None, String}
use Rattle.std.specs.declared.vec.IntoIter.{IntoIter}
use Rattle.clap.specs.Words.{Text}
use Rattle.byte_devices.specs.{Device.SinkSeen, Device.SourceSeen, Transfer.PutsAll}
use Rattle.grid_core.specs.{Tiles.IsTileSide, declared.conn.Conn.Conn}
use Rattle.stroke_lattice.specs.State.{State, nothing}
use Rattle.link_nodes.specs.Links.{LinkSeen}
use Rattle.view_session.proofs.Shared.{derivation_stops_of_input, input_is_no_file, input_stops_of_input, serves_alone}
use Rattle.view_session.proofs.Shared.{store_alone}
use Rattle.view_session.specs.{Answering.Answers, Derive.DerivationStops, Derive.IsDerivation, Store.StoreSeen}
use Rattle.view_session.specs.{View.InputStops, View.IsView, declared.derive.Derivation.Derivation}
use Rattle.view_session.specs.Serving.{AnswersOverStore, IsShownOver, IsStoredView, IsStoreFault, StoredStops}
use Rattle.run_faults.specs.{RunError.IsTransferFault, declared.run_error.RunError.RunError}
use Rattle.run_faults.specs.declared.run_error.RunError.TheVariants.{StateFile, Usage}
use Rattle.command_line.specs.Run.{CanBeMade, EndsEarly, IsAnswer, IsShownBy, RunEndsEarly, StopsOn, TellsLine}
use Rattle.command_line.specs.Words.{IsRefusalOfWords, ProcessSays, Reads, Says, SideIs}
use Rattle.command_line.specs.declared.words.Call.{Call}
use Rattle.command_line.specs.declared.words.Call.TheVariants.{View, Node, Derive, Paint}
use Rattle.page_server.specs.declared.call.PaintCall.{PaintCall}

-- what holds of the value of an `Ok` gives what it implies
ok_gives : {T E : Type 0} (r : Result T E) (P : T → Type 0) (Q : Type 0) → ((x : T) → P x → Q) → IsOkAnd r P → Q
ok_gives (Ok x) P Q f p = f x p
ok_gives (Err e) P Q f p = absurd p

-- reading gave a value that the words say
pub reads_value : {T : Type 0} (says : T → Type 0) (value : T) → says value → Reads says (Ok value)
reads_value says value said = record { said = said; refused = tt; usage = λ same other says_other. cc }

-- reading gave a refusal
pub reads_none : {T : Type 0} (says : T → Type 0) (e : RunError) → IsRefusalOfWords e
    → (e ≡ Usage → (value : T) → says value → ⊥) → Reads says (Err e)
reads_none says e refused none =
    record { said = tt; refused = refused; usage = λ same. let usage : e ≡ Usage = cc in none usage }

-- the refusal of one word refuses them all, where they say nothing unless that one does
pub reads_no_more : {T U : Type 0} (part : T → Type 0) (says : U → Type 0) (e : RunError) → Reads part (Err e)
    → (((value : T) → part value → ⊥) → (whole : U) → says whole → ⊥) → Reads says (Err e)
reads_no_more part says e read none =
    reads_none says e read.refused (λ usage. none (read.usage (ap (λ (k : RunError). Err k) usage)))

-- the words of a call name a side that tiles may have
value_side : (value : Option Text) (side : ℕ) → SideIs value side → IsTileSide side
value_side None side is = subst IsTileSide (sym is) (record { at_least = omega arith; at_most = omega arith })
value_side (Some text) side is = is.1

-- the call that words say can be made, unless it is a painting
said_can_be_made : (words : List Text) (call : Call) → ((painting : PaintCall) → call ≡ Paint painting → ⊥)
    → Says words call → CanBeMade call
said_can_be_made words call no_painting (inl (none, is)) =
    subst CanBeMade (sym is) (record { at_least = omega arith; at_most = omega arith })
said_can_be_made words (View conn side file) no_painting
    (inr (no_fault, (rows, named, conn_is, side_is, file_is))) = value_side _ side side_is
said_can_be_made words (Node conn side port ticks hands peers file) no_painting
    (inr (no_fault, (rows, named, node))) = value_side _ side node.side_is
said_can_be_made words (Derive kind h conn) no_painting (inr said) = tt
said_can_be_made words (Paint painting) no_painting (inr said) = no_painting painting refl

-- and so the call that the words of a process say
pub process_can_be_made : {Z E : Type 0} (args : Result (IntoIter (String Z) Z) E) (call : Call)
    → ((painting : PaintCall) → call ≡ Paint painting → ⊥) → ProcessSays args call → CanBeMade call
process_can_be_made args call no_painting says =
    ok_gives args _ (CanBeMade call) (λ given said. said_can_be_made said.0 call no_painting said.2) says

-- a painting that words say names a side that tiles may have
said_painting_side : (words : List Text) (painting : PaintCall) → Says words (Paint painting)
    → IsTileSide painting.side
said_painting_side words painting (inl (none, is)) = cc
said_painting_side words painting (inr (no_fault, (rows, named, paint))) = value_side _ painting.side paint.side_is

pub process_painting_side : {Z E : Type 0} (args : Result (IntoIter (String Z) Z) E) (painting : PaintCall)
    → ProcessSays args (Paint painting) → IsTileSide painting.side
process_painting_side args painting says =
    ok_gives args _ (IsTileSide painting.side) (λ given said. said_painting_side said.0 painting said.2) says

-- reading words gives usage or want of memory
pub words_are_early : {Z E : Type 0} (args : Result (IntoIter (String Z) Z) E) (e : RunError)
    → IsRefusalOfWords e → RunEndsEarly args e
words_are_early args e (inl usage) = inl usage
words_are_early args e (inr memory) = inr (inl memory)

pub words_are_no_device : (e : RunError) → IsRefusalOfWords e → IsTransferFault e → ⊥
words_are_no_device e (inl usage) device = cc
words_are_no_device e (inr memory) device = cc

pub words_are_no_file : (e : RunError) → IsRefusalOfWords e → e ≡ StateFile → ⊥
words_are_no_file e (inl usage) file = cc
words_are_no_file e (inr memory) file = cc

-- what is put of a line
pub tells_line : {E : Type 0} (result : Result (Unit {0}) E) (old new : SinkSeen) (line : List ℕ)
    → PutsAll result old new line → TellsLine old new line
tells_line (Ok value) old new line puts = inl puts.text
tells_line (Err e) old new line puts = inr (puts.fault, puts.front)

-- what is said of the run of a call, by what is said of what it calls
module _ {S T K : Type 0} {source_seen : S → SourceSeen} {source source' : S} {store_seen : T → StoreSeen}
    {store : T} {sink_seen : K → SinkSeen} {sink sink' : K} {result : Result (Unit {0}) RunError} {L : Type 0}
    (heard : L → LinkSeen) where
  pub view_runs : (call : Call) (conn : Conn) (side : ℕ) → call ≡ View conn side None
      → Answers (λ input _ text. (state : State) × IsView conn nothing input state text)
      (λ input e. InputStops nothing input e) result source_seen source source' sink_seen sink sink'
      → AnswersOverStore (IsAnswer heard call) (IsShownBy heard call) (StopsOn heard call) (EndsEarly call) result
      source_seen source source' store_seen store store sink_seen sink sink'
  view_runs call conn side is answers =
      rw is (record {
        serves = serves_alone _ _ _ _ _ _ _ _ _ _ _ _ result _ (λ input value text view. ((view, refl), view))
            (λ input e stops. stops) (λ input e stops. input_is_no_file e (input_stops_of_input _ input e stops))
            (λ e early. early) answers.responds;
        devices = answers.devices;
        stored = store_alone _ _ _ _ _ _ result _
            (λ input e stops. input_is_no_file e (input_stops_of_input _ input e stops)) answers.responds;
      })

  pub stored_view_runs : {store' : T} (call : Call) (conn : Conn) (side : ℕ) (name : List ℕ)
      → call ≡ View conn side (Some name)
      → AnswersOverStore (λ held. IsStoredView conn held name) (λ held. IsShownOver conn held name)
      (λ held. StoredStops conn held name) IsStoreFault result source_seen source source' store_seen store store'
      sink_seen sink sink'
      → AnswersOverStore (IsAnswer heard call) (IsShownBy heard call) (StopsOn heard call) (EndsEarly call) result
      source_seen source source' store_seen store store' sink_seen sink sink'
  stored_view_runs call conn side name is answers =
      rw is (record { serves = answers.serves; devices = answers.devices; stored = answers.stored })

  pub derivation_runs : (call : Call) (kind : Derivation) (h : ℕ) (conn : Conn) → call ≡ Derive kind h conn
      → Answers (λ input _ text. IsDerivation kind h conn input text) DerivationStops result source_seen source source'
      sink_seen sink sink'
      → AnswersOverStore (IsAnswer heard call) (IsShownBy heard call) (StopsOn heard call) (EndsEarly call) result
      source_seen source source' store_seen store store sink_seen sink sink'
  derivation_runs call kind h conn is answers =
      rw is (record {
        serves = serves_alone _ _ _ _ _ _ _ _ _ _ _ _ result _
            (λ input value text derived. ((derived, refl), derived))
            (λ input e stops. stops) (λ input e stops. input_is_no_file e (derivation_stops_of_input input e stops))
            (λ e early. early) answers.responds;
        devices = answers.devices;
        stored = store_alone _ _ _ _ _ _ result _
            (λ input e stops. input_is_no_file e (derivation_stops_of_input input e stops)) answers.responds;
      })
