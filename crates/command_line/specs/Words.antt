-- What the words of the command line say.
use Rattle.std.specs.Prelude.{◌≡◌, ◌≤◌, ◌⊎◌, ◌++◌, ℕ, [], List, Option, Some, None, String, map, drop, codes, true}
use Rattle.std.specs.Prelude.{false, string_bytes, decimal, length, All, Result, Err, IfOk, IfErr, IsOkAnd}
use Rattle.std.specs.{Iterator.Drains, Vec.Iter.into_iter_steps, declared.vec.IntoIter.IntoIter}
use Rattle.clap.specs.Words.{App, Row, Rule, Text, all_of, app_of, first_of, fault_of, new_app, new_rule, subcommand_of}
use Rattle.clap.specs.Words.{with_rule, with_subcommand}
use Rattle.clap.specs.{Simple.on_top, declared.builder.action.ArgAction.TheVariants.Append}
use Rattle.clap.specs.{declared.builder.command.Command.Command, declared.builder.command.Command.TheViews.out-Command}
use Rattle.grid_core.specs.{declared.conn.Conn.Conn, Tiles.IsTileSide}
use Rattle.grid_core.specs.declared.conn.Conn.TheVariants.{Four, Eight}
use Rattle.command_line.specs.declared.words.Call.{Call}
use Rattle.command_line.specs.declared.words.Call.TheVariants.{View, Node, Derive, Paint}
use Rattle.page_server.specs.declared.call.PaintCall.{PaintCall}
use Rattle.view_session.specs.declared.derive.Derivation.{Derivation as Kind}
use Rattle.view_session.specs.declared.derive.Derivation.TheVariants.{Fill, HMax, RegMax}
use Rattle.run_faults.specs.declared.run_error.RunError.{RunError}
use Rattle.run_faults.specs.declared.run_error.RunError.TheVariants.{Memory, Usage}

-- an option `--name`, which takes one value
abbrev pub option_of : Text → Rule
option_of name = record (new_rule name) { long = Some name }

-- the word `name`, which may be given several times: all uses count together
abbrev pub words_of : Text → Rule
words_of name = record (new_rule name) { action = Some Append }

-- a subcommand with the options of a view
abbrev pub viewing_command : Text → App
viewing_command name = with_rule (with_rule (with_rule (new_app name) (option_of (codes "conn")))
    (option_of (codes "tile"))) (option_of (codes "state"))

-- the subcommand `view`, with these options alone
abbrev pub view_command : App
view_command = viewing_command (codes "view")

-- the subcommand `node`, with these too and its own, and with the words for its peers
abbrev pub node_command : App
node_command =
    with_rule (with_rule (with_rule (with_rule (viewing_command (codes "node")) (option_of (codes "port")))
    (option_of (codes "ticks"))) (option_of (codes "hands"))) (words_of (codes "peer"))

-- the subcommand `derive`, with the word behind it and these options alone
abbrev pub derive_command : App
derive_command = with_rule (with_rule (with_rule (new_app (codes "derive")) (new_rule (codes "kind")))
    (option_of (codes "h"))) (option_of (codes "conn"))

-- the subcommand `paint`, with the options of a view and its own, and with the word behind it
abbrev pub paint_command : App
paint_command = with_rule (with_rule (with_rule (viewing_command (codes "paint")) (option_of (codes "port")))
    (option_of (codes "forward"))) (new_rule (codes "mask"))

-- the program: its words begin behind its name, they have to name a subcommand, and they can ask for no help
abbrev pub program : App
program = with_subcommand (with_subcommand (with_subcommand (with_subcommand (on_top (λ top. record top {
  no_binary_name = true;
  disable_help_flag = true;
  disable_help_subcommand = true;
  subcommand_required = true;
}) (new_app (codes "seedpaint"))) view_command.top) derive_command.top) node_command.top) paint_command.top

-- what clap knows of the command is this, and none of its arguments is one of its subcommands too
abbrev pub IsLocal : App → Command → Type 0
IsLocal app command = (app_of command ≡ app) × ((out-Command command).has_globals ≡ false)

-- whatever clap knows of the one command, the other is that with an option of this name more
abbrev pub AddsOption : Command → Text → Command → Type 0
AddsOption old name new = (app : App) → IsLocal app old → IsLocal (with_rule app (option_of name)) new

-- the value of `--conn` names this connectivity; where there is none, it is that of four neighbours
abbrev pub ConnIs : Option Text → Conn → Type 0
ConnIs None conn = conn ≡ Four
ConnIs (Some value) conn = ((value ≡ codes "4") × (conn ≡ Four)) ⊎ ((value ≡ codes "8") × (conn ≡ Eight))

-- the value of `--conn` names no connectivity
abbrev pub NamesNoConn : Option Text → Type 0
NamesNoConn value = (conn : Conn) → ConnIs value conn → ⊥

-- the value of `--tile` is this side in decimal, and tiles may have it; where there is none, it is 64
abbrev pub SideIs : Option Text → ℕ → Type 0
SideIs None side = side ≡ 64
SideIs (Some value) side = (value ≡ decimal side) × IsTileSide side

-- the value of `--tile` names no side
abbrev pub NamesNoSide : Option Text → Type 0
NamesNoSide value = (side : ℕ) → SideIs value side → ⊥

-- the word behind `derive` names this derivation
abbrev pub KindIs : Option Text → Kind → Type 0
KindIs word Fill = word ≡ Some (codes "fill")
KindIs word HMax = word ≡ Some (codes "hmax")
KindIs word RegMax = word ≡ Some (codes "regmax")

-- it names none, or there is no such word
abbrev pub NamesNoKind : Option Text → Type 0
NamesNoKind word = (kind : Kind) → KindIs word kind → ⊥

-- the value of `--h` is this number in decimal, 0 to 65535; where there is none, it is 1
abbrev pub HIs : Option Text → ℕ → Type 0
HIs None h = h ≡ 1
HIs (Some value) h = (value ≡ decimal h) × (h ≤ 65535)

-- the value of `--h` names no such number
abbrev pub NamesNoH : Option Text → Type 0
NamesNoH value = (h : ℕ) → HIs value h → ⊥

-- the text is this number in decimal, in this range; where there is no text, it is this default, if there is one
abbrev pub NumberIs : Option ℕ → ℕ → ℕ → Option Text → ℕ → Type 0
NumberIs default least most None n = default ≡ Some n
NumberIs default least most (Some value) n = (value ≡ decimal n) × (least ≤ n) × (n ≤ most)

-- the value of `--port` is this port, 1 to 65535; it has to be there
abbrev pub PortIs : Option Text → ℕ → Type 0
PortIs = NumberIs None 1 65535

-- the value of `--ticks` is this number, 1 to 100000; it has to be there
abbrev pub TicksIs : Option Text → ℕ → Type 0
TicksIs = NumberIs None 1 100000

-- the value of `--hands` is this number, 1 to 16; where there is none, it is 2
abbrev pub HandsIs : Option Text → ℕ → Type 0
HandsIs = NumberIs (Some 2) 1 16

-- the texts are these ports in decimal, each 1 to 65535
abbrev pub ArePorts : List Text → List ℕ → Type 0
ArePorts values ports = All (λ port. (1 ≤ port) × (port ≤ 65535)) ports × (values ≡ map decimal ports)

-- the words behind `node` are these ports; there are 1 to 8 of them
abbrev pub PeersAre : Option (List Text) → List ℕ → Type 0
PeersAre None peers = ⊥
PeersAre (Some values) peers = ArePorts values peers × (1 ≤ length peers) × (length peers ≤ 8)

-- what the words give the options of `node`, and its peers, is this
pub record IsNode (rows : List Row) (conn : Conn) (side port ticks hands : ℕ) (peers : List ℕ) (file : Option Text)
    : Type 0 where
  pub conn_is : ConnIs (first_of (codes "conn") rows) conn
  pub side_is : SideIs (first_of (codes "tile") rows) side
  pub file_is : file ≡ first_of (codes "state") rows
  pub port_is : PortIs (first_of (codes "port") rows) port
  pub ticks_is : TicksIs (first_of (codes "ticks") rows) ticks
  pub hands_is : HandsIs (first_of (codes "hands") rows) hands
  pub peers_are : PeersAre (all_of (codes "peer") rows) peers

-- the value of `--port` behind `paint` is this port, 0 to 65535; where there is no value, there is no port
abbrev pub PagePortIs : Option Text → Option ℕ → Type 0
PagePortIs None port = port ≡ None
PagePortIs (Some value) port = (n : ℕ) × (port ≡ Some n) × NumberIs None 0 65535 (Some value) n

-- the state file of a painting has the name that is the value of `--state`; where there is none, it is the mask's with
-- `.spd` behind it
abbrev pub KeptFileIs : Text → Option Text → Text → Type 0
KeptFileIs mask None name = name ≡ mask ++ codes ".spd"
KeptFileIs mask (Some value) name = name ≡ value

-- what the words give the options of `paint`, and its word, is this
pub record IsPaint (rows : List Row) (painting : PaintCall) : Type 0 where
  pub mask_is : first_of (codes "mask") rows ≡ Some painting.mask
  pub file_is : KeptFileIs painting.mask (first_of (codes "state") rows) painting.file
  pub conn_is : ConnIs (first_of (codes "conn") rows) painting.conn
  pub side_is : SideIs (first_of (codes "tile") rows) painting.side
  pub port_is : PagePortIs (first_of (codes "port") rows) painting.port
  pub forward_is : painting.forward ≡ first_of (codes "forward") rows

-- the subcommand that the words name, with what they give its options, is this call; the value of `--state` is the name
-- of the state file
abbrev pub IsCall : Option (Text × List Row) → Call → Type 0
IsCall named (View conn side file) =
    (rows : List Row) × (named ≡ Some (codes "view", rows)) × ConnIs (first_of (codes "conn") rows) conn
    × SideIs (first_of (codes "tile") rows) side × (file ≡ first_of (codes "state") rows)
IsCall named (Node conn side port ticks hands peers file) =
    (rows : List Row) × (named ≡ Some (codes "node", rows)) × IsNode rows conn side port ticks hands peers file
IsCall named (Derive kind h conn) =
    (rows : List Row) × (named ≡ Some (codes "derive", rows)) × KindIs (first_of (codes "kind") rows) kind
    × HIs (first_of (codes "h") rows) h × ConnIs (first_of (codes "conn") rows) conn
IsCall named (Paint painting) = (rows : List Row) × (named ≡ Some (codes "paint", rows)) × IsPaint rows painting

-- the words say this call: no word says `view` with four neighbours and tiles of side 64, without a state file, and in
-- others clap finds no fault and reads it
abbrev pub Says : List Text → Call → Type 0
Says words call = ((words ≡ []) × (call ≡ View Four 64 None))
    ⊎ ((fault_of program words ≡ []) × IsCall (subcommand_of program words) call)

-- the words say no call
abbrev pub IsUsage : List Text → Type 0
IsUsage words = (call : Call) → Says words call → ⊥

-- the arguments of a process give these words behind the first, which is the program's name
abbrev pub GivesWords : {Z : Type 0} → IntoIter (String Z) Z → List Text → Type 0
GivesWords args words = (all : List _) × Drains into_iter_steps args all × (words ≡ map string_bytes (drop 1 all))

-- the words of the process, where they could be had, say this call
abbrev pub ProcessSays : {Z E : Type 0} → Result (IntoIter (String Z) Z) E → Call → Type 0
ProcessSays args call = IsOkAnd args (λ given. (words : List Text) × GivesWords given words × Says words call)

-- or they say none
abbrev pub ProcessSaysNone : {Z E : Type 0} → Result (IntoIter (String Z) Z) E → Type 0
ProcessSaysNone args = IfOk args (λ given. (words : List Text) × GivesWords given words × IsUsage words)

-- the words are refused: they are usage, or there is no memory to read them
abbrev pub IsRefusalOfWords : RunError → Type 0
IsRefusalOfWords e = (e ≡ Usage) ⊎ (e ≡ Memory)

-- What is read of words: a value that they say, or a refusal, which is usage only where they say none.
pub record Reads {T : Type 0} (says : T → Type 0) (result : Result T RunError) : Type 0 where
  pub said : IfOk result says
  pub refused : IfErr result IsRefusalOfWords
  pub usage : result ≡ Err Usage → (value : T) → says value → ⊥
