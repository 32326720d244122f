-- A keeper and a node of one studio that work together. Only private functions have this in their contracts.
use Rattle.std.specs.Prelude.{◌≡◌, ◌<◌, ◌≤◌, ◌⊎◌, ◌↔◌, ◌++◌, ℕ, zero, suc, Bool, true, false, IsTrue, List, [], All}
use Rattle.std.specs.Prelude.{Result}
use Rattle.byte_devices.specs.Device.{HasRisenBy}
use Rattle.grid_core.specs.{declared.conn.Conn.Conn, declared.memory.Memory.Memory, Raster.Raster}
use Rattle.stroke_lattice.specs.State.{State}
use Rattle.core_rules.specs.Work.{Core}
use Rattle.tile_work.specs.WorkTable.{HasJobOut}
use Rattle.core_dispatch.specs.{declared.pen.PenEnd.PenEnd, Pens.IsOf, Pens.all_submitted, Growing.GrowsOn}
use Rattle.core_dispatch.specs.{declared.turned.Turned.Turned, Turns.TakesIn, Turns.TakesTurn}
use Rattle.core_dispatch.specs.{Books.BooksView, Books.KeepsRest}
use Rattle.reset_core.specs.declared.replica.settling.Slice.{Slice}
use Rattle.tiled_image.specs.Settling.{IsSettledFor}
use Rattle.studio.specs.{declared.keeper.Keeper.Keeper, declared.closed.Closed.Closed, Keeping.core_of}
use Rattle.studio.specs.Keeping.{dispatcher_of, books_of, studio_of}
use Rattle.studio.specs.{Company.KeepsCompany, Closing.IsClosed, Left.HasAtLeast, Left.IsLeft}
use Rattle.link_nodes.specs.{declared.node.Node.Node, Links.LinkSeen}
use Rattle.link_nodes.specs.Nodes.{pen_of, conn_of, print_of, submitted_by, node_studio, IsSameNode}
use Rattle.node_session.specs.{declared.desk.Desk.Desk, Given.HasGiven, Given.SomeSpells, Given.ComesFrom}

-- node and keeper are of one studio
abbrev pub IsOneStudio : Desk → Type 0
IsOneStudio desk = node_studio desk.node ≡ studio_of desk.keeper

-- the node's pen is one of the keeper's
abbrev pub HasItsPen : Desk → Type 0
HasItsPen desk = IsOf (pen_of desk.node) (books_of desk.keeper)

-- a desk of this core, at which nothing was done yet
pub record IsNewDesk (core : Core) (conn : Conn) (print : List ℕ) (desk : Desk) : Type 0 where
  pub core_is : core_of desk.keeper ≡ core
  pub opening : (books_of desk.keeper).opening ≡ core.state
  pub studio : IsOneStudio desk
  pub pen : HasItsPen desk
  pub image : (conn_of desk.node ≡ conn) × (print_of desk.node ≡ print)
  pub submitted : submitted_by desk.node ≡ []

-- the node submitted these deltas more, and each is in a frame for its image that the link gave meanwhile
pub record Hears (old new : Node) (link link' : LinkSeen) : Type 0 where
  pub given : List (List ℕ)
  pub gives : HasGiven link link' given
  pub more : List State
  pub submits : submitted_by new ≡ submitted_by old ++ more
  pub each : All (SomeSpells (conn_of old) (print_of old) given) more

-- keeper and node stay what they are, also to each other, and the core's strokes only join
pub record Stays (old new : Desk) : Type 0 where
  pub opening : (books_of new.keeper).opening ≡ (books_of old.keeper).opening
  pub grows : GrowsOn (core_of old.keeper) (core_of new.keeper)
  pub company : KeepsCompany old.keeper new.keeper
  pub node : IsSameNode old.node new.node

-- the same, and nothing is submitted
abbrev pub StaysSilent : Desk → Desk → Type 0
StaysSilent old new = Stays old new × (submitted_by new.node ≡ submitted_by old.node)

-- the same in so many ticks, at each of which the link is polled and the node submits what it hears
pub record WorksOn (ticks : ℕ) (old new : Desk) (link link' : LinkSeen) : Type 0 where
  pub stays : Stays old new
  pub hears : Hears old.node new.node link link'
  pub polls : HasRisenBy ticks link.polls link'.polls

-- the keeper took a turn, and this says whether an edit or a report was taken in it
pub record IsTurnOf (old : Keeper) (busy : Bool) (new : Keeper) : Type 0 where
  pub turned : Turned
  pub takes : TakesTurn (dispatcher_of old) turned (dispatcher_of new)
  pub says : IsTrue busy ↔ ((0 < turned.edits) ⊎ (0 < turned.results))

-- so many turns, one after another
abbrev pub AreTurns : ℕ → Keeper → Keeper → Type 0
AreTurns zero old new = new ≡ old
AreTurns (suc n) old new = (k : Keeper) × AreTurns n old k × ((busy : Bool) × IsTurnOf k busy new)

-- the core settled for a slice of so many jobs, and nothing else in the books is another
abbrev pub HasSettledFor : ℕ → BooksView → BooksView → Type 0
HasSettledFor jobs old new =
    KeepsRest old new × ((answer : Result Slice Memory) × IsSettledFor old.core jobs answer new.core)

-- so much is left that bands by so many threads are said to take less time than turns
abbrev pub IsMuchLeft : ℕ → Core → Type 0
IsMuchLeft threads core =
    (threads < 3 → HasAtLeast 1 (IsLeft core)) × (3 ≤ threads → HasAtLeast 256 (IsLeft core))

-- a turn more, the last: in it neither an edit nor a report was taken, and no job is out; or behind it the core settled
-- for a slice of so many jobs, where much was left or hands brought nothing back
abbrev pub IsLastTurn : ℕ → ℕ → Keeper → BooksView → Type 0
IsLastTurn threads jobs old new =
    (k : Keeper) × (busy : Bool) × IsTurnOf old busy k
    × (((busy ≡ false) × ((t : ℕ) → HasJobOut (core_of k).tiles t → ⊥) × (new ≡ books_of k))
    ⊎ (((busy ≡ false) ⊎ IsMuchLeft threads (core_of k)) × HasSettledFor jobs (books_of k) new))

-- as many turns as there may be, or fewer and behind them the last one
abbrev pub HasTakenTurns : ℕ → ℕ → ℕ → Keeper → BooksView → Type 0
HasTakenTurns most threads jobs old new =
    (n : ℕ) × (k : Keeper) × AreTurns n old k
    × (((n ≡ most) × (new ≡ books_of k)) ⊎ ((n < most) × IsLastTurn threads jobs k new))

-- the keeper took in what waited, and this says whether an edit was taken
pub record TookIn (old : Keeper) (edited : Bool) (new : Keeper) : Type 0 where
  pub taken : Turned
  pub takes : TakesIn (dispatcher_of old) taken (dispatcher_of new)
  pub says : IsTrue edited ↔ (0 < taken.edits)

-- so many times in a row an edit was taken in
abbrev pub TookInEdits : ℕ → Keeper → Keeper → Type 0
TookInEdits zero old new = new ≡ old
TookInEdits (suc n) old new = (k : Keeper) × TookInEdits n old k × TookIn k true new

-- edits were taken in as often as may be, or less often and then there was none
abbrev pub TookInAll : ℕ → Keeper → Keeper → Type 0
TookInAll most old new =
    (n : ℕ) × (k : Keeper) × TookInEdits n old k
    × (((n ≡ most) × (new ≡ k)) ⊎ ((n < most) × TookIn k false new))

-- the core settled for a slice of so many jobs, and then a turn was taken
abbrev pub HasSettledAndTurned : ℕ → Keeper → BooksView → Type 0
HasSettledAndTurned jobs old new =
    (settled turned : Keeper) × (busy : Bool) × HasSettledFor jobs (books_of old) (books_of settled)
    × IsTurnOf settled busy turned × (new ≡ books_of turned)

-- what waited was taken in. Where much was left then, the core settled for a slice of so many jobs and a turn was taken,
-- and else turns were
abbrev pub HasWorked : ℕ → ℕ → ℕ → Keeper → BooksView → Type 0
HasWorked most threads jobs old new =
    (k : Keeper) × TookInAll most old k
    × ((IsMuchLeft threads (core_of k) × HasSettledAndTurned jobs k new)
    ⊎ ((IsMuchLeft threads (core_of k) → ⊥) × HasTakenTurns most threads jobs k new))

-- the keeper's studio was closed with these ends, and this is its core
abbrev pub IsClosedTo : Keeper → List PenEnd → Core → Type 0
IsClosedTo keeper ends core = (closed : Closed) × IsClosed keeper ends closed × (core ≡ closed.core)

-- the desk's studio was closed, with what is left of its pen, and this is its core
pub record IsLeftBy (desk : Desk) (core : Core) : Type 0 where
  pub ends : List PenEnd
  pub submitted : All (λ end. all_submitted end ≡ submitted_by desk.node) ends
  pub closed : IsClosedTo desk.keeper ends core

-- the core was shared over the link for so many ticks: mask and connectivity are the same, and its strokes come from
-- what they were and from frames for its image that the link gave
pub record IsShared (conn : Conn) (print : List ℕ) (ticks : ℕ) (link link' : LinkSeen) (before after : Core) : Type 0
  where
    pub given : List (List ℕ)
    pub gives : HasGiven link link' given
    pub polls : HasRisenBy ticks link.polls link'.polls
    pub mask : after.mask ≡ before.mask
    pub conn_is : after.conn ≡ before.conn
    pub comes : ComesFrom conn print given before.state after.state

-- a core of this mask and connectivity has these strokes
pub record IsCoreOf (mask : Raster) (conn : Conn) (state : State) (core : Core) : Type 0 where
  pub mask_is : core.mask ≡ mask
  pub conn_is : core.conn ≡ conn
  pub state_is : core.state ≡ state
