-- What a round does to the peers that are open.
use Rattle.std.specs.Prelude.{◌≡◌, ◌≢◌, ◌⊎◌, ℕ, ◌<◌, Bool, List, [], ◌++◌, length, if◌then◌else◌, IsTrue, IsFalse}
use Rattle.std.specs.Prelude.{Result, Ok, Err, true, false, Option, Some, None}
use Rattle.http_server.specs.{declared.connection.Connection.Connection, Connection.config_of, Connection.history}
use Rattle.http_server.specs.{Exchange.Call, History.History, History.IsDone, History.Rests, Rounds.IsCleared}
use Rattle.page_server.specs.declared.peer.Peer.{Peer}

-- items were added to a list
abbrev pub HasGrown : {X : Type 0} → List X → List X → Type 0
HasGrown old new = length old < length new

-- The moment since which a request is unfinished: that at which bytes first came behind the last call. With a call
-- there is none until more bytes come.
abbrev pub begun_after : ℕ → Bool → Bool → Option ℕ → Option ℕ
begun_after now true came begun = None
begun_after now false true None = Some now
begun_after now false came begun = begun

module _ {C : Type 0} where
  -- what the connection of a peer has done
  abbrev pub past : Peer C → History
  past p = history p.connection

  -- it was taken in at this moment, over this connection, and no request has begun
  pub record IsFresh (now : ℕ) (stream : C) (connection : Connection) (p : Peer C) : Type 0 where
    pub with : p.stream ≡ stream
    pub over : p.connection ≡ connection
    pub is_open : IsTrue p.is_open
    pub moved : p.moved ≡ now
    pub begun : p.begun ≡ None
    pub ended : p.ended ≡ None

  -- each whole request that came has been answered, if the output has room; or it is closed
  abbrev pub IsAtRest : Peer C → Type 0
  IsAtRest p = IsTrue p.is_open → Rests (config_of p.connection) (past p)

  -- bytes came, bytes went, either, or neither
  abbrev pub HasReceived : Peer C → Peer C → Type 0
  HasReceived old new = HasGrown (past old).received (past new).received

  abbrev pub HasSent : Peer C → Peer C → Type 0
  HasSent old new = HasGrown (past old).sent (past new).sent

  abbrev pub HasMoved : Peer C → Peer C → Type 0
  HasMoved old new = HasReceived old new ⊎ HasSent old new

  abbrev pub IsStill : Peer C → Peer C → Type 0
  IsStill old new = ((past new).received ≡ (past old).received) × ((past new).sent ≡ (past old).sent)

  -- its moment is now where bytes moved over it, and stays where none did; or it is closed
  abbrev pub NotesMoment : ℕ → Peer C → Peer C → Type 0
  NotesMoment now old new =
      IsTrue new.is_open → (HasMoved old new × (new.moved ≡ now)) ⊎ (IsStill old new × (new.moved ≡ old.moved))

  -- since when a request is unfinished is noted, by the calls that were made and by whether bytes came
  pub record NotesRequest (now : ℕ) (old new : Peer C) (mine : List Call) : Type 0 where
    pub called : mine ≢ [] → new.begun ≡ None
    pub received : mine ≡ [] → HasReceived old new → new.begun ≡ begun_after now false true old.begun
    pub still : mine ≡ [] → (past new).received ≡ (past old).received → new.begun ≡ old.begun

  -- What it sends though it is done is dropped. No call is made, nothing is sent, and that ends no later.
  abbrev pub Lingers : Peer C → Peer C → Type 0
  Lingers old new =
      (new ≡ record old { stream = new.stream; ended = new.ended }) × ((new.ended ≡ old.ended) ⊎ (new.ended ≡ None))

  -- What a transfer makes of it, which answers whether bytes moved: then its moment is now. Where the stream failed it
  -- is closed.
  abbrev pub after_transfer : {E : Type 0} → Result Bool E → ℕ → Peer C → Peer C
  after_transfer (Ok moved) now p = record p { moved = (if moved then now else p.moved) }
  after_transfer (Err e) now p = record p { is_open = false }

  -- that it is done is noted at this moment, or stays as it was
  abbrev pub NotesEnd : ℕ → Peer C → Peer C → Type 0
  NotesEnd now old new = (new.ended ≡ old.ended) ⊎ (IsDone (past new) × (new.ended ≡ Some now))

  -- it is closed where it is done, and that is noted; nothing else changes
  pub record ClosesIfDone (now : ℕ) (old new : Peer C) : Type 0 where
    pub done : IsDone (past old) → IsFalse new.is_open
    pub was_open : IsTrue new.is_open → IsTrue old.is_open
    pub ends : NotesEnd now old new
    pub rest : new ≡ record old { stream = new.stream; is_open = new.is_open; ended = new.ended }

  -- Its part in what is taken in: these calls, which changed what is kept or not, and nothing is sent. One that is
  -- closed takes nothing in.
  pub record TakesIn (changed came : Bool) (now : ℕ) (old new : Peer C) (mine : List Call) : Type 0 where
    pub config : config_of new.connection ≡ config_of old.connection
    pub received : (more : List ℕ) × ((past new).received ≡ (past old).received ++ more)
    pub calls : (past new).calls ≡ (past old).calls ++ mine
    pub unsent : (past new).sent ≡ (past old).sent
    pub noted : IsTrue old.is_open → new.has_changed ≡ changed
    pub rests : IsAtRest new
    pub still : IsFalse came → IsTrue new.is_open → (past new).received ≡ (past old).received
    pub moment : NotesMoment now old new
    pub request : IsTrue new.is_open → NotesRequest now old new mine
    pub was_open : IsTrue new.is_open → IsTrue old.is_open
    pub ended : IsTrue old.is_open → new.ended ≡ old.ended
    pub closed : IsFalse old.is_open → Lingers old new × (mine ≡ [])

  -- Its part in what is sent. Where the file is not kept, one whose calls changed what is kept is closed, and nothing
  -- is sent to it. One that is done is closed, too.
  pub record Finishes (kept went : Bool) (now : ℕ) (old new : Peer C) : Type 0 where
    pub config : config_of new.connection ≡ config_of old.connection
    pub received : (past new).received ≡ (past old).received
    pub calls : (past new).calls ≡ (past old).calls
    pub sent : (more : List ℕ) × ((past new).sent ≡ (past old).sent ++ more)
    pub lost : IsFalse kept → IsTrue old.has_changed → IsFalse new.is_open × ((past new).sent ≡ (past old).sent)
    pub done : IsDone (past new) → IsFalse new.is_open
    pub still : IsFalse went → IsTrue new.is_open → past new ≡ past old
    pub moment : NotesMoment now old new
    pub request : new.begun ≡ old.begun
    pub was_open : IsTrue new.is_open → IsTrue old.is_open
    pub ends : IsTrue old.is_open → NotesEnd now old new
    pub closed : IsFalse old.is_open → new ≡ old

  -- Its part in a round: these calls. All that was sent had been sent by a state of the connection that had made just
  -- the calls whose answers stand. Where those of this round do not, it is closed, and nothing is sent to it; so is one
  -- that is done. Where no byte moved, nothing waits to be answered. One that is closed makes no call, and nothing is
  -- sent to it.
  pub record TakesPart (stands moved : Bool) (now : ℕ) (old new : Peer C) (mine : List Call) : Type 0 where
    pub config : config_of new.connection ≡ config_of old.connection
    pub received : (more : List ℕ) × ((past new).received ≡ (past old).received ++ more)
    pub calls : (past new).calls ≡ (past old).calls ++ mine
    pub sent : (more : List ℕ) × ((past new).sent ≡ (past old).sent ++ more)
    pub cleared : IsCleared ((past old).calls ++ (if stands then mine else [])) new.connection
    pub lost : IsFalse stands → IsFalse new.is_open × ((past new).sent ≡ (past old).sent)
    pub done : IsDone (past new) → IsFalse new.is_open
    pub still : IsFalse moved → IsTrue new.is_open → IsStill old new
    pub rests : IsFalse moved → IsAtRest new
    pub moment : NotesMoment now old new
    pub request : IsTrue new.is_open → NotesRequest now old new mine
    pub was_open : IsTrue new.is_open → IsTrue old.is_open
    pub ends : IsTrue old.is_open → NotesEnd now old new
    pub closed : IsFalse old.is_open → Lingers old new × (mine ≡ [])
