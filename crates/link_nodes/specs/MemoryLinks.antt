-- What contracts see of a link in memory.
use Rattle.std.specs.Prelude.{◌≡◌, ◌⊎◌, ◌↔◌, ℕ, List, [], ◌∷◌, ◌++◌, take, slice_get, Option, Some, Result, IsErr, IfOk}
use Rattle.std.specs.Prelude.{OnOk, MatchOption}
use Rattle.std.specs.List.{AllZip}
use Rattle.byte_devices.specs.Device.{count_after, HasRisen}
use Rattle.link_nodes.specs.{declared.link.TheConstants.BUFFER_BYTES, Links.LinkSeen, Links.Polls, Links.Sends}

-- the datagrams that wait to be given, those that were given and those that were sent, oldest first; the call that
-- fails (polls and sends counted together, from 1), and the counts; refused are the sends that found no memory
pub record MemoryLinkView : Type 0 where
  pub waiting : List (List ℕ)
  pub heard : List (List ℕ)
  pub sent : List (List ℕ)
  pub fails_at : Option ℕ
  pub calls : ℕ
  pub polls : ℕ
  pub sends : ℕ
  pub failures : ℕ
  pub refused : ℕ

-- what is seen of it as a link
abbrev pub link_seen : MemoryLinkView → LinkSeen
link_seen m = record {
  heard = Some m.heard;
  sent = Some m.sent;
  polls = m.polls;
  sends = m.sends;
  failures = m.failures;
}

-- a link with nothing waiting, given or sent, whose call of this number fails
abbrev pub fresh_memory_link : Option ℕ → MemoryLinkView
fresh_memory_link fails_at = record {
  waiting = [];
  heard = [];
  sent = [];
  fails_at = fails_at;
  calls = 0;
  polls = 0;
  sends = 0;
  failures = 0;
  refused = 0;
}

-- as much of a datagram as a poll gives
abbrev pub front_of : List ℕ → List ℕ
front_of datagram = take BUFFER_BYTES datagram

-- a call is counted, and the choice stays
pub record IsCalled (old new : MemoryLinkView) : Type 0 where
  pub calls : new.calls ≡ count_after old.calls 1
  pub same_choice : new.fails_at ≡ old.fails_at

-- a poll from memory: the datagram that waits longest, or none where none waits; only the chosen call fails
pub record PollsMemory {E : Type 0} (old new : MemoryLinkView) (result : Result (Option ℕ) E) (buffer : List ℕ)
    : Type 0 where
  pub polls : Polls (link_seen old) (link_seen new) result buffer
  pub called : IsCalled old new
  pub chosen : IsErr result ↔ (old.fails_at ≡ Some new.calls)
  pub oldest : IfOk result (λ found. MatchOption found ((old.waiting ≡ []) × (new.waiting ≡ []))
      (λ n. (datagram : List ℕ) × (old.waiting ≡ datagram ∷ new.waiting) × (take n buffer ≡ front_of datagram)))
  pub failed : IsErr result → new.waiting ≡ old.waiting
  pub refused : new.refused ≡ old.refused

-- a send into memory; the chosen call fails, and otherwise only one that finds no memory
pub record SendsMemory {E : Type 0} (old new : MemoryLinkView) (result : Result (Unit {0}) E) (datagram : List ℕ)
    : Type 0 where
  pub sends : Sends (link_seen old) (link_seen new) result datagram
  pub called : IsCalled old new
  pub chosen : old.fails_at ≡ Some new.calls → IsErr result × (new.refused ≡ old.refused)
  pub others : IsErr result → (old.fails_at ≡ Some new.calls) ⊎ HasRisen old.refused new.refused
  pub steady : OnOk result (new.refused ≡ old.refused)
  pub waiting : new.waiting ≡ old.waiting

-- these datagrams stand at these places of the list, in this order
abbrev pub StandAt : List (List ℕ) → List ℕ → List (List ℕ) → Type 0
StandAt datagrams places chosen = AllZip (λ i datagram. slice_get datagrams i ≡ Some datagram) places chosen

-- the datagrams at these places wait behind the others, and nothing else is changed
abbrev pub IsFed : List (List ℕ) → List ℕ → MemoryLinkView → MemoryLinkView → Type 0
IsFed datagrams places old new = (chosen : List (List ℕ)) × StandAt datagrams places chosen
    × (new ≡ record old { waiting = old.waiting ++ chosen })

-- the same of some front of the places
abbrev pub IsFedFront : List (List ℕ) → List ℕ → MemoryLinkView → MemoryLinkView → Type 0
IsFedFront datagrams places old new = (n : ℕ) × IsFed datagrams (take n places) old new
