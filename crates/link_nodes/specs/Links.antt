-- What is seen of a link, and what one call does to it.
use Rattle.std.specs.Prelude.{◌≡◌, ℕ, ◌≤◌, List, [], ◌∷◌, ◌++◌, length, take, Option, None, Result, IfOk, IfSome}
use Rattle.std.specs.Prelude.{MatchOption, MatchResult, option_map}
use Rattle.byte_devices.specs.Device.{count_after}

-- the datagrams that polls gave and those that were sent, oldest first, where they are known; how many polls and sends
-- were made, and how many of them failed
pub record LinkSeen : Type 0 where
  pub heard : Option (List (List ℕ))
  pub sent : Option (List (List ℕ))
  pub polls : ℕ
  pub sends : ℕ
  pub failures : ℕ

-- a link that keeps no datagram, and was not called yet
abbrev pub fresh_link : LinkSeen
fresh_link = record { heard = None; sent = None; polls = 0; sends = 0; failures = 0 }

-- known datagrams are longer by this one
abbrev pub Adds : Option (List (List ℕ)) → Option (List (List ℕ)) → List ℕ → Type 0
Adds old new datagram = new ≡ option_map (λ datagrams. datagrams ++ datagram ∷ []) old

-- one poll was made, and nothing was sent
pub record IsPolled (old new : LinkSeen) : Type 0 where
  pub polls : new.polls ≡ count_after old.polls 1
  pub sends : new.sends ≡ old.sends
  pub sent : new.sent ≡ old.sent

-- one send was made, and nothing was heard
pub record IsSent (old new : LinkSeen) : Type 0 where
  pub sends : new.sends ≡ count_after old.sends 1
  pub polls : new.polls ≡ old.polls
  pub heard : new.heard ≡ old.heard

-- a poll gave no datagram
abbrev pub GivesNone : LinkSeen → LinkSeen → Type 0
GivesNone old new = IsPolled old new × (new.heard ≡ old.heard) × (new.failures ≡ old.failures)

-- a poll gave this datagram
abbrev pub Gives : LinkSeen → LinkSeen → List ℕ → Type 0
Gives old new datagram = IsPolled old new × Adds old.heard new.heard datagram × (new.failures ≡ old.failures)

-- a poll failed, and gave no datagram
abbrev pub FailsToGive : LinkSeen → LinkSeen → Type 0
FailsToGive old new = IsPolled old new × (new.heard ≡ old.heard) × (new.failures ≡ count_after old.failures 1)

-- a send took this datagram
abbrev pub Takes : LinkSeen → LinkSeen → List ℕ → Type 0
Takes old new datagram = IsSent old new × Adds old.sent new.sent datagram × (new.failures ≡ old.failures)

-- a send failed, and took nothing that is known
abbrev pub FailsToTake : LinkSeen → LinkSeen → Type 0
FailsToTake old new = IsSent old new × (new.sent ≡ old.sent) × (new.failures ≡ count_after old.failures 1)

-- a poll: it gives a datagram at the front of a buffer that is this one afterwards, or none, or it fails
pub record Polls {E : Type 0} (old new : LinkSeen) (result : Result (Option ℕ) E) (buffer : List ℕ) : Type 0 where
  pub bound : IfOk result (λ found. IfSome found (λ n. n ≤ length buffer))
  pub outcome : MatchResult result (λ found. MatchOption found (GivesNone old new) (λ n. Gives old new (take n buffer)))
      (λ _. FailsToGive old new)

-- a send: it takes the datagram, or it fails
abbrev pub Sends : {E : Type 0} → LinkSeen → LinkSeen → Result (Unit {0}) E → List ℕ → Type 0
Sends old new result datagram = MatchResult result (λ _. Takes old new datagram) (λ _. FailsToTake old new)
