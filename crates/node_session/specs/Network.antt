-- What is seen of a network, what a bind does to it, and what it tells after a run.
use Rattle.std.specs.Prelude.{◌≡◌, ◌<◌, ℕ, List, Option, None, Result, IfErr, IfSome, IsErrOf, MatchResult, OnOk}
use Rattle.byte_devices.specs.Device.{HasRisen, count_after}
use Rattle.run_faults.specs.{declared.run_error.RunError.RunError, declared.run_error.RunError.TheVariants.Link}

-- of a network: the port and the peers of the last link that it gave, where they are known, and how many binds failed
pub record NetworkSeen : Type 0 where
  pub port : Option ℕ
  pub peers : Option (List ℕ)
  pub failures : ℕ

-- a network that gave no link, and did not fail
abbrev pub fresh_network : NetworkSeen
fresh_network = record { port = None; peers = None; failures = 0 }

-- the last link that it gave is one at this port, to these peers, where that is known
abbrev pub IsBound : ℕ → List ℕ → NetworkSeen → Type 0
IsBound port peers seen = IfSome seen.port (λ p. p ≡ port) × IfSome seen.peers (λ known. known ≡ peers)

-- a bind: a link at this port to these peers, or a failure, which is counted
pub record Binds {L E : Type 0} (old new : NetworkSeen) (result : Result L E) (port : ℕ) (peers : List ℕ) : Type 0 where
  pub bound : OnOk result (IsBound port peers new)
  pub failures : MatchResult result (λ _. new.failures ≡ old.failures)
      (λ _. new.failures ≡ count_after old.failures 1)

-- What a network tells after a run: one that ended well left it so (`left`); D3 comes only of a network that failed,
-- and a network that failed gives it.
pub record TellsNetwork (left : NetworkSeen → Type 0) (result : Result (Unit {0}) RunError) (old new : NetworkSeen)
    : Type 0 where
  pub is_left : OnOk result (left new)
  pub fault : IfErr result (λ e. e ≡ Link → HasRisen old.failures new.failures)
  pub failure : old.failures < new.failures → IsErrOf result Link
