-- What is seen of the peers that are open.
use Rattle.std.specs.Prelude.{ℕ, ◌+◌, Bool, false, ◌&&◌, not, nat_le, if◌then◌else◌, List, Option, Some, None}
use Rattle.page_server.specs.{declared.peer.Peer.Peer, declared.peers.PeerList.PeerList}

-- for so many milliseconds what a peer still sends is dropped
abbrev pub linger_time : ℕ
linger_time = 2000

-- so many milliseconds have gone by since the moment, if there is one
abbrev pub is_over : ℕ → ℕ → Option ℕ → Bool
is_over now limit None = false
is_over now limit (Some since) = nat_le (since + limit) now

-- so many have not gone by yet
abbrev pub is_before : ℕ → ℕ → Option ℕ → Bool
is_before now limit None = false
is_before now limit (Some since) = not (nat_le (since + limit) now)

module _ {C : Type 0} where
  abbrev pub peers_of : PeerList C → List (Peer C)
  peers_of p = p.list.items

  -- how many there may be
  abbrev pub most_of : PeerList C → ℕ
  most_of p = p.most

  -- a peer is open, bytes have moved over it within so many milliseconds, and no request is unfinished for as many as a
  -- request may take; or it is done, and not for long
  abbrev pub stays : ℕ → ℕ → ℕ → Peer C → Bool
  stays now patience total p =
      if p.is_open then not (nat_le (p.moved + patience) now) && not (is_over now total p.begun)
      else is_before now linger_time p.ended
