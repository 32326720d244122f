-- What contracts see of a link over UDP.
use Rattle.std.specs.Prelude.{ℕ, List}
use Rattle.link_nodes.specs.declared.udp_link.UdpLink.{UdpLink}

-- the port that it was told to bind
abbrev pub port_of : UdpLink → ℕ
port_of link = link.port

-- the ports that each of its datagrams is for
abbrev pub peers_of : UdpLink → List ℕ
peers_of link = link.peers.items
